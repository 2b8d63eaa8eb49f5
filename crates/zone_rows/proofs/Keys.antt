-- Keys that an ordered set compares by their bytes: what its look-up and its insertion say of the lists of bytes.
use Rattle.std.proofs.Common.{◌≡◌, ℕ, Bool, true, false, ◌||◌, List, [], ◌∷◌, map, bytes_eq, refl, sym, ap, ◌∙◌, ⊎_elim, nat_cmp, is_eq}
use Rattle.std.specs.Cmp.{eq_by_cmp_equiv}
use Rattle.std.specs.Cmp.Lexicographic.{slice_cmp, bytes_decides, nat_list_cmp_total}
use Rattle.std.specs.List.{list_any}
use Rattle.std.specs.Map.{IsKeyTest, AreApart}
use Rattle.std.specs.Set.{KeepsOthers}
use Rattle.std.proofs.lemmas.Bool.{cases_Bool}
use Rattle.std.proofs.lemmas.Map.Text.{is_eq-slice_cmp}
use Rattle.zone_rows.specs.KeySet.{has_key}

module _ {K : Type 0} (bytes : K → List ℕ) where
  -- the key's bytes compare equal to q
  abbrev pub is_at_bytes : List ℕ → K → Bool
  is_at_bytes q k = is_eq (slice_cmp nat_cmp q (bytes k))

  -- two keys compare equal
  abbrev pub same_bytes : K → K → Bool
  same_bytes x y = is_eq (slice_cmp nat_cmp (bytes x) (bytes y))

  -- the look-up by the order is the exact test
  pub any_is_has_key : (q : List ℕ) (keys : List K) → list_any (is_at_bytes q) keys ≡ has_key (map bytes keys) q
  any_is_has_key q [] = refl
  any_is_has_key q (k ∷ keys) = λ i. is_eq-slice_cmp q (bytes k) i || any_is_has_key q keys i

  other_key : (old new : List K) (bs : List ℕ) → KeepsOthers same_bytes (is_at_bytes bs) old new
      → (other : K → Bool) → IsKeyTest same_bytes other → AreApart (is_at_bytes bs) other → list_any other new ≡ list_any other old
  unfolding KeepsOthers
  other_key old new bs keeps = keeps

  apart : (bs other : List ℕ) → bytes_eq other bs ≡ false → AreApart (is_at_bytes bs) (is_at_bytes other)
  apart bs other differs k at =
      let same : bs ≡ bytes k = (bytes_decides bs (bytes k)).0 (sym (is_eq-slice_cmp bs (bytes k)) ∙ at) in
      is_eq-slice_cmp other (bytes k) ∙ ap (bytes_eq other) (sym same) ∙ differs

  -- a set that has bs now, and as to other keys what it had, has exactly one key more
  pub has_key-insert : (bs : List ℕ) (old new : List K) → list_any (is_at_bytes bs) new ≡ true → KeepsOthers same_bytes (is_at_bytes bs) old new
      → (other : List ℕ) → has_key (map bytes new) other ≡ (bytes_eq other bs || has_key (map bytes old) other)
  has_key-insert bs old new has keeps other =
      ⊎_elim
      (λ same. sym (any_is_has_key other new) ∙ ap (λ q. list_any (is_at_bytes q) new) ((bytes_decides other bs).0 same) ∙ has ∙ sym (ap (λ b. b || has_key (map bytes old) other) same))
      (λ differs. sym (any_is_has_key other new)
      ∙ other_key old new bs keeps (is_at_bytes other) (λ x y. (eq_by_cmp_equiv nat_list_cmp_total).congr other (bytes x) (bytes y)) (apart bs other differs)
      ∙ any_is_has_key other old
      ∙ sym (ap (λ b. b || has_key (map bytes old) other) differs))
      (cases_Bool (bytes_eq other bs))
