-- Marks in an ordered map: what its look-up and its insertion say of the lists of bytes.
use Rattle.std.proofs.Common.{◌≡◌, ℕ, Bool, true, false, cond, Option, Some, List, [], ◌∷◌, map, bytes_eq, refl, sym, ap, ◌∙◌, ⊎_elim, nat_cmp, is_eq}
use Rattle.std.specs.BTreeMap.{is_at}
use Rattle.std.specs.Cmp.{eq_by_cmp_equiv}
use Rattle.std.specs.Cmp.Lexicographic.{slice_cmp, bytes_decides, nat_list_cmp_total}
use Rattle.std.specs.Map.{lookup, AreApart, KeepsOthers}
use Rattle.std.proofs.lemmas.Bool.{cases_Bool}
use Rattle.std.proofs.lemmas.Map.Text.{is_eq-slice_cmp}
use Rattle.std.proofs.lemmas.Slice.Eq.{bytes_eq-Decides}

-- the test of keys doesn't depend on their order
flipped : (bs other : List ℕ) (b : Bool) → bytes_eq other bs ≡ b → bytes_eq bs other ≡ false → b ≡ false
flipped bs other false e differs = refl
flipped bs other true e differs =
    let same : bytes_eq bs other ≡ true = (bytes_eq-Decides bs other).1 (sym ((bytes_eq-Decides other bs).0 e)) in
    cc

module _ {K : Type 0} (bytes : K → List ℕ) where
  abbrev pub at_bytes : List ℕ → K → Bool
  at_bytes q = is_at (λ k. slice_cmp nat_cmp q (bytes k))

  abbrev pub by_bytes : K → K → Bool
  by_bytes x y = is_eq (slice_cmp nat_cmp (bytes x) (bytes y))

  apart : (bs other : List ℕ) → bytes_eq bs other ≡ false → AreApart (at_bytes bs) (at_bytes other)
  apart bs other differs k at =
      let same : bs ≡ bytes k = (bytes_decides bs (bytes k)).0 (sym (is_eq-slice_cmp bs (bytes k)) ∙ at) in
      is_eq-slice_cmp other (bytes k) ∙ ap (bytes_eq other) (sym same) ∙ flipped bs other (bytes_eq other bs) refl differs

module _ {K X : Type 0} (bytes : K → List ℕ) where
  abbrev pub plain : List (K × X) → List (List ℕ × X)
  plain es = map (λ e. (bytes e.0, e.1)) es

  -- the look-up by the order is the exact one
  pub lookup_plain : (q : List ℕ) (es : List (K × X)) → lookup (at_bytes bytes q) es ≡ lookup (bytes_eq q) (plain es)
  lookup_plain q [] = refl
  lookup_plain q (e ∷ es) = λ i. cond (is_eq-slice_cmp q (bytes e.0) i) (Some e.1) (lookup_plain q es i)

  other_key : (bs : List ℕ) (old new : List (K × X)) → KeepsOthers (by_bytes bytes) (at_bytes bytes bs) old new
      → (other : List ℕ) → bytes_eq bs other ≡ false → lookup (at_bytes bytes other) new ≡ lookup (at_bytes bytes other) old
  unfolding KeepsOthers
  other_key bs old new keeps other differs =
      keeps (at_bytes bytes other) (λ x y. (eq_by_cmp_equiv nat_list_cmp_total).congr other (bytes x) (bytes y)) (apart bytes bs other differs)

  -- a map that has w at bs now, and at other keys what it had
  pub lookup_put : (bs : List ℕ) (old new : List (K × X)) (w : Option X) → lookup (at_bytes bytes bs) new ≡ w → KeepsOthers (by_bytes bytes) (at_bytes bytes bs) old new
      → (other : List ℕ) → lookup (bytes_eq other) (plain new) ≡ cond (bytes_eq bs other) w (lookup (bytes_eq other) (plain old))
  lookup_put bs old new w has keeps other =
      ⊎_elim
      (λ same. sym (lookup_plain other new) ∙ ap (λ q. lookup (at_bytes bytes q) new) (sym ((bytes_eq-Decides bs other).0 same)) ∙ has
      ∙ sym (ap (λ b. cond b w (lookup (bytes_eq other) (plain old))) same))
      (λ differs. sym (lookup_plain other new) ∙ other_key bs old new keeps other differs ∙ lookup_plain other old
      ∙ sym (ap (λ b. cond b w (lookup (bytes_eq other) (plain old))) differs))
      (cases_Bool (bytes_eq bs other))
