-- All entries, in another order.
use Rattle.std.proofs.Common.{◌≡◌, ℕ, zero, suc, ◌+◌, ◌<◌, true, false, List, [], ◌∷◌, ◌++◌, map, reverse, length, take, slice_index_or, refl, sym, ap, ◌∙◌, subst, arith, append_assoc, is_eq}
use Rattle.std.proofs.lemmas.Cmp.{lists_total, nat_list_cmp_total}
use Rattle.std.proofs.lemmas.List.Sorted.{IsPermutation-cons, IsPermutation-insert, IsPermutation-refl, IsPermutation-sym, IsPermutation-trans}
use Rattle.std.specs.BTreeMap.{insert_entry, is_at}
use Rattle.std.specs.Char.{to_ascii_lowercase}
use Rattle.std.specs.Cmp.{IsTotalOrder, bool_cmp_total, on_total, then_total}
use Rattle.std.specs.List.{AllByRecursion}
use Rattle.std.specs.List.Sorted.{IsPermutation, IsSortedBy, IsStrictlySortedBy}
use Rattle.std.specs.Map.{keys_of}
use Rattle.std.specs.Ordering.{is_lt, match_ordering}
use Rattle.std.specs.declared.cmp.Ordering.{Ordering}
use Rattle.std.specs.declared.cmp.Ordering.TheVariants.{Less, Equal, Greater}
use Rattle.dns_name.specs.Alike.{PlainPattern}
use Rattle.dns_name.specs.Labels.{Name}
use Rattle.dns_name.specs.Order.{canonical_order, label_order}
use Rattle.qname_index.specs.Best.{pattern_order}
use Rattle.qname_index.specs.Listing.{AreListed, listing_order}
use Rattle.qname_index.specs.Patterns.{pattern_in}
use Rattle.qname_index.specs.Ranked.{IsPatternKey, patterns, ranked_patterns}
use Rattle.qname_index.specs.Trie.{IsNameTrie}
use Rattle.qname_index.proofs.Finding.{all_patterns, all_ranked}
use Rattle.qname_index.proofs.Same.{at_key, key_order}

label_total : IsTotalOrder label_order
label_total = on_total (λ (label : List ℕ). map to_ascii_lowercase label) nat_list_cmp_total

canonical_total : IsTotalOrder canonical_order
canonical_total = on_total (λ (name : Name). reverse name) (lists_total label_total)

pub listing_total : IsTotalOrder listing_order
listing_total = then_total (on_total (λ (p : PlainPattern). p.base) canonical_total) (on_total (λ (p : PlainPattern). p.wild) bool_cmp_total)

module _ {X : Type 0} where
  swapped : (x y : X) (xs : List X) → IsPermutation (x ∷ y ∷ xs) (y ∷ x ∷ xs)
  swapped x y xs = IsPermutation-insert (y ∷ xs) 1 x

not_at : (o : Ordering) → o ≡ Equal → is_eq o ≡ false → ⊥
not_at o e f = let k : true ≡ false = sym (ap is_eq e) ∙ f in cc k

module _ {V : Type 0} where
  abbrev IsNotIn : PlainPattern → List (PlainPattern × V) → Type 0
  IsNotIn p es = AllByRecursion (λ x. is_at (pattern_order p) x.0 ≡ false) es

  -- where the pattern isn't there yet, its entry comes among the others
  inserted_among : (p : PlainPattern) (v : V) (es : List (PlainPattern × V)) → IsNotIn p es → IsPermutation ((p, v) ∷ es) (insert_entry pattern_order es p v)
  inserted_among p v [] none = IsPermutation-refl ((p, v) ∷ [])
  inserted_among p v (e ∷ es) none =
      elim (pattern_order p e.0) as (λ o. pattern_order p e.0 ≡ o → IsPermutation ((p, v) ∷ e ∷ es) (match_ordering o ((p, v) ∷ e ∷ es) ((e.0, v) ∷ es) (e ∷ insert_entry pattern_order es p v))) [
        | Less ↦ λ h. IsPermutation-refl ((p, v) ∷ e ∷ es)
        | Equal ↦ λ h. absurd (not_at (pattern_order p e.0) h none.0)
        | Greater ↦ λ h.
            IsPermutation-trans ((p, v) ∷ e ∷ es) (e ∷ (p, v) ∷ es) (e ∷ insert_entry pattern_order es p v)
            (swapped (p, v) e es) (IsPermutation-cons e ((p, v) ∷ es) (insert_entry pattern_order es p v) (inserted_among p v es none.1))
      ] refl

  behind_all : (k : List ℕ) (es : List (List ℕ × V)) → AllByRecursion (λ y. key_order k y ≡ Less) (keys_of es) → AllByRecursion (λ x. is_at (key_order k) x.0 ≡ false) es
  behind_all k [] all = tt
  behind_all k (e ∷ es) all = (ap is_eq all.0, behind_all k es all.1)

  pub ranked_among : (es : List (List ℕ × V)) → AllByRecursion (λ e. IsPatternKey e.0) es → IsStrictlySortedBy key_order (keys_of es) → IsPermutation (patterns es) (ranked_patterns es)
  unfolding IsStrictlySortedBy
  ranked_among [] are sorted = IsPermutation-refl []
  ranked_among (e ∷ es) are sorted =
      let p = pattern_in e.0 in
      let apart : IsNotIn p (patterns es) =
      all_patterns (λ x. is_at (pattern_order p) x.0 ≡ false) (λ x. IsPatternKey x.0) (λ x. is_at (key_order e.0) x.0 ≡ false) es
      (λ x k h. at_key p x.0 k ∙ ap (λ key. is_at (key_order key) x.0) (sym are.0.same) ∙ h) are.1 (behind_all e.0 es sorted.0) in
      let none : IsNotIn p (ranked_patterns es) = all_ranked (λ x. is_at (pattern_order p) x.0 ≡ false) (patterns es) apart in
      IsPermutation-trans ((p, e.1) ∷ patterns es) ((p, e.1) ∷ ranked_patterns es) (ranked_patterns (e ∷ es))
      (IsPermutation-cons (p, e.1) (patterns es) (ranked_patterns es) (ranked_among es are.1 sorted.1))
      (inserted_among p e.1 (ranked_patterns es) none)

  -- the entries of a trie, sorted
  pub are_listed : (es : List (List ℕ × V)) (listed : List (PlainPattern × V)) → IsNameTrie es → IsPermutation (patterns es) listed → IsSortedBy (λ x y. is_lt (listing_order x.0 y.0)) listed → AreListed (ranked_patterns es) listed
  are_listed es listed trie moved sorted = record {
    same = IsPermutation-trans (ranked_patterns es) (patterns es) listed (IsPermutation-sym (patterns es) (ranked_patterns es) (ranked_among es trie.keys trie.ordered)) moved;
    sorted = sorted;
  }

-- ---- one entry more

take_more : {X : Type 0} (xs : List X) (i : ℕ) (x : X) → i < length xs → x ≡ slice_index_or xs i x → take (i + 1) xs ≡ take i xs ++ x ∷ []
take_more [] i x h e = absurd (omega (arith, h))
take_more (y ∷ ys) zero x h e = ap (λ z. z ∷ []) (sym e)
take_more (y ∷ ys) (suc i) x h e =
    let more : suc i + 1 ≡ suc (i + 1) = omega arith in
    ap (λ n. take n (y ∷ ys)) more ∙ ap (λ zs. y ∷ zs) (take_more ys i x (omega (arith, h)) e)

module _ {X V : Type 0} (f : X → List ℕ × V) where
  -- what is so of all is so of the one that comes
  pub one_of_all : (P : List ℕ × V → Type 0) (xs : List X) (i : ℕ) (x : X) → i < length xs → x ≡ slice_index_or xs i x → AllByRecursion P (map f xs) → P (f x)
  one_of_all P [] i x h e all = absurd (omega (arith, h))
  one_of_all P (y ∷ ys) zero x h e all = subst (λ z. P (f z)) (sym e) all.0
  one_of_all P (y ∷ ys) (suc i) x h e all = one_of_all P ys i x (omega (arith, h)) e all.1

  patterns_push : (xs : List X) (x : X) → patterns (map f (xs ++ x ∷ [])) ≡ patterns (map f xs) ++ (pattern_in (f x).0, (f x).1) ∷ []
  patterns_push [] x = refl
  patterns_push (y ∷ xs) x = ap (λ zs. (pattern_in (f y).0, (f y).1) ∷ zs) (patterns_push xs x)

  pub one_more : (old now new : List (PlainPattern × V)) (xs : List X) (i : ℕ) (x : X) (p : PlainPattern) → i < length xs → x ≡ slice_index_or xs i x
      → now ≡ old ++ patterns (map f (take i xs)) → new ≡ now ++ (p, (f x).1) ∷ [] → p ≡ pattern_in (f x).0 → new ≡ old ++ patterns (map f (take (i + 1) xs))
  one_more old now new xs i x p h e before pushed same =
      pushed
      ∙ ap (λ (es : List (PlainPattern × V)). es ++ (p, (f x).1) ∷ []) before
      ∙ append_assoc old (patterns (map f (take i xs))) ((p, (f x).1) ∷ [])
      ∙ ap (λ (q : PlainPattern). old ++ (patterns (map f (take i xs)) ++ (q, (f x).1) ∷ [])) same
      ∙ ap (λ es. old ++ es) (sym (patterns_push (take i xs) x))
      ∙ ap (λ ys. old ++ patterns (map f ys)) (sym (take_more xs i x h e))

  -- all of them, behind none
  pub all_put : (es : List (List ℕ × V)) (none all : List (PlainPattern × V)) (xs : List X) → map f xs ≡ es → none ≡ [] → all ≡ none ++ patterns (map f xs) → all ≡ patterns es
  all_put es none all xs same first put = put ∙ (λ i. first i ++ patterns (same i))
