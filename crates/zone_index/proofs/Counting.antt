-- How many entries act after an edit.
use Rattle.std.proofs.Common.{◌≡◌, ℕ, ◌+◌, ◌≤◌, Bool, true, false, cond, ◌||◌, nat_lt, List, [], ◌∷◌, Option, Some, None, refl, sym, ap, ◌∙◌, subst, is_eq, arith}
use Rattle.std.proofs.lemmas.Bool.Decides.{nat_tests}
use Rattle.std.specs.BTreeMap.{insert_entry, is_at}
use Rattle.std.specs.Cmp.{IsTotalOrder}
use Rattle.std.specs.List.{AllByRecursion}
use Rattle.std.specs.List.Sorted.{IsStrictlySortedBy}
use Rattle.std.specs.Map.{keys_of, lookup, remove_entry}
use Rattle.std.specs.Ordering.{match_ordering}
use Rattle.std.specs.declared.cmp.Ordering.{Ordering}
use Rattle.std.specs.declared.cmp.Ordering.TheVariants.{Less, Equal, Greater}
use Rattle.trie_keys.proofs.Sorting.{sorted_inserted, sorted_removed}
use Rattle.trie_keys.specs.declared.marked.Marked.{Marked}
use Rattle.zone_index.specs.Counted.{IsCounted, acting, acting_in, one_acting, some_kept}
use Rattle.zone_index.specs.Kept.{kept_acts}
use Rattle.zone_index.specs.declared.kept.Kept.{Kept}

some_by : (b : Bool) (rest : Bool) (n : ℕ) → rest ≡ nat_lt 0 n → (b || rest) ≡ nat_lt 0 (cond b 1 0 + n)
some_by true rest n h = grind (arith, nat_tests)
some_by false rest n h = grind (arith, nat_tests)

found_by : (b : Bool) (v : Marked ℕ Kept) (rest : Option (Marked ℕ Kept)) (n : ℕ) → acting_in rest ≤ n → acting_in (cond b (Some v) rest) ≤ one_acting v + n
found_by true v rest n h = omega arith
found_by false v rest n h = omega arith

module _ {K : Type 0} where
  -- there is one that acts where some do
  pub some_counted : (es : List (K × Marked ℕ Kept)) → some_kept es ≡ nat_lt 0 (acting es)
  some_counted [] = refl
  some_counted (e ∷ es) = some_by (kept_acts e.1.mark) (some_kept es) (acting es) (some_counted es)

  pub acting_found : (test : K → Bool) (es : List (K × Marked ℕ Kept)) → acting_in (lookup test es) ≤ acting es
  acting_found test [] = omega arith
  acting_found test (e ∷ es) = found_by (test e.0) e.1 (lookup test es) (acting es) (acting_found test es)

  removed_by : (b : Bool) (e : K × Marked ℕ Kept) (es rest : List (K × Marked ℕ Kept)) (found : Option (Marked ℕ Kept)) → acting rest + acting_in found ≡ acting es
      → acting (cond b es (e ∷ rest)) + acting_in (cond b (Some e.1) found) ≡ one_acting e.1 + acting es
  removed_by true e es rest found h = omega arith
  removed_by false e es rest found h = omega arith

  pub acting_removed : (test : K → Bool) (es : List (K × Marked ℕ Kept)) → acting (remove_entry test es) + acting_in (lookup test es) ≡ acting es
  acting_removed test [] = refl
  acting_removed test (e ∷ es) = removed_by (test e.0) e es (remove_entry test es) (lookup test es) (acting_removed test es)

module _ {K : Type 0} (order : K → K → Ordering) (total : IsTotalOrder order) where
  -- nothing is found among keys that come later
  pub none_later : (k : K) (es : List (K × Marked ℕ Kept)) → AllByRecursion (λ y. order k y ≡ Less) (keys_of es) → lookup (is_at (order k)) es ≡ None
  none_later k [] all = refl
  none_later k (e ∷ es) all = ap (λ o. cond (is_eq o) (Some e.1) (lookup (is_at (order k)) es)) all.0 ∙ none_later k es all.1

  later : (k e : K) (ks : List K) → order k e ≡ Less → AllByRecursion (λ y. order e y ≡ Less) ks → AllByRecursion (λ y. order k y ≡ Less) ks
  later k e [] h all = tt
  later k e (y ∷ ks) h all = (total.trans k e y h all.0, later k e ks h all.1)

  inserted_by : (o : Ordering) (k : K) (v : Marked ℕ Kept) (e : K × Marked ℕ Kept) (es rest : List (K × Marked ℕ Kept)) (found : Option (Marked ℕ Kept)) → (o ≡ Less → found ≡ None)
      → acting rest + acting_in found ≡ acting es + one_acting v
      → acting (match_ordering o ((k, v) ∷ e ∷ es) ((e.0, v) ∷ es) (e ∷ rest)) + acting_in (cond (is_eq o) (Some e.1) found) ≡ (one_acting e.1 + acting es) + one_acting v
  inserted_by Less k v e es rest found none h = let n : acting_in found ≡ 0 = ap acting_in (none refl) in omega arith
  inserted_by Equal k v e es rest found none h = omega arith
  inserted_by Greater k v e es rest found none h = omega arith

  pub acting_inserted : (k : K) (v : Marked ℕ Kept) (es : List (K × Marked ℕ Kept)) → IsStrictlySortedBy order (keys_of es) → acting (insert_entry order es k v) + acting_in (lookup (is_at (order k)) es) ≡ acting es + one_acting v
  unfolding IsStrictlySortedBy
  acting_inserted k v [] sorted = omega arith
  acting_inserted k v (e ∷ es) sorted =
      inserted_by (order k e.0) k v e es (insert_entry order es k v) (lookup (is_at (order k)) es)
      (λ h. none_later k es (later k e.0 (keys_of es) h sorted.0)) (acting_inserted k v es sorted.1)

  pub counted_inserted : (k : K) (v : Marked ℕ Kept) (es : List (K × Marked ℕ Kept)) (count new : ℕ) → IsCounted order es count
      → new + acting_in (lookup (is_at (order k)) es) ≡ count + one_acting v → IsCounted order (insert_entry order es k v) new
  counted_inserted k v es count new is h = record {
    sorted = sorted_inserted order total k v es is.sorted;
    counted = omega (arith, is.counted, acting_inserted k v es is.sorted);
  }

  pub counted_removed : (k : K) (es : List (K × Marked ℕ Kept)) (count new : ℕ) → IsCounted order es count
      → new + acting_in (lookup (is_at (order k)) es) ≡ count → IsCounted order (remove_entry (is_at (order k)) es) new
  counted_removed k es count new is h = record {
    sorted = sorted_removed order total (is_at (order k)) es is.sorted;
    counted = omega (arith, is.counted, acting_removed (is_at (order k)) es);
  }

  -- ---- in the words of the functions: `whole` is the list that contracts see, `es` that of the trie

  pub fits : (k : K) (es whole : List (K × Marked ℕ Kept)) (count : ℕ) (old : Option (Marked ℕ Kept)) → IsCounted order es count → es ≡ whole → old ≡ lookup (is_at (order k)) whole → acting_in old ≤ count
  fits k es whole count old is e h =
      let at : old ≡ lookup (is_at (order k)) es = h ∙ ap (lookup (is_at (order k))) (sym e) in
      let few : acting_in (lookup (is_at (order k)) es) ≤ acting es = acting_found (is_at (order k)) es in
      let same : acting_in old ≡ acting_in (lookup (is_at (order k)) es) = ap acting_in at in
      omega (arith, is.counted)

  pub counted_with : (k : K) (v : Marked ℕ Kept) (es whole made : List (K × Marked ℕ Kept)) (count new : ℕ) (old : Option (Marked ℕ Kept)) → IsCounted order es count → es ≡ whole → old ≡ lookup (is_at (order k)) whole
      → new + acting_in old ≡ count + one_acting v → made ≡ insert_entry order es k v → IsCounted order made new
  counted_with k v es whole made count new old is e h n m =
      let at : acting_in old ≡ acting_in (lookup (is_at (order k)) es) = ap acting_in (h ∙ ap (lookup (is_at (order k))) (sym e)) in
      subst (λ ms. IsCounted order ms new) (sym m) (counted_inserted k v es count new is (omega arith))

  pub counted_without : (k : K) (es whole made : List (K × Marked ℕ Kept)) (count new : ℕ) (old : Option (Marked ℕ Kept)) → IsCounted order es count → es ≡ whole → old ≡ lookup (is_at (order k)) whole
      → new + acting_in old ≡ count → made ≡ remove_entry (is_at (order k)) es → IsCounted order made new
  counted_without k es whole made count new old is e h n m =
      let at : acting_in old ≡ acting_in (lookup (is_at (order k)) es) = ap acting_in (h ∙ ap (lookup (is_at (order k))) (sym e)) in
      subst (λ ms. IsCounted order ms new) (sym m) (counted_removed k es count new is (omega arith))

module _ {K : Type 0} (order : K → K → Ordering) where
  none : IsCounted {K = K} order [] 0
  unfolding IsStrictlySortedBy
  none = record { sorted = tt; counted = refl }

  pub counted_none : (made : List (K × Marked ℕ Kept)) → made ≡ [] → IsCounted order made 0
  counted_none made e = subst (λ ms. IsCounted order ms 0) (sym e) none

  pub counted_has : (es whole : List (K × Marked ℕ Kept)) (count : ℕ) → IsCounted order es count → es ≡ whole → nat_lt 0 count ≡ some_kept whole
  counted_has es whole count is e = ap (nat_lt 0) is.counted ∙ sym (some_counted es) ∙ ap (λ xs. some_kept xs) e

  pub counted_sorted : (es whole : List (K × Marked ℕ Kept)) (count : ℕ) → IsCounted order es count → es ≡ whole → IsStrictlySortedBy order (keys_of whole)
  counted_sorted es whole count is e = subst (λ xs. IsStrictlySortedBy order (keys_of xs)) e is.sorted
