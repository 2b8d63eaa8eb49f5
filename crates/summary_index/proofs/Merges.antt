-- What stands in two lists of entries in order that are made one.
use Rattle.std.proofs.Common.{◌≡◌, ◌||◌, Bool, true, false, cond, Option, Some, None, List, [], ◌∷◌, refl, sym, ap, ◌∙◌}
use Rattle.std.specs.BTreeMap.{is_at}
use Rattle.std.specs.Cmp.{IsTotalOrder, alike_right}
use Rattle.std.specs.List.{AllByRecursion}
use Rattle.std.specs.List.Sorted.{IsStrictlySortedBy}
use Rattle.std.specs.Map.{keys_of, lookup}
use Rattle.std.specs.Ordering.{is_eq, match_ordering, ordering_reverse}
use Rattle.std.specs.declared.cmp.Ordering.{Ordering}
use Rattle.std.specs.declared.cmp.Ordering.TheVariants.{Less, Equal, Greater}
use Rattle.summary_index.specs.Merged.{merged, merged_with}
use Rattle.trie_keys.proofs.ByKey.{Above, InOrder, above-below, same_place}
use Rattle.summary_index.proofs.Putting.{none_found}

or_false : (b : Bool) → b ≡ (b || false)
or_false true = refl
or_false false = refl

module _ {K V : Type 0} where
  -- of each key, or of each entry by its key
  pub by_entries : (P : K → Type 0) (es : List (K × V)) → AllByRecursion P (keys_of es) → AllByRecursion (λ e. P e.0) es
  by_entries P [] all = tt
  by_entries P (e ∷ es) all = (all.0, by_entries P es all.1)

  pub by_keys : (P : K → Type 0) (es : List (K × V)) → AllByRecursion (λ e. P e.0) es → AllByRecursion P (keys_of es)
  by_keys P [] all = tt
  by_keys P (e ∷ es) all = (all.0, by_keys P es all.1)

module _ {K V : Type 0} (R : K → K → Ordering) (both : V → V → V) where
  -- ---- what is true of each key

  all_with : (P : K → Type 0) (x : K × V) (rest : List (K × V) → List (K × V)) → P x.0
      → ((zs : List (K × V)) → AllByRecursion P (keys_of zs) → AllByRecursion P (keys_of (rest zs)))
      → (ys : List (K × V)) → AllByRecursion P (keys_of ys) → AllByRecursion P (keys_of (merged_with R both x rest ys))
  all_with P x rest here others [] all = (here, others [] tt)
  all_with P x rest here others (y ∷ ys) all =
      elim (R x.0 y.0) as (λ o. AllByRecursion P (keys_of (match_ordering o (x ∷ rest (y ∷ ys)) ((x.0, both x.1 y.1) ∷ rest ys) (y ∷ merged_with R both x rest ys)))) [
        | Less ↦ (here, others (y ∷ ys) all)
        | Equal ↦ (here, others ys all.1)
        | Greater ↦ (all.0, all_with P x rest here others ys all.1)
      ]

  pub all_merged : (P : K → Type 0) (xs ys : List (K × V)) → AllByRecursion P (keys_of xs) → AllByRecursion P (keys_of ys) → AllByRecursion P (keys_of (merged R both xs ys))
  all_merged P [] ys first second = second
  all_merged P (x ∷ xs) ys first second = all_with P x (merged R both xs) first.0 (λ zs all. all_merged P xs zs first.1 all) ys second

module _ {K V : Type 0} {R : K → K → Ordering} (o : IsTotalOrder R) (both : V → V → V) where
  -- ---- order

  above_tied : (x y : K) (ks : List K) → R x y ≡ Equal → Above o y ks → Above o x ks
  above_tied x y [] h all = tt
  above_tied x y (k ∷ ks) h all = (o.congr x y k h ∙ all.0, above_tied x y ks h all.1)

  after_both : (x y : K × V) (xs ys : List (K × V)) (r : Ordering) → R x.0 y.0 ≡ r → InOrder o (x ∷ xs) → InOrder o (y ∷ ys)
      → InOrder o (merged R both xs (y ∷ ys)) → InOrder o (merged R both xs ys) → InOrder o (merged_with R both x (merged R both xs) ys)
      → InOrder o (match_ordering r (x ∷ merged R both xs (y ∷ ys)) ((x.0, both x.1 y.1) ∷ merged R both xs ys) (y ∷ merged_with R both x (merged R both xs) ys))
  unfolding IsStrictlySortedBy
  after_both x y xs ys Less h s t one two three =
      (all_merged R both (λ k. R x.0 k ≡ Less) xs (y ∷ ys) s.0 (h, above-below o x.0 y.0 (keys_of ys) h t.0), one)
  after_both x y xs ys Equal h s t one two three =
      (all_merged R both (λ k. R x.0 k ≡ Less) xs ys s.0 (above_tied x.0 y.0 (keys_of ys) h t.0), two)
  after_both x y xs ys Greater h s t one two three =
      let before : R y.0 x.0 ≡ Less = o.antisymm y.0 x.0 ∙ ap ordering_reverse h in
      (all_merged R both (λ k. R y.0 k ≡ Less) (x ∷ xs) ys (before, above-below o y.0 x.0 (keys_of xs) before s.0) t.0, three)

  ordered_with : (x : K × V) (xs : List (K × V)) → InOrder o (x ∷ xs) → ((zs : List (K × V)) → InOrder o zs → InOrder o (merged R both xs zs))
      → (ys : List (K × V)) → InOrder o ys → InOrder o (merged_with R both x (merged R both xs) ys)
  unfolding IsStrictlySortedBy
  ordered_with x xs s others [] t = (all_merged R both (λ k. R x.0 k ≡ Less) xs [] s.0 tt, others [] tt)
  ordered_with x xs s others (y ∷ ys) t = after_both x y xs ys (R x.0 y.0) refl s t (others (y ∷ ys) t) (others ys t.1) (ordered_with x xs s others ys t.1)

  pub ordered_merged : (xs ys : List (K × V)) → InOrder o xs → InOrder o ys → InOrder o (merged R both xs ys)
  unfolding IsStrictlySortedBy
  ordered_merged [] ys s t = t
  ordered_merged (x ∷ xs) ys s t = ordered_with x xs s (λ zs u. ordered_merged xs zs s.1 u) ys t

module _ {K V : Type 0} {R : K → K → Ordering} (o : IsTotalOrder R) (both : V → V → V) (T : Option V → Bool) (none : T None ≡ false)
    (either : (a b : V) → T (Some (both a b)) ≡ (T (Some a) || T (Some b))) where
  -- ---- what is found

  abbrev look : K → List (K × V) → Bool
  look q es = T (lookup (is_at (R q)) es)

  nowhere : (q : K) (es : List (K × V)) → AllByRecursion (λ y. is_at (R q) y ≡ false) (keys_of es) → look q es ≡ false
  nowhere q es all = ap T (none_found o q es all) ∙ none

  -- none of the keys that come behind one at the place is there
  not_behind : (q k : K) (ks : List K) → is_at (R q) k ≡ true → Above o k ks → AllByRecursion (λ y. is_at (R q) y ≡ false) ks
  not_behind q k [] h all = tt
  not_behind q k (y ∷ ks) h all = (same_place o q k y h ∙ ap is_eq all.0, not_behind q k ks h all.1)

  at_less : (q : K) (x y : K × V) (xs ys more : List (K × V)) (b : Bool) → is_at (R q) x.0 ≡ b → R x.0 y.0 ≡ Less → Above o y.0 (keys_of ys)
      → look q more ≡ (look q xs || look q (y ∷ ys))
      → T (cond b (Some x.1) (lookup (is_at (R q)) more)) ≡ (T (cond b (Some x.1) (lookup (is_at (R q)) xs)) || look q (y ∷ ys))
  at_less q x y xs ys more true h less all others =
      or_false (T (Some x.1))
      ∙ ap (λ (b : Bool). T (Some x.1) || b) (sym (nowhere q (y ∷ ys) (not_behind q x.0 (y.0 ∷ keys_of ys) h (less, above-below o x.0 y.0 (keys_of ys) less all))))
  at_less q x y xs ys more false h less all others = others

  at_equal : (q : K) (x y : K × V) (xs ys more : List (K × V)) (b c : Bool) → b ≡ c
      → look q more ≡ (look q xs || look q ys)
      → T (cond b (Some (both x.1 y.1)) (lookup (is_at (R q)) more)) ≡ (T (cond b (Some x.1) (lookup (is_at (R q)) xs)) || T (cond c (Some y.1) (lookup (is_at (R q)) ys)))
  at_equal q x y xs ys more true true same others = either x.1 y.1
  at_equal q x y xs ys more true false same others = cc same
  at_equal q x y xs ys more false true same others = cc same
  at_equal q x y xs ys more false false same others = others

  at_greater : (q : K) (x y : K × V) (xs ys more : List (K × V)) (b : Bool) → is_at (R q) y.0 ≡ b → R y.0 x.0 ≡ Less → Above o x.0 (keys_of xs)
      → look q more ≡ (look q (x ∷ xs) || look q ys)
      → T (cond b (Some y.1) (lookup (is_at (R q)) more)) ≡ (look q (x ∷ xs) || T (cond b (Some y.1) (lookup (is_at (R q)) ys)))
  at_greater q x y xs ys more true h less all others =
      ap (λ (b : Bool). b || T (Some y.1)) (sym (nowhere q (x ∷ xs) (not_behind q y.0 (x.0 ∷ keys_of xs) h (less, above-below o y.0 x.0 (keys_of xs) less all))))
  at_greater q x y xs ys more false h less all others = others

  found_by : (q : K) (x y : K × V) (xs ys : List (K × V)) (r : Ordering) → R x.0 y.0 ≡ r → Above o x.0 (keys_of xs) → Above o y.0 (keys_of ys)
      → look q (merged R both xs (y ∷ ys)) ≡ (look q xs || look q (y ∷ ys))
      → look q (merged R both xs ys) ≡ (look q xs || look q ys)
      → look q (merged_with R both x (merged R both xs) ys) ≡ (look q (x ∷ xs) || look q ys)
      → look q (match_ordering r (x ∷ merged R both xs (y ∷ ys)) ((x.0, both x.1 y.1) ∷ merged R both xs ys) (y ∷ merged_with R both x (merged R both xs) ys)) ≡ (look q (x ∷ xs) || look q (y ∷ ys))
  found_by q x y xs ys Less h s t one two three = at_less q x y xs ys (merged R both xs (y ∷ ys)) (is_at (R q) x.0) refl h t one
  found_by q x y xs ys Equal h s t one two three =
      at_equal q x y xs ys (merged R both xs ys) (is_at (R q) x.0) (is_at (R q) y.0) (ap is_eq (alike_right o x.0 y.0 q h)) two
  found_by q x y xs ys Greater h s t one two three =
      at_greater q x y xs ys (merged_with R both x (merged R both xs) ys) (is_at (R q) y.0) refl (o.antisymm y.0 x.0 ∙ ap ordering_reverse h) s three

  found_last : (q : K) (x : K × V) (xs more : List (K × V)) (b : Bool) → look q more ≡ (look q xs || T None)
      → T (cond b (Some x.1) (lookup (is_at (R q)) more)) ≡ (T (cond b (Some x.1) (lookup (is_at (R q)) xs)) || T None)
  found_last q x xs more true others = or_false (T (Some x.1)) ∙ ap (λ (b : Bool). T (Some x.1) || b) (sym none)
  found_last q x xs more false others = others

  found_with : (q : K) (x : K × V) (xs : List (K × V)) → InOrder o (x ∷ xs)
      → ((zs : List (K × V)) → InOrder o zs → look q (merged R both xs zs) ≡ (look q xs || look q zs))
      → (ys : List (K × V)) → InOrder o ys → look q (merged_with R both x (merged R both xs) ys) ≡ (look q (x ∷ xs) || look q ys)
  unfolding IsStrictlySortedBy
  found_with q x xs s others [] t = found_last q x xs (merged R both xs []) (is_at (R q) x.0) (others [] tt)
  found_with q x xs s others (y ∷ ys) t =
      found_by q x y xs ys (R x.0 y.0) refl s.0 t.0 (others (y ∷ ys) t) (others ys t.1) (found_with q x xs s others ys t.1)

  pub found_merged : (q : K) (xs ys : List (K × V)) → InOrder o xs → InOrder o ys → look q (merged R both xs ys) ≡ (look q xs || look q ys)
  unfolding IsStrictlySortedBy
  found_merged q [] ys s t = ap (λ (b : Bool). b || look q ys) (sym none)
  found_merged q (x ∷ xs) ys s t = found_with q x xs s (λ zs u. found_merged q xs zs s.1 u) ys t
