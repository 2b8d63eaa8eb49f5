-- A list in order of its keys, each once, and the same entries in another order.
use Rattle.std.proofs.Common.{◌≡◌, Bool, true, false, cond, Some, None, List, [], ◌∷◌, refl, sym, ap, ◌∙◌, subst}
use Rattle.std.proofs.lemmas.List.Elements.{All-from_recursion, recursion_from_All}
use Rattle.std.proofs.lemmas.List.Sorted.{All-permutation, IsPermutation-sym}
use Rattle.std.specs.BTreeMap.{is_at}
use Rattle.std.specs.Cmp.{IsTotalOrder}
use Rattle.std.specs.List.{AllByRecursion}
use Rattle.std.specs.List.Sorted.{IsPermutation, IsStrictlySortedBy}
use Rattle.std.specs.Map.{keys_of, lookup}
use Rattle.std.specs.Option.{option_map}
use Rattle.std.specs.Ordering.{is_eq, ordering_reverse}
use Rattle.std.specs.declared.cmp.Ordering.{Ordering}
use Rattle.std.specs.declared.cmp.Ordering.TheVariants.{Less}
use Rattle.trie_keys.specs.Scan.{last_where}
use Rattle.trie_keys.proofs.ByKey.{at_itself, lookup-same}
use Rattle.prefix_index.proofs.Last.{last_all, last_passes, last_none_all}

some_same : {A : Type 0} (x y : A) → Some x ≡ Some y → x ≡ y
some_same x y e = cc e

pub all_moved : {X : Type 0} (P : X → Type 0) (xs ys : List X) → IsPermutation xs ys → AllByRecursion P xs → AllByRecursion P ys
all_moved P xs ys moved all = recursion_from_All P ys (All-permutation P xs ys moved (All-from_recursion P xs all))

module _ {K : Type 0} {R : K → K → Ordering} (o : IsTotalOrder R) where
  not_at : (q k : K) → R k q ≡ Less → is_at (R q) k ≡ false
  not_at q k less = ap is_eq (o.antisymm q k ∙ ap ordering_reverse less)

module _ {K V : Type 0} {R : K → K → Ordering} (o : IsTotalOrder R) where
  found_later : (y : K × V) (ys es : List (K × V)) → AllByRecursion (λ k. R y.0 k ≡ Less) (keys_of es) → AllByRecursion (λ e. lookup (is_at (R e.0)) ys ≡ Some e.1) es → AllByRecursion (λ e. lookup (is_at (R e.0)) (y ∷ ys) ≡ Some e.1) es
  found_later y ys [] less all = tt
  found_later y ys (e ∷ es) less all = (ap (λ b. cond b (Some y.1) (lookup (is_at (R e.0)) ys)) (not_at o e.0 y.0 less.0) ∙ all.0, found_later y ys es less.1 all.1)

  each_found : (ys : List (K × V)) → IsStrictlySortedBy R (keys_of ys) → AllByRecursion (λ e. lookup (is_at (R e.0)) ys ≡ Some e.1) ys
  unfolding IsStrictlySortedBy
  each_found [] sorted = tt
  each_found (y ∷ ys) sorted = (ap (λ b. cond b (Some y.1) (lookup (is_at (R y.0)) ys)) (at_itself o y.0), found_later y ys ys sorted.0 (each_found ys sorted.1))

  none_found_at : (q : K) (es : List (K × V)) → AllByRecursion (λ e. is_at (R q) e.0 ≡ false) es → lookup (is_at (R q)) es ≡ None
  none_found_at q [] all = refl
  none_found_at q (e ∷ es) all = ap (λ b. cond b (Some e.1) (lookup (is_at (R q)) es)) all.0 ∙ none_found_at q es all.1

  -- the last entry at a place, in any order, is the one that is found in order
  pub found_last : (q : K) (xs ys : List (K × V)) → IsStrictlySortedBy R (keys_of ys) → IsPermutation xs ys → option_map (λ e. e.1) (last_where (λ e. is_at (R q) e.0) xs) ≡ lookup (is_at (R q)) ys
  found_last q xs ys sorted moved =
      let test : K × V → Bool = λ e. is_at (R q) e.0 in
      elim (last_where test xs) as (λ found. last_where test xs ≡ found → option_map (λ e. e.1) found ≡ lookup (is_at (R q)) ys) [
        | None ↦ λ none. sym (none_found_at q ys (all_moved (λ e. test e ≡ false) xs ys moved (last_none_all test xs none)))
        | Some e ↦ λ some.
            let P : K × V → Type 0 = λ x. lookup (is_at (R x.0)) ys ≡ Some x.1 in
            sym (lookup-same o q e.0 ys (last_passes test xs e some) ∙ last_all test P xs e (all_moved P ys xs (IsPermutation-sym xs ys moved) (each_found ys sorted)) some)
      ] refl

  not_found : (q : K) (xs : List (K × V)) → lookup (is_at (R q)) xs ≡ None → AllByRecursion (λ e. is_at (R q) e.0 ≡ false) xs
  not_found q [] h = tt
  not_found q (x ∷ xs) h =
      elim (is_at (R q) x.0) as (λ b. is_at (R q) x.0 ≡ b → cond b (Some x.1) (lookup (is_at (R q)) xs) ≡ None → (is_at (R q) x.0 ≡ false) × AllByRecursion (λ e. is_at (R q) e.0 ≡ false) xs) [
        | true ↦ λ _ h. cc h
        | false ↦ λ t h. (t, not_found q xs h)
      ] refl h

  found_among : (P : K × V → Type 0) (q : K) (xs : List (K × V)) (v : V) → AllByRecursion P xs → lookup (is_at (R q)) xs ≡ Some v → (k : K) × (is_at (R q) k ≡ true) × P (k, v)
  found_among P q [] v all h = cc h
  found_among P q (x ∷ xs) v all h =
      elim (is_at (R q) x.0) as (λ b. is_at (R q) x.0 ≡ b → cond b (Some x.1) (lookup (is_at (R q)) xs) ≡ Some v → (k : K) × (is_at (R q) k ≡ true) × P (k, v)) [
        | true ↦ λ t h. (x.0, t, subst (λ w. P (x.0, w)) (some_same x.1 v h) all.0)
        | false ↦ λ _ h. found_among P q xs v all.1 h
      ] refl h

  -- what is found in any order is what is found in order
  pub found_moved : (q : K) (xs ys : List (K × V)) → IsStrictlySortedBy R (keys_of ys) → IsPermutation xs ys → lookup (is_at (R q)) xs ≡ lookup (is_at (R q)) ys
  found_moved q xs ys sorted moved =
      elim (lookup (is_at (R q)) xs) as (λ found. lookup (is_at (R q)) xs ≡ found → found ≡ lookup (is_at (R q)) ys) [
        | None ↦ λ none. sym (none_found_at q ys (all_moved (λ e. is_at (R q) e.0 ≡ false) xs ys moved (not_found q xs none)))
        | Some v ↦ λ some.
            let P : K × V → Type 0 = λ x. lookup (is_at (R x.0)) ys ≡ Some x.1 in
            let there = found_among P q xs v (all_moved P ys xs (IsPermutation-sym xs ys moved) (each_found ys sorted)) some in
            sym (lookup-same o q there.0 ys there.1 ∙ there.2)
      ] refl
