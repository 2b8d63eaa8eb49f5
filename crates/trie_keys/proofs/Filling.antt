-- Entries that are put behind others in order stand behind them.
use Rattle.std.proofs.Common.{◌≡◌, List, [], ◌∷◌, ◌++◌, sym, ap, ◌∙◌, subst, append-nil, append_assoc}
use Rattle.std.specs.BTreeMap.{insert_entry}
use Rattle.std.specs.Cmp.{IsTotalOrder}
use Rattle.std.specs.List.{AllByRecursion}
use Rattle.std.specs.List.Sorted.{IsStrictlySortedBy}
use Rattle.std.specs.Map.{keys_of}
use Rattle.std.specs.Ordering.{ordering_reverse}
use Rattle.std.specs.declared.cmp.Ordering.{Ordering}
use Rattle.std.specs.declared.cmp.Ordering.TheVariants.{Less}
use Rattle.trie_keys.proofs.Entries.{Behind, insert_behind}
use Rattle.trie_keys.specs.Filling.{with_all}

module _ {K V : Type 0} (order : K → K → Ordering) (total : IsTotalOrder order) where
  behind_sorted : (done : List (K × V)) (e : K × V) (es : List (K × V)) → IsStrictlySortedBy order (keys_of (done ++ (e ∷ es))) → Behind order e.0 done
  unfolding IsStrictlySortedBy
  behind_sorted [] e es sorted = tt
  behind_sorted (d ∷ done) e es sorted = (total.antisymm e.0 d.0 ∙ ap ordering_reverse (here done sorted.0), behind_sorted done e es sorted.1)
    where
      here : (xs : List (K × V)) → AllByRecursion (λ y. order d.0 y ≡ Less) (keys_of (xs ++ (e ∷ es))) → order d.0 e.0 ≡ Less
      here [] all = all.0
      here (x ∷ xs) all = here xs all.1

  -- where they stand in order behind the others, each once, they come behind them
  pub with_sorted : (done es : List (K × V)) → IsStrictlySortedBy order (keys_of (done ++ es)) → with_all order done es ≡ done ++ es
  with_sorted done [] sorted = sym (append-nil done)
  with_sorted done (e ∷ es) sorted =
      let one : insert_entry order done e.0 e.1 ≡ done ++ e ∷ [] =
      ap (λ xs. insert_entry order xs e.0 e.1) (sym (append-nil done)) ∙ insert_behind order e.0 e.1 done [] (behind_sorted done e es sorted) in
      let split : (done ++ e ∷ []) ++ es ≡ done ++ (e ∷ es) = append_assoc done (e ∷ []) es in
      ap (λ xs. with_all order xs es) one
      ∙ with_sorted (done ++ e ∷ []) es (subst (λ xs. IsStrictlySortedBy order (keys_of xs)) (sym split) sorted)
      ∙ split
