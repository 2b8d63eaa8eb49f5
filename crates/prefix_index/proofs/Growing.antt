-- What nodes stand for is in the order of the keys.
use Rattle.std.proofs.Common.{◌≡◌, ℕ, zero, suc, true, List, [], ◌∷◌, ◌++◌, Option, Some, None, arith}
use Rattle.std.specs.List.{AllByRecursion}
use Rattle.std.specs.List.Sorted.{IsStrictlySortedBy}
use Rattle.std.specs.Map.{keys_of}
use Rattle.std.specs.declared.cmp.Ordering.{Ordering}
use Rattle.std.specs.declared.cmp.Ordering.TheVariants.{Less}
use Rattle.trie_keys.specs.Keys.{Keys, KeyLaws, Under}
use Rattle.trie_keys.specs.Scan.{own}
use Rattle.trie_keys.proofs.Entries.{Before, all_append, all_map}
use Rattle.trie_keys.proofs.Beginning.{AllUnder, before_side}
use Rattle.trie_keys.specs.Sorting.{AreEntries}
use Rattle.trie_keys.proofs.Sorting.{none_are_entries}
use Rattle.prefix_index.specs.PlainNode.{PlainNode}
use Rattle.prefix_index.specs.Nodes.{Sub, nothing, sub_at, sub_of, subs_from, subs_of, stands, AreNodes, AreWell}
use Rattle.prefix_index.proofs.Putting.{before_rest}

module _ {K V : Type 0} (order : K → K → Ordering) where
  to_keys : (k : K) (es : List (K × V)) → Before order k es → AllByRecursion (λ y. order k y ≡ Less) (keys_of es)
  to_keys k [] all = tt
  to_keys k (e ∷ es) all = (all.0, to_keys k es all.1)

  keys_before : (k : K) (es fs : List (K × V)) → AllByRecursion (λ y. order k y ≡ Less) (keys_of es) → Before order k fs → AllByRecursion (λ y. order k y ≡ Less) (keys_of (es ++ fs))
  keys_before k [] fs a b = to_keys k fs b
  keys_before k (e ∷ es) fs a b = (a.0, keys_before k es fs a.1 b)

  sorted_append : (es fs : List (K × V)) → IsStrictlySortedBy order (keys_of es) → IsStrictlySortedBy order (keys_of fs) → AllByRecursion (λ e. Before order e.0 fs) es → IsStrictlySortedBy order (keys_of (es ++ fs))
  unfolding IsStrictlySortedBy
  sorted_append [] fs s t cross = t
  sorted_append (e ∷ es) fs s t cross = (keys_before e.0 es fs s.0 cross.0, sorted_append es fs s.1 t cross.1)

  sorted_own : (top : K) (value : Option V) (es : List (K × V)) → Before order top es → IsStrictlySortedBy order (keys_of es) → IsStrictlySortedBy order (keys_of (own top value ++ es))
  unfolding IsStrictlySortedBy
  sorted_own top None es before s = s
  sorted_own top (Some v) es before s = (to_keys top es before, s)

module _ {K V : Type 0} (keys : Keys K) (laws : KeyLaws keys) where
  valid_own : (top : K) (value : Option V) → keys.valid top ≡ true → AllByRecursion (λ e. keys.valid e.0 ≡ true) (own top value)
  valid_own top None valid = tt
  valid_own top (Some v) valid = (valid, tt)

  one_node : (top : K) (value : Option V) (zs os : List (K × V)) → keys.valid top ≡ true → AllUnder keys laws top 0 zs → AllUnder keys laws top 1 os → AreEntries keys zs → AreEntries keys os → AreEntries keys (own top value ++ (zs ++ os))
  one_node top value zs os valid z o p q = record {
    valid = all_append (λ e. keys.valid e.0 ≡ true) (own top value) (zs ++ os) (valid_own top value valid) (all_append (λ e. keys.valid e.0 ≡ true) zs os p.valid q.valid);
    sorted =
        sorted_own keys.order top value (zs ++ os) (before_rest keys laws top zs os valid z o)
        (sorted_append keys.order zs os p.sorted q.sorted
        (all_map (λ e. Under keys top 0 e.0) (λ e. Before keys.order e.0 os) zs (λ e u. before_side keys laws top e.0 0 1 os (omega arith) u o) z));
  }

  at_sub : (subs : List (Sub K V)) (number : ℕ) → AllByRecursion (λ (s : Sub K V). AreEntries keys s.list) subs → AreEntries keys (sub_at subs number).list
  at_sub [] number all = none_are_entries keys laws
  at_sub (s ∷ subs) zero all = all.0
  at_sub (s ∷ subs) (suc number) all = at_sub subs number all.1

  all_subs : (subs : List (Sub K V)) (ns : List (PlainNode K V)) → AreNodes keys subs ns → AllByRecursion (λ (s : Sub K V). AreEntries keys s.list) subs → AllByRecursion (λ (s : Sub K V). AreEntries keys s.list) (subs_from keys subs ns)
  unfolding AreNodes subs_from
  all_subs subs [] nodes all = all
  all_subs subs (n ∷ ns) nodes all =
      let here : AreEntries keys (sub_of keys subs n).list =
      one_node n.key n.value (sub_at subs n.zero).list (sub_at subs n.one).list nodes.0.valid nodes.0.zero.under nodes.0.one.under (at_sub subs n.zero all) (at_sub subs n.one all) in
      all_subs (subs ++ sub_of keys subs n ∷ []) ns nodes.1 (all_append (λ (s : Sub K V). AreEntries keys s.list) subs (sub_of keys subs n ∷ []) all (here, tt))

  pub well_entries : (nodes : List (PlainNode K V)) (number : ℕ) → AreWell keys nodes → AreEntries keys (stands keys nodes number).list
  well_entries nodes number well = at_sub (subs_of keys nodes) number (all_subs (nothing ∷ []) nodes well.each (none_are_entries keys laws, tt))
