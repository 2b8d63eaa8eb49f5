-- Entries whose keys are valid and stand in their order stay so.
use Rattle.std.proofs.Common.{◌≡◌, Bool, true, false, cond, List, [], ◌∷◌, refl, ap, ◌∙◌}
use Rattle.std.specs.BTreeMap.{insert_entry, is_at}
use Rattle.std.specs.Cmp.{IsTotalOrder}
use Rattle.std.specs.List.{AllByRecursion}
use Rattle.std.specs.List.Sorted.{IsStrictlySortedBy}
use Rattle.std.specs.Map.{keys_of, remove_entry}
use Rattle.std.specs.Ordering.{match_ordering, ordering_reverse}
use Rattle.std.specs.declared.cmp.Ordering.{Ordering}
use Rattle.std.specs.declared.cmp.Ordering.TheVariants.{Less, Equal, Greater}
use Rattle.trie_keys.proofs.Entries.{all_inserted, all_removed}
use Rattle.trie_keys.specs.Keys.{Keys, KeyLaws}
use Rattle.trie_keys.specs.Sorting.{AreEntries}

module _ {K : Type 0} (order : K → K → Ordering) (total : IsTotalOrder order) where
  all_less : (k e : K) (ks : List K) → order k e ≡ Less → AllByRecursion (λ y. order e y ≡ Less) ks → AllByRecursion (λ y. order k y ≡ Less) ks
  all_less k e [] lt all = tt
  all_less k e (y ∷ ks) lt all = (total.trans k e y lt all.0, all_less k e ks lt all.1)

  turned_back : (k e : K) → order k e ≡ Greater → order e k ≡ Less
  turned_back k e h = total.antisymm e k ∙ ap ordering_reverse h

module _ {K V : Type 0} (order : K → K → Ordering) (total : IsTotalOrder order) where
  abbrev Sorted : List (K × V) → Type 0
  Sorted es = IsStrictlySortedBy order (keys_of es)

  pick_keys : (P : K → Type 0) (o : Ordering) (xs ys zs : List (K × V)) → AllByRecursion P (keys_of xs) → AllByRecursion P (keys_of ys) → AllByRecursion P (keys_of zs) → AllByRecursion P (keys_of (match_ordering o xs ys zs))
  pick_keys P Less xs ys zs p q r = p
  pick_keys P Equal xs ys zs p q r = q
  pick_keys P Greater xs ys zs p q r = r

  keys_inserted : (P : K → Type 0) (k : K) (v : V) (es : List (K × V)) → P k → AllByRecursion P (keys_of es) → AllByRecursion P (keys_of (insert_entry order es k v))
  keys_inserted P k v [] here all = (here, tt)
  keys_inserted P k v (e ∷ es) here all =
      pick_keys P (order k e.0) ((k, v) ∷ e ∷ es) ((e.0, v) ∷ es) (e ∷ insert_entry order es k v)
      (here, all) (all.0, all.1) (all.0, keys_inserted P k v es here all.1)

  pub sorted_inserted : (k : K) (v : V) (es : List (K × V)) → Sorted es → Sorted (insert_entry order es k v)
  unfolding IsStrictlySortedBy
  sorted_inserted k v [] sorted = (tt, tt)
  sorted_inserted k v (e ∷ es) sorted =
      elim (order k e.0) as (λ o. order k e.0 ≡ o → IsStrictlySortedBy order (keys_of (match_ordering o ((k, v) ∷ e ∷ es) ((e.0, v) ∷ es) (e ∷ insert_entry order es k v)))) [
        | Less ↦ λ h. ((h, all_less order total k e.0 (keys_of es) h sorted.0), sorted)
        | Equal ↦ λ h. sorted
        | Greater ↦ λ h. (keys_inserted (λ y. order e.0 y ≡ Less) k v es (turned_back order total k e.0 h) sorted.0, sorted_inserted k v es sorted.1)
      ] refl

  pick_bool : (P : K → Type 0) (b : Bool) (xs ys : List (K × V)) → AllByRecursion P (keys_of xs) → AllByRecursion P (keys_of ys) → AllByRecursion P (keys_of (cond b xs ys))
  pick_bool P true xs ys p q = p
  pick_bool P false xs ys p q = q

  keys_removed : (P : K → Type 0) (test : K → Bool) (es : List (K × V)) → AllByRecursion P (keys_of es) → AllByRecursion P (keys_of (remove_entry test es))
  keys_removed P test [] all = tt
  keys_removed P test (e ∷ es) all = pick_bool P (test e.0) es (e ∷ remove_entry test es) all.1 (all.0, keys_removed P test es all.1)

  pub sorted_removed : (test : K → Bool) (es : List (K × V)) → Sorted es → Sorted (remove_entry test es)
  unfolding IsStrictlySortedBy
  sorted_removed test [] sorted = tt
  sorted_removed test (e ∷ es) sorted =
      elim (test e.0) as (λ b. IsStrictlySortedBy order (keys_of (cond b es (e ∷ remove_entry test es)))) [
        | true ↦ sorted.1
        | false ↦ (keys_removed (λ y. order e.0 y ≡ Less) test es sorted.0, sorted_removed test es sorted.1)
      ]

module _ {K V : Type 0} (keys : Keys K) (laws : KeyLaws keys) where
  pub none_are_entries : AreEntries {V = V} keys []
  unfolding IsStrictlySortedBy
  none_are_entries = record { valid = tt; sorted = tt }

  pub entries_inserted : (key : K) (v : V) (es : List (K × V)) → keys.valid key ≡ true → AreEntries keys es → AreEntries keys (insert_entry keys.order es key v)
  entries_inserted key v es valid are = record {
    valid = all_inserted keys.order (λ k. keys.valid k ≡ true) key v es valid are.valid;
    sorted = sorted_inserted keys.order laws.total key v es are.sorted;
  }

  pub entries_removed : (key : K) (es : List (K × V)) → AreEntries keys es → AreEntries keys (remove_entry (is_at (keys.order key)) es)
  entries_removed key es are = record {
    valid = all_removed keys.order (λ e. keys.valid e.0 ≡ true) (is_at (keys.order key)) es are.valid;
    sorted = sorted_removed keys.order laws.total (is_at (keys.order key)) es are.sorted;
  }
