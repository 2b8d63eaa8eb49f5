-- The zones at the keys of two lists that are made one.
use Rattle.std.proofs.lemmas.Nat.Bits.{bit_at-zero}
use Rattle.std.proofs.Common.{◌≡◌, ℕ, ◌-◌, ◌==◌, ◌||◌, false, List, sym, ap, ◌∙◌, subst}
use Rattle.std.specs.Cmp.{IsTotalOrder}
use Rattle.std.specs.Cmp.Lexicographic.{slice_cmp, nat_list_cmp_total}
use Rattle.std.specs.List.{AllByRecursion}
use Rattle.std.specs.List.Sorted.{IsStrictlySortedBy}
use Rattle.std.specs.Map.{keys_of}
use Rattle.std.specs.Ordering.{nat_cmp}
use Rattle.std.specs.declared.cmp.Ordering.{Ordering}
use Rattle.qname_index.specs.Ranked.{IsPatternKey}
use Rattle.qname_index.specs.Trie.{IsNameTrie}
use Rattle.summary_index.specs.Merged.{merged, united}
use Rattle.summary_index.specs.Summary.{Standing, zones_at, zones_in}
use Rattle.summary_index.specs.Zones.{has_zone}
use Rattle.summary_index.proofs.Bits.{zones_of_both}
use Rattle.summary_index.proofs.Merges.{all_merged, by_entries, by_keys, found_merged, ordered_merged}

-- keys compare as lists of numbers
abbrev pub key_order : List ℕ → List ℕ → Ordering
key_order = slice_cmp nat_cmp

pub key_total : IsTotalOrder key_order
key_total = nat_list_cmp_total

-- no zone's number stands where there is no entry
pub no_zone : (n : ℕ) → has_zone 0 n ≡ false
no_zone n = ap (λ (bit : ℕ). bit == 1) (bit_at-zero (n - 1))

module _ {K : Type 0} {order : K → K → Ordering} (total : IsTotalOrder order) where
  pub zones_merged : (xs ys all : List (K × Standing)) → IsStrictlySortedBy order (keys_of xs) → IsStrictlySortedBy order (keys_of ys) → all ≡ merged order united xs ys
      → (key : K) (n : ℕ) → has_zone (zones_at order key all) n ≡ (has_zone (zones_at order key xs) n || has_zone (zones_at order key ys) n)
  zones_merged xs ys all s t e key n =
      ap (λ es. has_zone (zones_at order key es) n) e
      ∙ found_merged total united (λ found. has_zone (zones_in found) n) (no_zone n) (λ a b. zones_of_both a.value b.value n) key xs ys s t

  pub sorted_merged : (xs ys all : List (K × Standing)) → IsStrictlySortedBy order (keys_of xs) → IsStrictlySortedBy order (keys_of ys) → all ≡ merged order united xs ys → IsStrictlySortedBy order (keys_of all)
  sorted_merged xs ys all s t e = subst (λ es. IsStrictlySortedBy order (keys_of es)) (sym e) (ordered_merged total united xs ys s t)

pub keys_merged : (xs ys all : List (List ℕ × Standing)) → IsNameTrie xs → IsNameTrie ys → all ≡ merged key_order united xs ys → IsNameTrie all
keys_merged xs ys all s t e = record {
  keys = subst (λ es. AllByRecursion (λ e. IsPatternKey e.0) es) (sym e)
      (by_entries IsPatternKey (merged key_order united xs ys) (all_merged key_order united IsPatternKey xs ys (by_keys IsPatternKey xs s.keys) (by_keys IsPatternKey ys t.keys)));
  ordered = sorted_merged key_total xs ys all s.ordered t.ordered e;
}
