-- Entries without a zone: what is found in them, and that they stay in order.
use Rattle.std.proofs.Common.{◌≡◌, ℕ, ◌≤◌, ◌==◌, ◌&&◌, not, Bool, true, false, cond, Option, Some, List, [], ◌∷◌, ◌++◌, map, refl, sym, ap, ◌∙◌, subst}
use Rattle.std.proofs.lemmas.Bool.{eqb-true}
use Rattle.std.specs.BTreeMap.{is_at}
use Rattle.std.specs.Cmp.{IsTotalOrder}
use Rattle.std.specs.List.{AllByRecursion}
use Rattle.std.specs.List.Sorted.{IsStrictlySortedBy}
use Rattle.std.specs.Map.{keys_of, lookup}
use Rattle.std.specs.declared.cmp.Ordering.{Ordering}
use Rattle.std.specs.declared.cmp.Ordering.TheVariants.{Less}
use Rattle.dns_name.specs.Alike.{PlainPattern}
use Rattle.octet_trie.specs.Trie.{found_entry}
use Rattle.octet_trie.specs.declared.trie.OctetFound.{OctetFound}
use Rattle.qname_index.specs.Best.{pattern_order}
use Rattle.qname_index.specs.Patterns.{pattern_in}
use Rattle.qname_index.specs.Ranked.{IsPatternKey, pattern_key, ranked_patterns}
use Rattle.qname_index.specs.Trie.{IsNameTrie}
use Rattle.summary_index.specs.Entries.{entries_without, standing}
use Rattle.summary_index.specs.Summary.{Standing, zones_at, zones_in}
use Rattle.summary_index.specs.Zones.{has_zone, zones_without}
use Rattle.summary_index.proofs.Bits.{same_mask, without_zone}
use Rattle.summary_index.proofs.MergedZones.{key_order, key_total, no_zone}
use Rattle.summary_index.proofs.Listing.{zones_standing}
use Rattle.trie_keys.proofs.ByKey.{InOrder, apart_from}
use Rattle.summary_index.proofs.Merges.{by_entries, by_keys}
use Rattle.summary_index.proofs.Putting.{none_found}
use Rattle.zone_rows.specs.declared.zone.TheConstants.{ZONE_LIMIT}

and_false : (b : Bool) → (b && false) ≡ false
and_false true = refl
and_false false = refl

zones_left : (number n zones : ℕ) → 1 ≤ number → number ≤ ZONE_LIMIT → 1 ≤ n → n ≤ ZONE_LIMIT → has_zone (zones_without number zones) n ≡ (not (n == number) && has_zone zones n)
zones_left number n zones some within low high =
    ap (λ (mask : ℕ). has_zone mask n) (sym (same_mask zones number some within)) ∙ without_zone zones number n some within low high

module _ {K : Type 0} {order : K → K → Ordering} (total : IsTotalOrder order) (number : ℕ) where
  all_without : (P : K → Type 0) (es : List (K × Standing)) → AllByRecursion P (keys_of es) → AllByRecursion P (keys_of (entries_without number es))
  all_without P [] all = tt
  all_without P (e ∷ es) all =
      let z = zones_without number e.1.value in
      elim (z == 0) as (λ b. AllByRecursion P (keys_of (cond b [] (standing e.0 z ∷ []) ++ entries_without number es))) [
        | true ↦ all_without P es all.1
        | false ↦ (all.0, all_without P es all.1)
      ]

  pub ordered_without : (es : List (K × Standing)) → InOrder total es → InOrder total (entries_without number es)
  unfolding IsStrictlySortedBy
  ordered_without [] sorted = sorted
  ordered_without (e ∷ es) sorted =
      let z = zones_without number e.1.value in
      elim (z == 0) as (λ b. InOrder total (cond b [] (standing e.0 z ∷ []) ++ entries_without number es)) [
        | true ↦ ordered_without es sorted.1
        | false ↦ (all_without (λ y. order e.0 y ≡ Less) es sorted.0, ordered_without es sorted.1)
      ]

  -- what is left of one zone's bit
  abbrev left_of : ℕ → Option Standing → Bool
  left_of n found = not (n == number) && has_zone (zones_in found) n

  kept : (n z : ℕ) (e : K × Standing) (found more : Option Standing) (c : Bool) → has_zone z n ≡ left_of n (Some e.1) → has_zone (zones_in more) n ≡ left_of n found
      → has_zone (zones_in (cond c (Some (record { value = z; mark = true })) more)) n ≡ left_of n (cond c (Some e.1) found)
  kept n z e found more true here others = here
  kept n z e found more false here others = others

  dropped : (n z : ℕ) (q : K) (e : K × Standing) (es : List (K × Standing)) (more : Option Standing) (c : Bool) → is_at (order q) e.0 ≡ c → z ≡ 0 → InOrder total (e ∷ es)
      → has_zone z n ≡ left_of n (Some e.1) → has_zone (zones_in more) n ≡ left_of n (lookup (is_at (order q)) es)
      → has_zone (zones_in more) n ≡ left_of n (cond c (Some e.1) (lookup (is_at (order q)) es))
  dropped n z q e es more true h zero sorted here others =
      others
      ∙ ap (left_of n) (none_found total q es (apart_from total q e es h sorted))
      ∙ ap (λ (b : Bool). not (n == number) && b) (no_zone n)
      ∙ and_false (not (n == number))
      ∙ sym (no_zone n)
      ∙ ap (λ (mask : ℕ). has_zone mask n) (sym zero)
      ∙ here
  dropped n z q e es more false h zero sorted here others = others

  one_of_them : (n z : ℕ) (q : K) (e : K × Standing) (es rest : List (K × Standing)) (b : Bool) → (z == 0) ≡ b → InOrder total (e ∷ es)
      → has_zone z n ≡ left_of n (Some e.1) → has_zone (zones_at order q rest) n ≡ left_of n (lookup (is_at (order q)) es)
      → has_zone (zones_at order q (cond b [] (standing e.0 z ∷ []) ++ rest)) n ≡ left_of n (lookup (is_at (order q)) (e ∷ es))
  one_of_them n z q e es rest true h sorted here others = dropped n z q e es (lookup (is_at (order q)) rest) (is_at (order q) e.0) refl (eqb-true z 0 h) sorted here others
  one_of_them n z q e es rest false h sorted here others = kept n z e (lookup (is_at (order q)) es) (lookup (is_at (order q)) rest) (is_at (order q) e.0) here others

  pub found_without : (n : ℕ) (q : K) (es : List (K × Standing)) → 1 ≤ number → number ≤ ZONE_LIMIT → 1 ≤ n → n ≤ ZONE_LIMIT → InOrder total es
      → has_zone (zones_at order q (entries_without number es)) n ≡ (not (n == number) && has_zone (zones_at order q es) n)
  unfolding IsStrictlySortedBy
  found_without n q [] some within low high sorted = no_zone n ∙ sym (and_false (not (n == number))) ∙ ap (λ (b : Bool). not (n == number) && b) (sym (no_zone n))
  found_without n q (e ∷ es) some within low high sorted =
      one_of_them n (zones_without number e.1.value) q e es (entries_without number es) (zones_without number e.1.value == 0) refl sorted
      (zones_left number n e.1.value some within low high) (found_without n q es some within low high sorted.1)

-- ---- entries of a trie of prefixes, or of another whose keys are those of its entries

module _ {K : Type 0} (number : ℕ) where
  not_empty : (z : ℕ) (key : K) (rest : List (K × Standing)) (b : Bool) → (z == 0) ≡ b → AllByRecursion (λ e. (e.1.value == 0) ≡ false) rest
      → AllByRecursion (λ e. (e.1.value == 0) ≡ false) (cond b [] (standing key z ∷ []) ++ rest)
  not_empty z key rest true h others = others
  not_empty z key rest false h others = (h, others)

  -- some zone is left at each entry
  each_left : (es : List (K × Standing)) → AllByRecursion (λ e. (e.1.value == 0) ≡ false) (entries_without number es)
  each_left [] = tt
  each_left (e ∷ es) = not_empty (zones_without number e.1.value) e.0 (entries_without number es) (zones_without number e.1.value == 0) refl (each_left es)

  pub none_empty : (es left : List (K × Standing)) → left ≡ entries_without number es → AllByRecursion (λ e. (e.1.value == 0) ≡ false) left
  none_empty es left e = subst (λ xs. AllByRecursion (λ e. (e.1.value == 0) ≡ false) xs) (sym e) (each_left es)

module _ {K : Type 0} {order : K → K → Ordering} (total : IsTotalOrder order) where
  pub sorted_without : (number : ℕ) (es left : List (K × Standing)) → IsStrictlySortedBy order (keys_of es) → left ≡ entries_without number es → IsStrictlySortedBy order (keys_of left)
  sorted_without number es left sorted e = subst (λ xs. IsStrictlySortedBy order (keys_of xs)) (sym e) (ordered_without total number es sorted)

  pub zones_of_left : (number : ℕ) (es left : List (K × Standing)) → 1 ≤ number → number ≤ ZONE_LIMIT → IsStrictlySortedBy order (keys_of es) → left ≡ entries_without number es
      → (key : K) (n : ℕ) → 1 ≤ n → n ≤ ZONE_LIMIT → has_zone (zones_at order key left) n ≡ (not (n == number) && has_zone (zones_at order key es) n)
  zones_of_left number es left some within sorted e key n low high =
      ap (λ xs. has_zone (zones_at order key xs) n) e ∙ found_without total number n key es some within low high sorted

-- ---- entries of a trie of patterns

pub keys_without : (number : ℕ) (es left : List (List ℕ × Standing)) → IsNameTrie es → left ≡ entries_without number es → IsNameTrie left
keys_without number es left is e = record {
  keys = subst (λ xs. AllByRecursion (λ e. IsPatternKey e.0) xs) (sym e)
      (by_entries IsPatternKey (entries_without number es) (all_without key_total number IsPatternKey es (by_keys IsPatternKey es is.keys)));
  ordered = sorted_without key_total number es left is.ordered e;
}

pub zones_of_patterns : ((p : PlainPattern) → pattern_in (pattern_key p) ≡ p) → (number : ℕ) (es left : List (List ℕ × Standing)) (trie : List (PlainPattern × Standing))
    → 1 ≤ number → number ≤ ZONE_LIMIT → IsNameTrie es → ranked_patterns es ≡ trie → left ≡ entries_without number es
    → (p : PlainPattern) (n : ℕ) → 1 ≤ n → n ≤ ZONE_LIMIT → has_zone (zones_at key_order (pattern_key p) left) n ≡ (not (n == number) && has_zone (zones_at pattern_order p trie) n)
zones_of_patterns back number es left trie some within is same e p n low high =
    zones_of_left key_total number es left some within is.ordered e (pattern_key p) n low high
    ∙ ap (λ (zones : ℕ). not (n == number) && has_zone zones n) (zones_standing back es trie is same p)

pub none_empty_found : (entries : List (OctetFound ℕ Bool)) → AllByRecursion (λ e. (e.1.value == 0) ≡ false) (map found_entry entries) → AllByRecursion (λ e. (e.value.value == 0) ≡ false) entries
none_empty_found [] all = tt
none_empty_found (e ∷ es) all = (all.0, none_empty_found es all.1)
