-- Entries of a trie, as a list in order of precedence: what is found there, and what an edit of the trie does to it.
use Rattle.std.proofs.Common.{◌≡◌, ℕ, true, false, cond, Option, Some, None, List, [], ◌∷◌, refl, sym, ap, ◌∙◌, subst}
use Rattle.std.specs.BTreeMap.{insert_entry, is_at}
use Rattle.std.specs.Cmp.{IsTotalOrder}
use Rattle.std.specs.List.{AllByRecursion}
use Rattle.std.specs.List.Sorted.{IsStrictlySortedBy}
use Rattle.std.specs.Map.{keys_of, lookup, remove_entry}
use Rattle.std.specs.declared.cmp.Ordering.{Ordering}
use Rattle.dns_name.specs.Alike.{PlainPattern}
use Rattle.qname_index.specs.Best.{pattern_order}
use Rattle.qname_index.specs.Index.{IsKey}
use Rattle.trie_keys.proofs.Entries.{all_inserted, all_removed}
use Rattle.qname_index.specs.Trie.{IsNameTrie}
use Rattle.qname_index.specs.Ranked.{ArePatternKeys, IsPatternKey, pattern_key, patterns, ranked, ranked_patterns}
use Rattle.qname_index.proofs.Back.{pattern_back}
use Rattle.trie_keys.proofs.ByKey.{lookup-insert_entry, lookup-remove_entry, ordered-insert, ordered-remove, same_place, apart_from, ordered-others}
use Rattle.trie_keys.proofs.OneList.{same_entries, none_found}
use Rattle.qname_index.proofs.Same.{at_key, at_pattern, key_order, key_total, pattern_total, same_pattern}

module _ {K V : Type 0} (R : K → K → Ordering) (o : IsTotalOrder R) where
  gone : (q k : K) (es : List (K × V)) → is_at (R q) k ≡ true → IsStrictlySortedBy R (keys_of es) → lookup (is_at (R q)) (remove_entry (is_at (R k)) es) ≡ None
  gone q k [] h sorted = refl
  gone q k (e ∷ es) h sorted =
      let same : is_at (R q) e.0 ≡ is_at (R k) e.0 = same_place o q k e.0 h in
      elim (is_at (R k) e.0) as (λ b. is_at (R k) e.0 ≡ b → lookup (is_at (R q)) (cond b es (e ∷ remove_entry (is_at (R k)) es)) ≡ None) [
        | true ↦ λ t. none_found o q es (apart_from o q e es (same ∙ t) sorted)
        | false ↦ λ t. ap (λ b. cond b (Some e.1) (lookup (is_at (R q)) (remove_entry (is_at (R k)) es))) (same ∙ t) ∙ gone q k es h (ordered-others o e es sorted)
      ] refl

  lookup_removed : (q k : K) (es : List (K × V)) → IsStrictlySortedBy R (keys_of es) → lookup (is_at (R q)) (remove_entry (is_at (R k)) es) ≡ cond (is_at (R q) k) None (lookup (is_at (R q)) es)
  lookup_removed q k es sorted = elim (is_at (R q) k) as (λ b. is_at (R q) k ≡ b → lookup (is_at (R q)) (remove_entry (is_at (R k)) es) ≡ cond b None (lookup (is_at (R q)) es)) [
    | true ↦ λ h. gone q k es h sorted
    | false ↦ λ h. lookup-remove_entry o q k es h
  ] refl

pub is_pattern_key : (p : PlainPattern) → IsKey p → IsPatternKey (pattern_key p)
is_pattern_key p is = record {
  pattern = subst IsKey (sym (pattern_back p)) is;
  same = ap pattern_key (sym (pattern_back p));
}

module _ {V : Type 0} where
  pub no_entries : IsNameTrie {V = V} []
  unfolding IsStrictlySortedBy
  no_entries = record { keys = tt; ordered = tt }

  abbrev look : PlainPattern → List (PlainPattern × V) → Option V
  look q es = lookup (is_at (pattern_order q)) es

  -- what is found at a pattern's key
  abbrev look_key : PlainPattern → List (List ℕ × V) → Option V
  look_key q es = lookup (is_at (key_order (pattern_key q))) es

  look_patterns : (q : PlainPattern) (es : List (List ℕ × V)) → ArePatternKeys es → look q (patterns es) ≡ look_key q es
  look_patterns q [] are = refl
  look_patterns q (e ∷ es) are = λ i. cond (at_key q e.0 are.0 i) (Some e.1) (look_patterns q es are.1 i)

  look_ranked : (q : PlainPattern) (es : List (PlainPattern × V)) → look q (ranked es) ≡ look q es
  look_ranked q [] = refl
  look_ranked q (e ∷ es) = lookup-insert_entry pattern_total q e.0 e.1 (ranked es) ∙ ap (λ found. cond (is_at (pattern_order q) e.0) (Some e.1) found) (look_ranked q es)

  pub sorted_ranked : (es : List (PlainPattern × V)) → IsStrictlySortedBy pattern_order (keys_of (ranked es))
  unfolding IsStrictlySortedBy
  sorted_ranked [] = tt
  sorted_ranked (e ∷ es) = ordered-insert pattern_total e.0 e.1 (ranked es) (sorted_ranked es)

  -- what stands at a pattern
  pub found_at : (q : PlainPattern) (es : List (List ℕ × V)) → ArePatternKeys es → look q (ranked_patterns es) ≡ look_key q es
  found_at q es are = look_ranked q (patterns es) ∙ look_patterns q es are

  any_pattern : (es : List (PlainPattern × V)) → AllByRecursion (λ _. Unit {0}) (keys_of es)
  any_pattern [] = tt
  any_pattern (e ∷ es) = (tt, any_pattern es)

  -- two lists in order with the same at each pattern are one
  pub same_lists : (es fs : List (PlainPattern × V)) → IsStrictlySortedBy pattern_order (keys_of es) → IsStrictlySortedBy pattern_order (keys_of fs)
      → ((q : PlainPattern) → look q es ≡ look q fs) → es ≡ fs
  same_lists es fs s t same =
      same_entries pattern_total (λ _. Unit {0}) (λ p q _ _ h. same_pattern p q h) es fs s t (any_pattern es) (any_pattern fs) (λ q _. same q)

  -- the patterns are of names in lower case
  pub keys_of_patterns : (es : List (List ℕ × V)) → ArePatternKeys es → AllByRecursion (λ e. IsKey e.0) (patterns es)
  keys_of_patterns [] are = tt
  keys_of_patterns (e ∷ es) are = (are.0.pattern, keys_of_patterns es are.1)

  -- ---- edits

  pub keys_with : (p : PlainPattern) (v : V) (es : List (List ℕ × V)) → IsKey p → ArePatternKeys es → ArePatternKeys (insert_entry key_order es (pattern_key p) v)
  keys_with p v es is are = all_inserted key_order IsPatternKey (pattern_key p) v es (is_pattern_key p is) are

  pub keys_without : (p : PlainPattern) (es : List (List ℕ × V)) → ArePatternKeys es → ArePatternKeys (remove_entry (is_at (key_order (pattern_key p))) es)
  keys_without p es are = all_removed key_order (λ e. IsPatternKey e.0) (is_at (key_order (pattern_key p))) es are

  pub ranked_with : (p : PlainPattern) (v : V) (es : List (List ℕ × V)) → IsKey p → ArePatternKeys es → ranked_patterns (insert_entry key_order es (pattern_key p) v) ≡ insert_entry pattern_order (ranked_patterns es) p v
  ranked_with p v es is are =
      let L = ranked_patterns es in
      let new = insert_entry key_order es (pattern_key p) v in
      same_lists (ranked_patterns new) (insert_entry pattern_order L p v)
      (sorted_ranked (patterns new)) (ordered-insert pattern_total p v L (sorted_ranked (patterns es)))
      (λ q.
      found_at q new (keys_with p v es is are)
      ∙ lookup-insert_entry key_total (pattern_key q) (pattern_key p) v es
      ∙ (λ i. cond (sym (at_pattern q p) i) (Some v) (sym (found_at q es are) i))
      ∙ sym (lookup-insert_entry pattern_total q p v L))

  pub ranked_without : (p : PlainPattern) (es : List (List ℕ × V)) → IsStrictlySortedBy key_order (keys_of es) → ArePatternKeys es → ranked_patterns (remove_entry (is_at (key_order (pattern_key p))) es) ≡ remove_entry (is_at (pattern_order p)) (ranked_patterns es)
  ranked_without p es sorted are =
      let L = ranked_patterns es in
      let new = remove_entry (is_at (key_order (pattern_key p))) es in
      same_lists (ranked_patterns new) (remove_entry (is_at (pattern_order p)) L)
      (sorted_ranked (patterns new)) (ordered-remove pattern_total (is_at (pattern_order p)) L (sorted_ranked (patterns es)))
      (λ q.
      found_at q new (keys_without p es are)
      ∙ lookup_removed key_order key_total (pattern_key q) (pattern_key p) es sorted
      ∙ (λ i. cond (sym (at_pattern q p) i) None (sym (found_at q es are) i))
      ∙ sym (lookup_removed pattern_order pattern_total q p L (sorted_ranked (patterns es))))
