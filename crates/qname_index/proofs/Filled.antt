-- A trie made of entries, as one of patterns.
use Rattle.std.proofs.Common.{◌≡◌, ℕ, suc, ◌+◌, ◌≤◌, Bool, List, [], ◌∷◌, length, map, refl, sym, ap, ◌∙◌, subst, arith, length-append}
use Rattle.std.specs.BTreeMap.{insert_entry}
use Rattle.octet_trie.specs.ListKeys.{entry_key, symbols, end_symbol}
use Rattle.octet_trie.specs.Listed.{AreShort}
use Rattle.octet_trie.specs.Trie.{found_entry}
use Rattle.octet_trie.specs.declared.trie.OctetFound.{OctetFound}
use Rattle.qname_index.specs.Best.{pattern_order}
use Rattle.trie_keys.specs.Filling.{with_all}
use Rattle.trie_keys.proofs.Sorting.{sorted_inserted}
use Rattle.qname_index.specs.Key.{name_key}
use Rattle.qname_index.specs.Patterns.{pattern_in}
use Rattle.qname_index.specs.Ranked.{ArePatternKeys, IsPatternKey, pattern_key, patterns, ranked_patterns}
use Rattle.qname_index.specs.Trie.{IsNameTrie}
use Rattle.qname_index.proofs.Keys.{key_is_short}
use Rattle.qname_index.proofs.Ranking.{keys_with, no_entries, ranked_with}
use Rattle.qname_index.proofs.Same.{key_order, key_total}

entry_length : (octets : List ℕ) (wild : Bool) → length (entry_key octets wild) ≡ length octets + 1
entry_length octets wild = omega (arith, length-append (symbols octets) (end_symbol wild ∷ []), symbols_length octets)
  where
    symbols_length : (os : List ℕ) → length (symbols os) ≡ length os
    symbols_length [] = refl
    symbols_length (o ∷ os) = ap suc (symbols_length os)

short_key : (octets : List ℕ) (wild : Bool) → IsPatternKey (entry_key octets wild) → length octets ≤ 254
short_key octets wild is =
    let p = pattern_in (entry_key octets wild) in
    omega (arith, ap length is.same, entry_length octets wild, entry_length (name_key p.base) p.wild, key_is_short p.base is.pattern.name)

pub short_keys : {N M : Type 0} → (es : List (OctetFound N M)) → ArePatternKeys (map found_entry es) → AreShort es
short_keys [] are = tt
short_keys (e ∷ es) are = (short_key e.key.now e.wild are.0, short_keys es are.1)

module _ {V : Type 0} where
  abbrev IsOneMore : List (List ℕ × V) → List ℕ → V → List (List ℕ × V) → Type 0
  IsOneMore old key v new = IsNameTrie new × (ranked_patterns new ≡ insert_entry pattern_order (ranked_patterns old) (pattern_in key) v)

  one_more : (old : List (List ℕ × V)) (key : List ℕ) (v : V) → IsPatternKey key → IsNameTrie old → IsOneMore old key v (insert_entry key_order old key v)
  one_more old key v is trie =
      let p = pattern_in key in
      subst (λ k. IsOneMore old key v (insert_entry key_order old k v)) (sym is.same)
      (record { keys = keys_with p v old is.pattern trie.keys; ordered = sorted_inserted key_order key_total (pattern_key p) v old trie.ordered }, ranked_with p v old is.pattern trie.keys)

  filled : (old es : List (List ℕ × V)) → IsNameTrie old → ArePatternKeys es → IsNameTrie (with_all key_order old es) × (ranked_patterns (with_all key_order old es) ≡ with_all pattern_order (ranked_patterns old) (patterns es))
  filled old [] trie are = (trie, refl)
  filled old (e ∷ es) trie are =
      let more = one_more old e.0 e.1 are.0 trie in
      let rest = filled (insert_entry key_order old e.0 e.1) es more.0 are.1 in
      (rest.0, rest.1 ∙ ap (λ r. with_all pattern_order r (patterns es)) more.1)

  pub filled_trie : (es trie : List (List ℕ × V)) → ArePatternKeys es → trie ≡ with_all key_order [] es → IsNameTrie trie
  filled_trie es trie are e = subst (λ t. IsNameTrie t) (sym e) (filled [] es no_entries are).0

  pub filled_list : (es trie : List (List ℕ × V)) → ArePatternKeys es → trie ≡ with_all key_order [] es → ranked_patterns trie ≡ with_all pattern_order [] (patterns es)
  filled_list es trie are e = ap ranked_patterns e ∙ (filled [] es no_entries are).1
