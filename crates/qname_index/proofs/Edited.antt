-- An edit or a look-up of a trie of octets, as one of patterns.
use Rattle.std.proofs.Common.{◌≡◌, ℕ, Bool, Option, List, sym, ap, ◌∙◌, subst}
use Rattle.std.specs.BTreeMap.{insert_entry, is_at}
use Rattle.std.specs.Map.{lookup, remove_entry}
use Rattle.dns_name.specs.Alike.{PlainPattern}
use Rattle.dns_name.specs.Labels.{IsName, Name, lowered}
use Rattle.octet_trie.specs.ListKeys.{entry_key}
use Rattle.qname_index.specs.Best.{pattern_order}
use Rattle.qname_index.specs.Index.{IsKey}
use Rattle.trie_keys.proofs.Sorting.{sorted_inserted, sorted_removed}
use Rattle.qname_index.specs.Key.{name_key}
use Rattle.qname_index.specs.Ranked.{pattern_key, ranked_patterns}
use Rattle.qname_index.specs.Trie.{IsNameTrie}
use Rattle.qname_index.proofs.Ranking.{found_at, keys_with, keys_without, ranked_with, ranked_without}
use Rattle.qname_index.proofs.Same.{key_order, key_total}

-- the octets and the kind are those of the pattern
pub record IsAsked (octets : List ℕ) (wild : Bool) (p : PlainPattern) : Type 0 where
  pub key : octets ≡ name_key p.base
  pub kind : wild ≡ p.wild

-- the base is that of the pattern
pub based_key : (base : Name) (p : PlainPattern) → base ≡ p.base → IsName base → lowered base ≡ base → IsKey p
based_key base p e is lower = record { name = subst IsName e is; lower_case = ap lowered (sym e) ∙ lower ∙ e }

asked_key : (octets : List ℕ) (wild : Bool) (p : PlainPattern) → IsAsked octets wild p → entry_key octets wild ≡ pattern_key p
asked_key octets wild p asked = λ i. entry_key (asked.key i) (asked.kind i)

module _ {V : Type 0} where
  abbrev IsWith : List (List ℕ × V) → List (List ℕ × V) → PlainPattern → V → Type 0
  IsWith old new p v = IsNameTrie new × (ranked_patterns new ≡ insert_entry pattern_order (ranked_patterns old) p v)

  pub with_pattern : (old new : List (List ℕ × V)) (octets : List ℕ) (wild : Bool) (p : PlainPattern) (v : V) → IsAsked octets wild p → IsKey p → IsNameTrie old
      → new ≡ insert_entry key_order old (entry_key octets wild) v → IsWith old new p v
  with_pattern old new octets wild p v asked is trie e =
      let same : new ≡ insert_entry key_order old (pattern_key p) v = e ∙ ap (λ k. insert_entry key_order old k v) (asked_key octets wild p asked) in
      subst (λ es. IsWith old es p v) (sym same)
      (record { keys = keys_with p v old is trie.keys; ordered = sorted_inserted key_order key_total (pattern_key p) v old trie.ordered }, ranked_with p v old is trie.keys)

  abbrev IsWithout : List (List ℕ × V) → List (List ℕ × V) → PlainPattern → Type 0
  IsWithout old new p = IsNameTrie new × (ranked_patterns new ≡ remove_entry (is_at (pattern_order p)) (ranked_patterns old))

  pub without_pattern : (old new : List (List ℕ × V)) (octets : List ℕ) (wild : Bool) (p : PlainPattern) → IsAsked octets wild p → IsNameTrie old
      → new ≡ remove_entry (is_at (key_order (entry_key octets wild))) old → IsWithout old new p
  without_pattern old new octets wild p asked trie e =
      let same : new ≡ remove_entry (is_at (key_order (pattern_key p))) old = e ∙ ap (λ k. remove_entry (is_at (key_order k)) old) (asked_key octets wild p asked) in
      subst (λ es. IsWithout old es p) (sym same)
      (record { keys = keys_without p old trie.keys; ordered = sorted_removed key_order key_total (is_at (key_order (pattern_key p))) old trie.ordered }, ranked_without p old trie.ordered trie.keys)

  pub found_pattern_at : (es : List (List ℕ × V)) (entries : List (PlainPattern × V)) (octets : List ℕ) (wild : Bool) (p : PlainPattern) (found : Option V) → IsAsked octets wild p → IsNameTrie es
      → found ≡ lookup (is_at (key_order (entry_key octets wild))) es → ranked_patterns es ≡ entries → found ≡ lookup (is_at (pattern_order p)) entries
  found_pattern_at es entries octets wild p found asked trie e view =
      e ∙ ap (λ k. lookup (is_at (key_order k)) es) (asked_key octets wild p asked) ∙ sym (found_at p es trie.keys) ∙ ap (lookup (is_at (pattern_order p))) view
