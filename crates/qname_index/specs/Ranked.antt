-- The entries of a trie, each by its pattern, in order of precedence.
use Rattle.std.specs.Prelude.{◌≡◌, ℕ, List, [], ◌∷◌, map}
use Rattle.std.specs.BTreeMap.{insert_entry}
use Rattle.std.specs.List.{AllByRecursion}
use Rattle.dns_name.specs.Alike.{PlainPattern}
use Rattle.octet_trie.specs.ListKeys.{entry_key}
use Rattle.qname_index.specs.Best.{pattern_order}
use Rattle.qname_index.specs.Index.{IsKey}
use Rattle.qname_index.specs.Key.{name_key}
use Rattle.qname_index.specs.Patterns.{pattern_in}

-- the key of the entry of a pattern
abbrev pub pattern_key : PlainPattern → List ℕ
pattern_key p = entry_key (name_key p.base) p.wild

-- the key is that of its pattern, whose base is a name in lower case
pub record IsPatternKey (key : List ℕ) : Type 0 where
  pub pattern : IsKey (pattern_in key)
  pub same : key ≡ pattern_key (pattern_in key)

module _ {V : Type 0} where
  abbrev pub ArePatternKeys : List (List ℕ × V) → Type 0
  ArePatternKeys es = AllByRecursion (λ e. IsPatternKey e.0) es

  -- each entry by the pattern of its key
  abbrev pub patterns : List (List ℕ × V) → List (PlainPattern × V)
  patterns es = map (λ e. (pattern_in e.0, e.1)) es

  -- in order of precedence
  abbrev pub ranked : List (PlainPattern × V) → List (PlainPattern × V)
  ranked [] = []
  ranked (e ∷ es) = insert_entry pattern_order (ranked es) e.0 e.1

  abbrev pub ranked_patterns : List (List ℕ × V) → List (PlainPattern × V)
  ranked_patterns es = ranked (patterns es)
