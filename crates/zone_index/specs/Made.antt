-- Entries of which tries are made.
use Rattle.std.specs.Prelude.{◌≡◌, ℕ, List, [], ◌∷◌, ◌++◌, map}
use Rattle.ip_prefix.specs.Prefix.{PlainPrefix, prefix_order}
use Rattle.dns_name.specs.Alike.{PlainPattern}
use Rattle.qname_index.specs.Ranked.{ArePatternKeys, patterns}
use Rattle.octet_trie.specs.Listed.{ArePresent as AreFoundPresent}
use Rattle.octet_trie.specs.Trie.{found_entry}
use Rattle.octet_trie.specs.declared.trie.OctetFound.{OctetFound}
use Rattle.prefix_index.specs.Ranked.{with_all as with_prefixes}
use Rattle.prefix_index.specs.Trie.{ArePresent}
use Rattle.qname_index.specs.Best.{pattern_order}
use Rattle.trie_keys.specs.Filling.{with_all}
use Rattle.trie_keys.specs.declared.marked.Marked.{Marked}
use Rattle.zone_index.specs.Counted.{ArePatterns, IsCounted}
use Rattle.zone_index.specs.Kept.{is_kept}
use Rattle.zone_index.specs.declared.kept.Kept.{Kept}

-- the entries that are found by octets, in order of precedence of their patterns
abbrev pub patterns_of : List (OctetFound ℕ Kept) → List (PlainPattern × Marked ℕ Kept)
patterns_of found = with_all pattern_order [] (patterns (map found_entry found))

-- their keys are those of patterns, each has a value, and so many act
pub record AreFoundPatterns (found : List (OctetFound ℕ Kept)) (acting : ℕ) : Type 0 where
  pub keys : ArePatternKeys (map found_entry found)
  pub present : AreFoundPresent is_kept found
  pub counted : ArePatterns (patterns_of found) acting

-- the entries in order of precedence of their prefixes
abbrev pub prefixes_of : List (PlainPrefix × Marked ℕ Kept) → List (PlainPrefix × Marked ℕ Kept)
prefixes_of found = with_prefixes [] found

-- each has a value, and so many act
pub record AreFoundPrefixes (found : List (PlainPrefix × Marked ℕ Kept)) (acting : ℕ) : Type 0 where
  pub present : ArePresent is_kept found
  pub counted : IsCounted prefix_order (prefixes_of found) acting

-- the key of a base, between the first and the last of the octets of a place
abbrev pub IsKeyBetween : List ℕ → List ℕ → Type 0
IsKeyBetween octets key = (kind : ℕ) (between : List ℕ) (flag : ℕ) → octets ≡ kind ∷ (between ++ flag ∷ []) → key ≡ between
