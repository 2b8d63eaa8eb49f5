-- What is true of a trie of patterns, and what look-ups find.
use Rattle.std.specs.Prelude.{ℕ, ◌&&◌, Bool, List, Option}
use Rattle.std.specs.Cmp.Lexicographic.{slice_cmp}
use Rattle.std.specs.List.{find}
use Rattle.std.specs.List.Sorted.{IsStrictlySortedBy}
use Rattle.std.specs.Map.{keys_of}
use Rattle.std.specs.Ordering.{nat_cmp}
use Rattle.dns_name.specs.Alike.{PlainPattern, matches}
use Rattle.dns_name.specs.Labels.{Name}
use Rattle.trie_keys.specs.declared.marked.Marked.{Marked}
use Rattle.qname_index.specs.Ranked.{ArePatternKeys}

-- each key is that of a pattern, and they stand in order
pub record IsNameTrie {V : Type 0} (es : List (List ℕ × V)) : Type 0 where
  pub keys : ArePatternKeys es
  pub ordered : IsStrictlySortedBy (slice_cmp nat_cmp) (keys_of es)

-- the first entry in order of precedence whose pattern matches the name, of those that act
abbrev pub best_acting : {N M : Type 0} → (M → Bool) → Name → List (PlainPattern × Marked N M) → Option (PlainPattern × Marked N M)
best_acting acts name entries = find (λ e. matches e.0 name && acts e.1.mark) entries
