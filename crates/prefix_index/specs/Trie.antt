-- What is true of a trie.
use Rattle.std.specs.Prelude.{◌≡◌, ℕ, ◌≤◌, Bool, true, List, length}
use Rattle.std.specs.List.{AllByRecursion}
use Rattle.trie_keys.specs.declared.marked.Marked.{Marked}
use Rattle.trie_keys.specs.Keys.{Keys}
use Rattle.trie_keys.specs.Sorting.{AreEntries}
use Rattle.prefix_index.specs.PlainNode.{PlainNode}
use Rattle.prefix_index.specs.Nodes.{AreWell, stands}

pub record IsTrie {K V : Type 0} (keys : Keys K) (nodes : List (PlainNode K V)) (root : ℕ) : Type 0 where
  pub well : AreWell keys nodes
  pub within : root ≤ length nodes
  pub entries : AreEntries keys (stands keys nodes root).list

-- each key is spelled as it should be
abbrev pub AreValid : {K V : Type 0} → Keys K → List (K × V) → Type 0
AreValid keys entries = AllByRecursion (λ e. keys.valid e.0 ≡ true) entries

-- each mark says that there is a value
abbrev pub ArePresent : {K N M : Type 0} → (M → Bool) → List (K × Marked N M) → Type 0
ArePresent present entries = AllByRecursion (λ e. present e.1.mark ≡ true) entries
