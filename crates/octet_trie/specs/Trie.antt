-- What is true of a trie, and what it gives.
use Rattle.std.specs.Prelude.{ℕ, List}
use Rattle.octet_trie.specs.ListKeys.{octet_keys, entry_key}
use Rattle.octet_trie.specs.Nodes.{PlainNode, Stored, stands, IsNode}
use Rattle.octet_trie.specs.declared.trie.OctetFound.{OctetFound}
use Rattle.trie_keys.specs.Sorting.{AreEntries}
use Rattle.trie_keys.specs.declared.marked.Marked.{Marked}

pub record IsTrie {V : Type 0} (s : Stored V) (root : PlainNode V) : Type 0 where
  pub node : IsNode s root
  pub entries : AreEntries octet_keys (stands s root).list

-- the entry that was found
abbrev pub found_entry : {N M : Type 0} → OctetFound N M → List ℕ × Marked N M
found_entry found = (entry_key found.key.now found.wild, found.value)
