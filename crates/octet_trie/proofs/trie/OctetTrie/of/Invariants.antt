use Rattle.std.proofs.Common.{◌≡◌, [], map}
use Rattle.octet_trie.specs.ListKeys.{octet_keys}
use Rattle.octet_trie.specs.Listed.{entries_from}
use Rattle.octet_trie.specs.Trie.{found_entry}
use Rattle.trie_keys.specs.Filling.{with_all}
use Rattle.octet_trie.proofs.trie.OctetTrie.of.Given as goal

abbrev pub invariant-loop-entry : goal.invariant-loop-entry
invariant-loop-entry g l = with_all octet_keys.order l.trie (entries_from l.entry-index l.entries) ≡ with_all octet_keys.order [] (map found_entry l.entries)
