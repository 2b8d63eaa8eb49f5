use Rattle.std.proofs.Common.{◌≡◌, ◌++◌, map, take}
use Rattle.octet_trie.specs.Trie.{found_entry}
use Rattle.summary_index.proofs.entries.push_entries.Given as goal

abbrev pub invariant-loop-entry : goal.invariant-loop-entry
invariant-loop-entry l = map found_entry l.entries.items ≡ map found_entry l.initial.entries.items ++ map found_entry (take l.entry-index l.more)
