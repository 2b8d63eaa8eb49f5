use Rattle.std.proofs.Common.{◌≡◌, map, take}
use Rattle.octet_trie.specs.Trie.{found_entry}
use Rattle.summary_index.specs.Entries.{in_trie}
use Rattle.summary_index.proofs.entries.marked.Given as goal

abbrev pub invariant-loop-entry : goal.invariant-loop-entry
invariant-loop-entry l = map found_entry l.marked.items ≡ map (λ e. in_trie (found_entry e)) (take l.entry-index l.entries)
