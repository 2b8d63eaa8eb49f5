use Rattle.std.proofs.Common.{◌≡◌, map, take}
use Rattle.std.specs.List.{flat_map}
use Rattle.octet_trie.specs.Trie.{found_entry}
use Rattle.summary_index.specs.Entries.{entry_without}
use Rattle.summary_index.proofs.entries.without_zone.Given as goal

abbrev pub invariant-loop-entry : goal.invariant-loop-entry
invariant-loop-entry l = map found_entry l.left.items ≡ flat_map (λ e. entry_without l.number (found_entry e)) (take l.entry-index l.entries)
