use Rattle.std.proofs.Common.{◌≡◌, ◌++◌, map, drop}
use Rattle.octet_trie.specs.Trie.{found_entry}
use Rattle.zone_index.specs.ActingEntries.{acting_marked}
use Rattle.zone_index.proofs.acting_entries.acting_keys.Given as goal

abbrev pub invariant-loop-entry : goal.invariant-loop-entry
invariant-loop-entry g l = map found_entry l.entries.items ++ acting_marked l.value (map found_entry (drop l.entry-index l.found)) ≡ acting_marked l.value (map found_entry l.found)
