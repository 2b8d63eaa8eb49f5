use Rattle.std.proofs.Common.{◌≡◌, ◌++◌, map, take}
use Rattle.octet_trie.specs.Trie.{found_entry}
use Rattle.qname_index.specs.Ranked.{patterns}
use Rattle.qname_index.proofs.listing.push_entries.Given as goal

abbrev pub invariant-loop-entry : goal.invariant-loop-entry
invariant-loop-entry g l = l.entries.items ≡ l.initial.entries.items ++ patterns (map found_entry (take l.entry-index l.found))
