use Rattle.std.proofs.Common.{◌≡◌, map, take}
use Rattle.summary_index.specs.Entries.{in_trie}
use Rattle.summary_index.proofs.prefix_entries.marked_prefixes.Given as goal

abbrev pub invariant-loop-entry : goal.invariant-loop-entry
invariant-loop-entry l = l.marked.items ≡ map in_trie (take l.entry-index l.entries)
