use Rattle.std.proofs.Common.{◌≡◌, take}
use Rattle.std.specs.List.{flat_map}
use Rattle.summary_index.specs.Entries.{entry_without}
use Rattle.summary_index.proofs.prefix_entries.without_zone.Given as goal

abbrev pub invariant-loop-entry : goal.invariant-loop-entry
invariant-loop-entry l = l.left.items ≡ flat_map (entry_without l.number) (take l.entry-index l.entries)
