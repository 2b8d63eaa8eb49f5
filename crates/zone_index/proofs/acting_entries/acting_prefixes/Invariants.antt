use Rattle.std.proofs.Common.{◌≡◌, ◌++◌, drop}
use Rattle.zone_index.specs.ActingEntries.{acting_marked}
use Rattle.zone_index.proofs.acting_entries.acting_prefixes.Given as goal

abbrev pub invariant-loop-entry : goal.invariant-loop-entry
invariant-loop-entry g l = l.entries.items ++ acting_marked l.value ((drop l.entry-index l.found)) ≡ acting_marked l.value (l.found)
