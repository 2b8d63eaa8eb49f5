use Rattle.std.proofs.Common.{◌≡◌, ◌++◌, take}
use Rattle.summary_index.proofs.prefix_entries.push_prefixes.Given as goal

abbrev pub invariant-loop-entry : goal.invariant-loop-entry
invariant-loop-entry l = l.entries.items ≡ l.initial.entries.items ++ take l.entry-index l.more
