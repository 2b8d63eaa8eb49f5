use Rattle.std.proofs.Common.{◌≡◌, ◌++◌, drop}
use Rattle.zone_index.specs.Placed.{other_numbers}
use Rattle.zone_index.proofs.editing.others.Given as goal

abbrev pub invariant-loop-other : goal.invariant-loop-other
invariant-loop-other l = l.kept.items ++ other_numbers l.number (drop l.other-index l.numbers) ≡ other_numbers l.number l.numbers
