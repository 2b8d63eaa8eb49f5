use Rattle.std.proofs.Common.{take}
use Rattle.zone_index.specs.Gathering.{IsListed}
use Rattle.zone_index.proofs.gathering.list_rows.Given as goal

abbrev pub invariant-loop-at : goal.invariant-loop-at
invariant-loop-at l = IsListed l.origin (take l.at l.rows.rows) l.list
