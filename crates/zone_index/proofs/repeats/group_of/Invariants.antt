use Rattle.std.proofs.Common.{◌≡◌, ◌++◌, map, drop}
use Rattle.zone_index.specs.Placed.{rows_by}
use Rattle.zone_rows.specs.Stored.{plain_row}
use Rattle.zone_index.proofs.repeats.group_of.Given as goal

abbrev pub invariant-loop-number : goal.invariant-loop-number
invariant-loop-number l = l.group ++ map plain_row (rows_by (drop l.number-index l.numbers) l.rows.rows) ≡ map plain_row (rows_by l.numbers l.rows.rows)
