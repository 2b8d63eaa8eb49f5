use Rattle.std.proofs.Common.{◌≡◌, map, take}
use Rattle.zone_rows.specs.Stored.{plain_row}
use Rattle.zone_index.proofs.indexed.copied.Given as goal

abbrev pub invariant-loop-place : goal.invariant-loop-place
invariant-loop-place l = l.rows ≡ take l.place (map plain_row l.list.rows)
