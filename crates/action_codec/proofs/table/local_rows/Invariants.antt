use Rattle.std.proofs.Common.{◌≡◌, map, take}
use Rattle.action_codec.specs.Local.{local_row}
use Rattle.action_codec.proofs.table.local_rows.Given as goal

abbrev pub invariant-loop-row : goal.invariant-loop-row
invariant-loop-row l = l.local ≡ map (λ row. local_row row.now) (take l.row-index l.rows)
