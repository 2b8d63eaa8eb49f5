use Rattle.std.proofs.Common.{◌≡◌, map, take}
use Rattle.action_codec.specs.Local.{rule_rows}
use Rattle.action_codec.proofs.order.in_order.Given as goal

abbrev pub invariant-loop-row : goal.invariant-loop-row
invariant-loop-row l = l.by_data ≡ rule_rows (map (λ row. row.now) (take l.row-index l.rows))
