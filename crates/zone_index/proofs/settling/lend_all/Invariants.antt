use Rattle.std.proofs.Common.{◌≡◌, ◌++◌, map, drop}
use Rattle.zone_index.proofs.settling.lend_all.Given as goal

abbrev pub invariant-loop-row : goal.invariant-loop-row
invariant-loop-row l = map (λ row. row.now) l.lent.items ++ drop l.row-index l.rows.items ≡ l.rows.items
