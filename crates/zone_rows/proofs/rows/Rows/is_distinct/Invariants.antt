use Rattle.std.proofs.Common.{take}
use Rattle.zone_rows.proofs.Repeats.{HasKept}
use Rattle.zone_rows.proofs.rows.Rows.is_distinct.Given as goal

abbrev pub invariant-loop-place : goal.invariant-loop-place
invariant-loop-place l = HasKept (take l.place l.self) (take l.place l.self) l.seen
