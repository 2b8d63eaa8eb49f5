use Rattle.std.proofs.Common.{take}
use Rattle.zone_rows.proofs.Repeats.{HasKept}
use Rattle.zone_rows.proofs.rows.Rows.firsts.Given as goal

abbrev pub invariant-loop-place : goal.invariant-loop-place
invariant-loop-place l = HasKept (take l.place l.self) l.kept l.seen
