use Rattle.std.proofs.Common.{take}
use Rattle.zone_rows.specs.Marks.{mark_of, HasNamed}
use Rattle.zone_rows.proofs.draft.name_rows.Given as goal

abbrev pub invariant-loop-place : goal.invariant-loop-place
invariant-loop-place l = HasNamed (mark_of l.fn.marks) (mark_of l.marks) (take l.place l.rows)
