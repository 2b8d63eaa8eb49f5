use Rattle.std.proofs.Common.{take}
use Rattle.zone_rows.specs.Marks.{mark_of}
use Rattle.zone_rows.proofs.DraftSteps.{HasCounted}
use Rattle.zone_rows.proofs.draft.count_rows.Given as goal

abbrev pub invariant-loop-place : goal.invariant-loop-place
invariant-loop-place l = HasCounted (mark_of l.fn.marks) (mark_of l.marks) (take l.place l.base)
