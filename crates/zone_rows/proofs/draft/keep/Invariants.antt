use Rattle.std.proofs.Common.{◌+◌, ◌++◌, drop}
use Rattle.zone_rows.specs.Marks.{mark_of, live_from}
use Rattle.zone_rows.proofs.DraftSteps.{KeepsOn}
use Rattle.zone_rows.proofs.draft.keep.Given as goal

abbrev pub invariant-loop-place : goal.invariant-loop-place
invariant-loop-place l =
    KeepsOn (mark_of l.marks) (l.before + l.place) l.rows (drop l.place l.slots) (l.fn.rows ++ live_from (mark_of l.marks) l.before l.slots)
