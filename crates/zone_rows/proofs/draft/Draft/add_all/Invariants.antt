use Rattle.std.proofs.Common.{◌+◌, drop}
use Rattle.zone_rows.specs.Drafts.{rows_of}
use Rattle.zone_rows.specs.Steps.{with_added}
use Rattle.zone_rows.proofs.DraftSteps.{GoesOn}
use Rattle.zone_rows.proofs.draft.Draft.add_all.Given as goal

abbrev pub invariant-loop-place : goal.invariant-loop-place
invariant-loop-place l =
    GoesOn l.base l.fn.self l.self (with_added l.bound (l.step + 1) 1 (rows_of l.base l.fn.self) l.rows)
    (with_added l.bound (l.step + 1) (l.place + 1) (rows_of l.base l.self) (drop l.place l.rows)) (drop l.place l.rows)
