use Rattle.std.proofs.Common.{◌+◌, drop}
use Rattle.zone_rows.specs.Drafts.{rows_of}
use Rattle.zone_rows.specs.Steps.{without_deleted}
use Rattle.zone_rows.proofs.DraftSteps.{GoesOn}
use Rattle.zone_rows.proofs.draft.Draft.delete_all.Given as goal

abbrev pub invariant-loop-place : goal.invariant-loop-place
invariant-loop-place l =
    GoesOn l.base l.fn.self l.self (without_deleted (l.step + 1) 1 (rows_of l.base l.fn.self) l.rows)
    (without_deleted (l.step + 1) (l.place + 1) (rows_of l.base l.self) (drop l.place l.rows)) (drop l.place l.rows)
