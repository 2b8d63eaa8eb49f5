use Rattle.std.proofs.Common.{◌≡◌, ◌+◌, drop}
use Rattle.zone_rows.specs.Steps.{without_deleted}
use Rattle.zone_index.proofs.stepping.delete_all.Given as goal

abbrev pub invariant-loop-place : goal.invariant-loop-place
invariant-loop-place l =
    (without_deleted (l.step + 1) (l.place + 1) l.rows.rows (drop l.place l.deleted) ≡ without_deleted (l.step + 1) 1 l.fn.rows.rows l.deleted)
    × (l.rows.origin ≡ l.fn.rows.origin)
