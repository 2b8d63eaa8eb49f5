use Rattle.std.proofs.Common.{◌≡◌, ◌+◌, drop}
use Rattle.zone_rows.specs.Steps.{with_added}
use Rattle.zone_index.proofs.stepping.add_all.Given as goal

abbrev pub invariant-loop-place : goal.invariant-loop-place
invariant-loop-place l =
    (with_added l.bound (l.step + 1) (l.place + 1) l.rows.rows (drop l.place l.added) ≡ with_added l.bound (l.step + 1) 1 l.fn.rows.rows l.added)
    × (l.rows.origin ≡ l.fn.rows.origin)
