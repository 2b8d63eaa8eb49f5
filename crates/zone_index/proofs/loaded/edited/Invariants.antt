use Rattle.std.proofs.Common.{◌≡◌, ◌+◌, drop}
use Rattle.zone_rows.specs.Steps.{after_steps}
use Rattle.zone_rows.specs.declared.zone.TheConstants.{ROW_LIMIT}
use Rattle.zone_index.proofs.loaded.edited.Given as goal

abbrev pub invariant-loop-step : goal.invariant-loop-step
invariant-loop-step l =
    (after_steps ROW_LIMIT (l.step-index + 1) l.soa l.rows.rows (drop l.step-index l.steps) ≡ after_steps ROW_LIMIT 1 l.fn.loaded.soa l.fn.loaded.rows.rows l.steps)
    × (l.rows.origin ≡ l.fn.loaded.rows.origin)
    × (l.before ≡ l.step-index)
