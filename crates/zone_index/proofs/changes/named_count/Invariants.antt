use Rattle.std.proofs.Common.{◌+◌, ◌≤◌, drop}
use Rattle.std.specs.List.{AllByRecursion}
use Rattle.zone_index.specs.Changes.{HasStepRows, step_rows}
use Rattle.zone_index.proofs.changes.named_count.Given as goal

abbrev pub invariant-loop-step : goal.invariant-loop-step
invariant-loop-step l =
    (AllByRecursion HasStepRows (drop l.step-index l.steps) → AllByRecursion HasStepRows l.steps)
    × (l.count + step_rows (drop l.step-index l.steps) ≤ step_rows l.steps)
