use Rattle.std.proofs.Common.{◌≡◌, ◌++◌, drop}
use Rattle.zone_index.specs.Changes.{step_triggers}
use Rattle.zone_index.proofs.changes.named_triggers.Given as goal

abbrev pub invariant-loop-step : goal.invariant-loop-step
invariant-loop-step l = l.triggers.items ++ step_triggers l.origin (drop l.step-index l.steps) ≡ step_triggers l.origin l.steps
