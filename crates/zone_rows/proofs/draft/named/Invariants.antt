use Rattle.std.proofs.Common.{take}
use Rattle.zone_rows.specs.Marks.{mark_of}
use Rattle.zone_rows.proofs.Naming.{HasStepsNamed}
use Rattle.zone_rows.proofs.draft.named.Given as goal

abbrev pub invariant-loop-step : goal.invariant-loop-step
invariant-loop-step l = HasStepsNamed (mark_of l.marks) (take l.step-index l.steps)
