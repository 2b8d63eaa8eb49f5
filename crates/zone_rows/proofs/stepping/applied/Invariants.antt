use Rattle.std.proofs.Common.{◌≡◌, ◌+◌, length}
use Rattle.zone_rows.specs.Drafts.{rows_of}
use Rattle.zone_rows.specs.Steps.{after_steps}
use Rattle.zone_rows.proofs.DraftSteps.{StepsGoOn}
use Rattle.zone_rows.proofs.stepping.applied.Given as goal

abbrev pub invariant-loop-step : goal.invariant-loop-step
invariant-loop-step l = record {
  goes : StepsGoOn l.base l.draft (after_steps l.bound 1 l.fn.content.soa l.fn.content.rows l.fn.steps.items)
      (after_steps l.bound (l.before + 1) l.soa (rows_of l.base l.draft) l.step-iterator.rest.items) l.step-iterator.rest.items;
  count : l.before + length l.step-iterator.rest.items ≡ length l.fn.steps.items;
}
