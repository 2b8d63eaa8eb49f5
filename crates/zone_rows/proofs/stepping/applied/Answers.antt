use Rattle.std.proofs.Common.{◌+◌, List, length, sym, ap, subst, arith}
use Rattle.std.specs.Prelude.{All}
use Rattle.zone_rows.specs.declared.steps.Step.{Step}
use Rattle.zone_rows.specs.Drafts.{rows_of}
use Rattle.zone_rows.specs.Marks.{mark_of, IsStepNamed}
use Rattle.zone_rows.specs.Steps.{after_steps}
use Rattle.zone_rows.proofs.DraftSteps.{StepsGoOn, steps_begin, steps_next, first_step_named}
use Rattle.zone_rows.proofs.stepping.applied.Goals as goal

pub loop-step-init : goal.loop-step-init
loop-step-init c =
    let e = c.into_iter-step-iterator.ensures.into_iter_gives.0 in
    record {
      goes = subst (λ (r : List Step). StepsGoOn c.args.content.now.rows c.in_ok-draft.draft (after_steps c.args.bound 1 c.args.content.now.soa c.args.content.now.rows c.args.steps.items)
          (after_steps c.args.bound 1 c.in_ok-soa.soa (rows_of c.args.content.now.rows c.in_ok-draft.draft) r) r) (sym e)
          (steps_begin c.args.content.now.rows c.in_ok-draft.draft c.args.bound c.in_ok-soa.soa c.args.content.now.soa c.args.content.now.rows c.args.steps.items
          c.in_ok-draft.ensures.draft c.in_ok-draft.ensures.rows c.in_ok-soa.ensures.cases
          (subst (λ (r : List Step). All (IsStepNamed (mark_of c.in_ok-draft.draft.marks)) r) c.as_slice.ensures.value c.in_ok-draft.ensures.named));
      count = omega (arith, ap length e);
    }

pub apply-requires-clause-deleted : goal.apply-requires-clause-deleted
apply-requires-clause-deleted c =
    (first_step_named (mark_of c.loop-step.draft.marks) c.in-Some.step c.next.new.self.rest.items
    (subst (λ (r : List Step). All (IsStepNamed (mark_of c.loop-step.draft.marks)) r) c.in-Some.ensures.steps.0 c.loop-step.invariant.goes.named)).0

pub apply-requires-clause-added : goal.apply-requires-clause-added
apply-requires-clause-added c =
    (first_step_named (mark_of c.loop-step.draft.marks) c.in-Some.step c.next.new.self.rest.items
    (subst (λ (r : List Step). All (IsStepNamed (mark_of c.loop-step.draft.marks)) r) c.in-Some.ensures.steps.0 c.loop-step.invariant.goes.named)).1

pub loop-step-preserved : goal.loop-step-preserved
loop-step-preserved c =
    let e = c.in-Some.ensures.steps.0 in
    record {
      goes = steps_next c.args.content.now.rows c.loop-step.draft c.apply.new.self (after_steps c.args.bound 1 c.args.content.now.soa c.args.content.now.rows c.args.steps.items)
          c.args.bound (c.loop-step.before + 1) c.loop-step.soa c.in-Some.step c.next.new.self.rest.items
          (subst (λ (r : List Step). StepsGoOn c.args.content.now.rows c.loop-step.draft (after_steps c.args.bound 1 c.args.content.now.soa c.args.content.now.rows c.args.steps.items)
          (after_steps c.args.bound (c.loop-step.before + 1) c.loop-step.soa (rows_of c.args.content.now.rows c.loop-step.draft) r) r) e c.loop-step.invariant.goes)
          c.in_ok-apply.ensures;
      count = omega (arith, ap length e, c.loop-step.invariant.count);
    }
