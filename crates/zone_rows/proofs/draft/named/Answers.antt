use Rattle.std.proofs.Common.{subst, arith}
use Rattle.std.proofs.lemmas.List.{take_all}
use Rattle.zone_rows.specs.Marks.{mark_of}
use Rattle.zone_rows.proofs.Naming.{HasStepsNamed, step_named}
use Rattle.zone_rows.proofs.draft.named.Goals as goal

pub loop-step-preserved : goal.loop-step-preserved
loop-step-preserved c =
    step_named (mark_of c.loop-step.marks) (mark_of c.name_rows.new.marks) (mark_of c.name_rows-in-loop-step.new.marks) c.args.steps.now c.loop-step.step-index c.step-item.result c.loop-step-test.true c.step-item.is c.loop-step.invariant
    c.in_ok-name_rows.ensures
    c.in_ok-name_rows-2.ensures

pub returns-clause-named : goal.returns-clause-named
returns-clause-named c = (subst (HasStepsNamed (mark_of c.loop-step.marks)) (take_all c.loop-step.step-index c.args.steps.now (omega (arith, c.loop-step-test.false))) c.loop-step.invariant).named
