use Rattle.std.proofs.Common.{sym, ◌∙◌, arith}
use Rattle.packed_lists.proofs.Runs.{first_is_same, none_differs, next_differs, one_more_is_same, split_is_first_run}
use Rattle.packed_lists.proofs.run.first_run.Goals as goal
use Rattle.packed_lists.proofs.run.first_run.Goals.{then-loop-count-test+else-eq, else-loop-count-test}

pub loop-count-init : goal.loop-count-init
loop-count-init c = record { some = omega arith; within = omega (arith, c.requires.some); same = first_is_same c.args.keys.now _ c.requires.some }

pub loop-count-preserved : goal.loop-count-preserved
loop-count-preserved c = record {
  some = omega arith;
  within = omega (arith, c.loop-count-test.true);
  same = one_more_is_same _ c.args.keys.now c.loop-count.count _ c.loop-count-test.true (sym c.eq.ensures ∙ c.if-eq.true) c.loop-count.invariant.same;
}

pub returns : goal.returns
returns c =
    split_is_first_run _ c.args.keys.now c.split_at.result.0.now c.split_at.result.1.now c.loop-count.count c.loop-count.invariant.some c.loop-count.invariant.within
    c.split_at.ensures.front c.split_at.ensures.back c.loop-count.invariant.same
    (elim c.loop-count-test.branch [
      | then-loop-count-test+else-eq w ↦ next_differs _ c.args.keys.now c.loop-count.count _ w.loop-count-test.true (sym w.eq.ensures ∙ w.if-eq.false)
      | else-loop-count-test w ↦ none_differs _ c.args.keys.now c.loop-count.count w.loop-count-test.false
    ])
    c.requires.order
