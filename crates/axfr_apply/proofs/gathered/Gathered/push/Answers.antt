use Rattle.std.proofs.Common.{refl, sym}
use Rattle.axfr_apply.specs.Reading.{soa_block}
use Rattle.axfr_apply.proofs.OpenSteps.{open_with_added, open_with_deleted}
use Rattle.axfr_apply.proofs.StepBlocks.{row_behind_one, row_behind_two}
use Rattle.axfr_apply.proofs.gathered.Gathered.push.Goals as goal
use Rattle.axfr_apply.proofs.gathered.Gathered.push.Goals.{in-Whole+in_ok-push-in-Whole, in-Deleting+in_ok-push-in-Deleting, in-Adding+in_ok-push-in-Adding}

pub invariant_of-self-2 : goal.invariant_of-self-2
invariant_of-self-2 c = elim c.match-self.branch [
  | in-Whole+in_ok-push-in-Whole w ↦ rw w.self-inside-is tt
  | in-Deleting+in_ok-push-in-Deleting w ↦
      let inv = rw w.in-Deleting.is at c.self.invariant in
      let step = w.in-Deleting.step in
      rw (w.self-inside-is, w.in_ok-push-in-Deleting.ensures.ok) (open_with_deleted w.in-Deleting.soa step.steps step.from _ _ inv)
  | in-Adding+in_ok-push-in-Adding w ↦
      let inv = rw w.in-Adding.is at c.self.invariant in
      let step = w.in-Adding.step in
      rw (w.self-inside-is, w.in_ok-push-in-Adding.ensures.ok) (open_with_added w.in-Adding.soa step.before.steps _ step.to _ _ inv)
]

pub returns-clause-ok : goal.returns-clause-ok
returns-clause-ok c = elim c.match-self.branch [
  | in-Whole+in_ok-push-in-Whole w ↦ rw (w.self-inside-is, w.in_ok-push-in-Whole.ensures.ok, ← c.self.view_is, w.in-Whole.is) refl
  | in-Deleting+in_ok-push-in-Deleting w ↦
      let step = w.in-Deleting.step in
      rw (w.self-inside-is, w.in_ok-push-in-Deleting.ensures.ok, ← c.self.view_is, w.in-Deleting.is)
      (sym (row_behind_one (soa_block w.in-Deleting.soa) step.steps (record { soa = step.from; rows = step.deleted }) c.args.row))
  | in-Adding+in_ok-push-in-Adding w ↦
      let step = w.in-Adding.step in
      rw (w.self-inside-is, w.in_ok-push-in-Adding.ensures.ok, ← c.self.view_is, w.in-Adding.is)
      (sym (row_behind_two (soa_block w.in-Adding.soa) step.before.steps _ (record { soa = step.to; rows = step.added }) c.args.row))
]
