use Rattle.std.proofs.Common.{ap, sym, refl, ◌∷◌, ◌∙◌}
use Rattle.axfr_apply.specs.Reading.{soa_block}
use Rattle.axfr_apply.specs.Stepping.{step_of}
use Rattle.axfr_apply.proofs.OpenSteps.{closed_behind, open_behind, step_and_soa}
use Rattle.axfr_apply.proofs.SoaEnds.{no_fault}
use Rattle.axfr_apply.proofs.gathered.behind_step.Goals as goal
use Rattle.axfr_apply.proofs.gathered.behind_step.Goals.{then-new-newest, else-new-newest}

pub invariant_of-result : goal.invariant_of-result
invariant_of-result c = elim c.if-new-newest.branch [
  | then-new-newest w ↦
      let step = step_of c.args.step in
      rw (w.form-is, c.in_ok-steps.ensures.steps)
      (closed_behind c.args.soa c.args.step.before.steps step c.args.next c.requires (sym c.to_serial-new.ensures ∙ w.if-new-newest.true))
  | else-new-newest w ↦
      let step = step_of c.args.step in
      rw (w.form-is, w.new-step.ensures, c.in_ok-steps.ensures.steps)
      (open_behind c.args.soa c.args.step.before.steps step c.args.next c.requires (λ e. w.if-new-newest.false (c.to_serial-new.ensures ∙ e)))
]

pub returns : goal.returns
returns c =
    let step = step_of c.args.step in
    let none = no_fault _ _ (rw c.to_serial-new.ensures at c.in_ok-check_behind_step.ensures) refl in
    elim c.if-new-newest.branch [
      | then-new-newest w ↦
          (none, rw (w.form-is, c.in_ok-steps.ensures.steps) (ap (λ bs. soa_block c.args.soa ∷ bs) (step_and_soa c.args.step.before.steps step c.args.next)))
      | else-new-newest w ↦ (
        none,
        rw (w.form-is, w.new-step.ensures, c.in_ok-steps.ensures.steps)
            (ap (λ bs. soa_block c.args.soa ∷ bs) (step_and_soa c.args.step.before.steps step c.args.next)),
      )
    ]
