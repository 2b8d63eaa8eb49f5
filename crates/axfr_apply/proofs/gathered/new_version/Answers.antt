use Rattle.axfr_apply.proofs.OpenSteps.{open_with_version}
use Rattle.axfr_apply.proofs.gathered.new_version.Goals as goal

pub invariant_of-result : goal.invariant_of-result
invariant_of-result c = rw c.new-step.ensures (open_with_version c.args.soa c.args.step.steps _ _ c.requires)
