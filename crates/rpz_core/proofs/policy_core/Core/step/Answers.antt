use Rattle.std.proofs.Common.{Result, ap, subst, ◌∙◌}
use Rattle.rpz_core.specs.declared.event.CoreFault.{CoreFault}
use Rattle.rpz_core.specs.declared.event.Output.{Output}
use Rattle.rpz_core.specs.State.{CoreState, Steps, core_step}
use Rattle.rpz_core.proofs.policy_core.Core.step.Goals as goal

pub returns-clause-world : goal.returns-clause-world
returns-clause-world c = λ world same.
    subst (λ (g : Result (CoreState × Output) CoreFault). Steps g c.take_or_empty.result c.args.self.now c.take_or_empty.new.self)
    (ap (λ (s : CoreState). core_step s c.args.event) same ∙ c.the_core_does_what_the_world_does.ensures world c.args.event) c.take_or_empty.ensures
