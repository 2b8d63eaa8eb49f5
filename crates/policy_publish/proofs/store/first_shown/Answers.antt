use Rattle.std.proofs.Common.{◌∙◌}
use Rattle.std.specs.Arc.{arc_value}
use Rattle.policy_publish.proofs.Opening.{new_stands}
use Rattle.policy_publish.proofs.store.first_shown.Goals as goal

pub returns-clause-stands : goal.returns-clause-stands
returns-clause-stands c = new_stands c.args.settings.now (arc_value c.in_ok-version.version) (c.in_ok-version.ensures.ok ∙ c.in_ok-start.ensures)
