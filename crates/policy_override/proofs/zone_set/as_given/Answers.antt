use Rattle.std.proofs.Common.{List, ◌∙◌, ap}
use Rattle.policy_override.specs.Overrides.{over_at}
use Rattle.policy_override.specs.ZoneSet.{origins_in, overrides_in}
use Rattle.policy_override.specs.declared.zone_set.ZoneSet.{ZoneSet}
use Rattle.policy_override.proofs.ZoneLemmas.{given_number, given_origins}
use Rattle.policy_override.proofs.zone_set.as_given.Goals as goal

pub returns-clause-origins : goal.returns-clause-origins
returns-clause-origins c = ap origins_in c.in_ok-zones.ensures ∙ given_origins c.args.origins.items

pub returns-clause-given : goal.returns-clause-given
returns-clause-given c = λ number. ap (λ (zones : List ZoneSet). over_at (overrides_in zones) number) c.in_ok-zones.ensures ∙ given_number c.args.origins.items number
