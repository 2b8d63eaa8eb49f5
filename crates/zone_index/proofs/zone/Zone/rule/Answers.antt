use Rattle.std.proofs.Common.{◌∙◌}
use Rattle.zone_index.proofs.Zones.{zone_rule}
use Rattle.zone_index.proofs.zone.Zone.rule.Goals as goal

pub returns-in-Some : goal.returns-in-Some
returns-in-Some c = c.rule.ensures ∙ zone_rule c.self.inside.origin c.self.inside.loaded c.in-Some.loaded c.args.self.now c.args.trigger.now c.self.invariant c.in-Some.is c.self.view_is
