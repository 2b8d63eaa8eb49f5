use Rattle.std.proofs.Common.{ap, ◌∙◌}
use Rattle.zone_index.proofs.Found.{has_found}
use Rattle.zone_index.specs.Places.{PlainPlaces, has_rule}
use Rattle.zone_index.proofs.trigger_index.TriggerIndex.has.Goals as goal

pub returns : goal.returns
returns c =
    c.has.ensures
    ∙ has_found c.self.inside.groups c.self.inside.places c.args.kind c.self.invariant
    ∙ ap (λ (p : PlainPlaces). has_rule p.rules c.args.kind) c.self.view_is
