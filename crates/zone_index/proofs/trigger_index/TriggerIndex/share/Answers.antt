use Rattle.std.proofs.Common.{◌∙◌}
use Rattle.zone_index.proofs.Versions.{same_well}
use Rattle.zone_index.specs.Groups.{places_in}
use Rattle.zone_index.proofs.trigger_index.TriggerIndex.share.Goals as goal

pub invariant_of-result : goal.invariant_of-result
invariant_of-result c = same_well c.self.inside.groups c.in_ok-groups.groups c.self.inside.places c.in_ok-places.places c.in_ok-groups.ensures c.in_ok-places.ensures c.self.invariant

pub returns : goal.returns
returns c = (λ i. places_in (c.in_ok-groups.ensures i) (c.in_ok-places.ensures i)) ∙ c.self.view_is
