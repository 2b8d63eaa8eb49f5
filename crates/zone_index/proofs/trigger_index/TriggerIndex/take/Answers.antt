use Rattle.zone_index.proofs.Versions.{taken_view, taken_well}
use Rattle.zone_index.proofs.trigger_index.TriggerIndex.take.Goals as goal

pub invariant_of-result : goal.invariant_of-result
invariant_of-result c = taken_well c.self.inside.groups c.self.inside.places c.args.self c.self.invariant c.self.view_is c.args.place.now c.in_ok-places.places c.in_ok-places.ensures

pub returns : goal.returns
returns c = taken_view c.self.inside.groups c.self.inside.places c.args.self c.self.invariant c.self.view_is c.args.place.now c.in_ok-places.places c.in_ok-places.ensures
