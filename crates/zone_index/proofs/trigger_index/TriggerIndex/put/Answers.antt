use Rattle.zone_index.proofs.Versions.{put_view, put_well}
use Rattle.zone_index.proofs.trigger_index.TriggerIndex.put.Goals as goal

pub invariant_of-result : goal.invariant_of-result
invariant_of-result c =
    put_well c.self.inside.groups c.self.inside.places c.args.self c.self.invariant c.self.view_is c.args.place.now
    c.keep.new.groups c.args.numbers.now c.args.does c.in_ok-value.value c.in_ok-value.ensures c.in_ok-places.places c.in_ok-places.ensures

pub returns : goal.returns
returns c =
    put_view c.self.inside.groups c.self.inside.places c.args.self c.self.invariant c.self.view_is c.args.place.now
    c.keep.new.groups c.args.numbers.now c.args.does c.in_ok-value.value c.in_ok-value.ensures c.in_ok-places.places c.in_ok-places.ensures
