use Rattle.zone_index.proofs.Versions.{none_inside, put_view, put_well}
use Rattle.zone_index.proofs.index_entries.IndexEntries.put.Goals as goal

pub invariant_of-result : goal.invariant_of-result
invariant_of-result c =
    put_well c.self.inside.groups c.self.inside.places c.args.self c.self.invariant c.self.view_is c.args.place.now
    c.keep.new.groups c.args.numbers.now c.args.does c.in_ok-value.value c.in_ok-value.ensures c.put.new.places c.in_ok-put.ensures

pub returns : goal.returns
returns c =
    put_view c.self.inside.groups c.self.inside.places c.args.self c.self.invariant c.self.view_is c.args.place.now
    c.keep.new.groups c.args.numbers.now c.args.does c.in_ok-value.value c.in_ok-value.ensures c.put.new.places c.in_ok-put.ensures

pub put-requires-clause-none : goal.put-requires-clause-none
put-requires-clause-none c = none_inside c.self.inside.groups c.self.inside.places c.args.self c.self.invariant c.self.view_is c.args.place.now c.requires.none
