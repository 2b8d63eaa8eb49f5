use Rattle.zone_index.proofs.Versions.{got_at, none_at, there_at}
use Rattle.zone_index.specs.Entry.{entry_seen}
use Rattle.zone_index.proofs.trigger_index.TriggerIndex.get.Goals as goal

pub lend-requires : goal.lend-requires
lend-requires c = there_at c.self.inside.groups c.self.inside.places c.args.self.now c.self.invariant c.self.view_is c.args.place.now c.in-Some.value c.in-Some.ensures

pub returns-in-Some : goal.returns-in-Some
returns-in-Some c = got_at c.self.inside.groups c.self.inside.places c.args.self.now c.self.invariant c.self.view_is c.args.place.now c.in-Some.value (entry_seen c.lend.result) c.in-Some.ensures c.lend.ensures

pub returns-in-None : goal.returns-in-None
returns-in-None c = none_at c.self.inside.groups c.self.inside.places c.args.self.now c.self.invariant c.self.view_is c.args.place.now c.in-None.ensures
