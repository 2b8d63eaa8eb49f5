use Rattle.dns_name.specs.Alike.{matches}
use Rattle.qname_index.specs.Found.{found_pattern}
use Rattle.zone_index.proofs.Found.{got, got_none, there}
use Rattle.zone_index.specs.Entry.{entry_seen}
use Rattle.zone_index.proofs.look_up.best.Goals as goal

pub lend-requires : goal.lend-requires
lend-requires c = there c.args.groups.now (λ p. matches p c.args.name.now) c.args.patterns.now c.requires (found_pattern c.in-Some.field-0) c.in-Some.ensures

pub returns-in-Some : goal.returns-in-Some
returns-in-Some c = got c.args.groups.now (λ p. matches p c.args.name.now) c.args.patterns.now c.requires (found_pattern c.in-Some.field-0) (entry_seen c.lend.result) c.in-Some.ensures c.lend.ensures

pub returns-in-None : goal.returns-in-None
returns-in-None c = got_none c.args.groups.now (λ p. matches p c.args.name.now) c.args.patterns.now c.requires c.in-None.ensures
