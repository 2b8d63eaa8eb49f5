use Rattle.ip_prefix.specs.Prefix.{contains}
use Rattle.zone_index.proofs.Found.{got, got_none, there}
use Rattle.zone_index.specs.Entry.{entry_seen}
use Rattle.zone_index.proofs.look_up.longest.Goals as goal

pub lend-requires : goal.lend-requires
lend-requires c = there c.args.groups.now (λ p. contains p c.args.addr) c.args.prefixes.now c.requires c.in-Some.found c.in-Some.ensures

pub returns-in-Some : goal.returns-in-Some
returns-in-Some c = got c.args.groups.now (λ p. contains p c.args.addr) c.args.prefixes.now c.requires c.in-Some.found (entry_seen c.lend.result) c.in-Some.ensures c.lend.ensures

pub returns-in-None : goal.returns-in-None
returns-in-None c = got_none c.args.groups.now (λ p. contains p c.args.addr) c.args.prefixes.now c.requires c.in-None.ensures
