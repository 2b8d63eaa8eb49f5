use Rattle.zone_index.proofs.Acted.{no_trie, none_stand}
use Rattle.zone_index.proofs.tries.acting_keys.Goals as goal

pub returns-in-ClientIp : goal.returns-in-ClientIp
returns-in-ClientIp g c = record {
  keys = no_trie c.new.result.items c.new.ensures.items;
  found = none_stand c.args.value c.args.rules.now c.args.kind c.new.result.items c.in-ClientIp.is c.new.ensures.items;
}
