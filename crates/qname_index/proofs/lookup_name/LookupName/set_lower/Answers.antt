use Rattle.dns_name.specs.Labels.{lowered}
use Rattle.qname_index.proofs.Lowering.{is_lookup, lowered_twice, name_of_key}
use Rattle.qname_index.proofs.lookup_name.LookupName.set_lower.Goals as goal

pub invariant_of-self : goal.invariant_of-self
invariant_of-self c = is_lookup (lowered c.args.name.now) c.put_lower.new.self (lowered_twice c.args.name.now) c.put_lower.ensures.key

pub returns : goal.returns
returns c = name_of_key (lowered c.args.name.now) c.put_lower.new.self c.put_lower.ensures.key
