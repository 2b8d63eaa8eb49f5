use Rattle.qname_index.proofs.Lowering.{is_lookup, name_of_key}
use Rattle.qname_index.proofs.lookup_name.LookupName.of.Goals as goal

pub invariant_of-result : goal.invariant_of-result
invariant_of-result c = is_lookup c.args.name.now c.of.result c.requires c.of.ensures.key

pub returns : goal.returns
returns c = name_of_key c.args.name.now c.of.result c.of.ensures.key
