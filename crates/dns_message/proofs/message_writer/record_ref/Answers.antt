use Rattle.dns_name.proofs.WireLemmas.{IsWire-octets}
use Rattle.dns_message.proofs.Drafts.{ref_is}
use Rattle.dns_message.proofs.message_writer.record_ref.Goals as goal

pub new-requires-clause-owner : goal.new-requires-clause-owner
new-requires-clause-owner c = IsWire-octets c.octets.result.now c.owner.result.now c.octets.ensures.octets c.octets.ensures.name

pub returns : goal.returns
returns c =
    ref_is c.args.rr.now c.new.result c.octets.result.now c.owner.result.now c.rtype.result c.class.result c.ttl.result c.rdata.result.now c.new.ensures c.octets.ensures.octets c.octets.ensures.name c.owner.ensures c.rtype.ensures c.class.ensures c.ttl.ensures
    c.rdata.ensures.rdata
