use Rattle.std.proofs.Common.{length}
use Rattle.std.proofs.lemmas.Result.{on_ok_weaker}
use Rattle.packed_names.specs.Places.{pointer_octets}
use Rattle.dns_message.proofs.Drafts.{lead_places, pointed_written}
use Rattle.dns_message.proofs.compressed_data.write_plain.Goals as goal

pub returns-in-Some-clause-octets : goal.returns-in-Some-clause-octets
returns-in-Some-clause-octets c =
    on_ok_weaker c.write_pointed.result
    (λ e. pointed_written c.args.out.now c.write_pointed.new.out c.octets-octets.result.now (pointer_octets c.in-Some.offset) c.args.rdata.now c.args.places.now c.args.rr.now c.owner-owner.result c.rtype.result c.class.result c.ttl.result c.octets-octets.ensures.octets c.octets-octets.ensures.name c.owner-owner.ensures c.rtype.ensures
    c.class.ensures c.ttl.ensures c.in-Some.ensures.octets e)
    c.write_pointed.ensures

pub returns-in-Some-clause-places : goal.returns-in-Some-clause-places
returns-in-Some-clause-places c =
    on_ok_weaker c.write_pointed.result
    (λ e. lead_places c.args.out.now c.octets-octets.result.now c.args.places.now c.args.rr.now c.owner-owner.result c.octets-octets.ensures.octets c.octets-octets.ensures.name c.owner-owner.ensures (c.in-Some.ensures.places (length c.args.out.now)))
    c.write_pointed.ensures
