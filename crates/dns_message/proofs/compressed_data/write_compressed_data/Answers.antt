use Rattle.dns_message.specs.Compressed.{owner_written}
use Rattle.dns_message.proofs.Drafts.{data_places, data_put, data_room}
use Rattle.dns_message.proofs.compressed_data.write_compressed_data.Goals as goal

pub overflow_sub-start : goal.overflow_sub-start
overflow_sub-start c = (data_room (owner_written c.args.places.now c.args.out.now c.args.rr.now) c.write_lead.new.out c.write_data_parts.new.out _ c.args.rr.now c.len-start.result c.in_ok-write_lead.ensures.octets c.len-start.ensures c.in_ok-write_data_parts.ensures.octets).0

pub set_length-requires : goal.set_length-requires
set_length-requires c = (data_room (owner_written c.args.places.now c.args.out.now c.args.rr.now) c.write_lead.new.out c.write_data_parts.new.out _ c.args.rr.now c.len-start.result c.in_ok-write_lead.ensures.octets c.len-start.ensures c.in_ok-write_data_parts.ensures.octets).1

pub returns-clause-octets : goal.returns-clause-octets
returns-clause-octets c =
    rw (← c.in_ok-write_lead.ensures.places)
    (data_put (owner_written c.args.places.now c.args.out.now c.args.rr.now) c.write_lead.new.out c.write_data_parts.new.out c.set_length.new.out c.write_lead.new.places c.args.parts.now c.args.rdata.now c.args.rr.now c.len-start.result c.in_ok-write_lead.ensures.octets c.len-start.ensures c.in_ok-write_data_parts.ensures.octets
    c.set_length.ensures)

pub returns-clause-places : goal.returns-clause-places
returns-clause-places c =
    rw (← c.in_ok-write_lead.ensures.places)
    (data_places (owner_written c.args.places.now c.args.out.now c.args.rr.now) c.write_lead.new.out c.write_data_parts.new.places c.write_lead.new.places c.args.parts.now c.args.rdata.now c.args.rr.now c.in_ok-write_lead.ensures.octets c.in_ok-write_data_parts.ensures.places)
