use Rattle.std.proofs.Common.{◌+◌, drop}
use Rattle.dns_record.specs.declared.part.Part.TheVariants.{Name}
use Rattle.dns_message.proofs.DataLoop.{next_has, one_more, all_done}
use Rattle.dns_message.proofs.compressed_data.write_data_parts.Goals as goal

pub write_part-requires : goal.write_part-requires
write_part-requires c =
    (drop (c.loop-part.part-index + 1) c.args.parts.now, next_has c.args.places.now c.args.out.now c.args.parts.now c.args.rdata.now c.loop-part.part-index c.loop-part.places c.loop-part.out c.loop-part.rest.now Name c.loop-part-test.true c.loop-part.invariant)

pub loop-part-preserved : goal.loop-part-preserved
loop-part-preserved c =
    one_more c.args.places.now c.args.out.now c.args.parts.now c.args.rdata.now c.loop-part.part-index c.loop-part.places c.write_part.new.places c.loop-part.out c.write_part.new.out c.loop-part.rest.now c.in_ok-rest.rest.now Name c.loop-part-test.true c.loop-part.invariant
    c.in_ok-rest.ensures.octets c.in_ok-rest.ensures.places c.in_ok-rest.ensures.rest

pub returns-clause-octets : goal.returns-clause-octets
returns-clause-octets c =
    (all_done c.args.places.now c.args.out.now c.args.parts.now c.args.rdata.now c.loop-part.part-index c.loop-part.places c.loop-part.out c.loop-part.rest.now c.loop-part-test.false c.loop-part.invariant).octets

pub returns-clause-places : goal.returns-clause-places
returns-clause-places c =
    (all_done c.args.places.now c.args.out.now c.args.parts.now c.args.rdata.now c.loop-part.part-index c.loop-part.places c.loop-part.out c.loop-part.rest.now c.loop-part-test.false c.loop-part.invariant).behind
