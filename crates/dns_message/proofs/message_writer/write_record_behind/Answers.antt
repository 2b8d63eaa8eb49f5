use Rattle.dns_message.proofs.Drafts.{record_done}
use Rattle.dns_message.proofs.message_writer.write_record_behind.Goals as goal

pub returns : goal.returns
returns c = record_done c.write_record.result c.args.out.now c.write_record.new.out c.args.places.now c.write_record.new.places c.args.rr.now c.write_record.ensures.octets c.write_record.ensures.places
