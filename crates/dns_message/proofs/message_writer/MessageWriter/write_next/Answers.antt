use Rattle.dns_message.proofs.ProgressSteps.{beyond_more, record_written}
use Rattle.dns_message.proofs.message_writer.MessageWriter.write_next.Goals as goal

pub returns-then-self : goal.returns-then-self
returns-then-self c = beyond_more c.self.inside.limit c.self.inside.octets c.self.inside.places c.self.inside.is_beyond c.args.self.now c.args.rr c.self.view_is c.if-self.true

pub returns : goal.returns
returns c =
    record_written c.self.inside.limit c.len.result c.self.inside.octets c.write_record_behind.new.out c.self.inside.places c.write_record_behind.new.places c.self.inside.is_beyond c.args.self.now c.args.rr c.self.view_is c.if-self.false c.in_ok-write_record_behind.ensures c.len.ensures
