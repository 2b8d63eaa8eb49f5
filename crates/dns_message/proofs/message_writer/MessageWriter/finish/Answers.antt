use Rattle.dns_message.proofs.ProgressSteps.{message_finished}
use Rattle.dns_message.proofs.message_writer.MessageWriter.finish.Goals as goal

pub returns-clause-message : goal.returns-clause-message
returns-clause-message c most m ew eh eq ee = message_finished c.ended.result c.args.self most m c.args.header.now _ _ ew eh eq ee c.ended.ensures.octets
