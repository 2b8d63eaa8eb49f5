use Rattle.dns_message.proofs.MessageIs.{message_is}
use Rattle.dns_message.proofs.Standing.{message_written}
use Rattle.dns_message.proofs.laws.a_message_is_read_as_it_is_spelled.Goals as goal

pub returns-clause-written : goal.returns-clause-written
returns-clause-written c = message_written

pub returns-clause-is_message : goal.returns-clause-is_message
returns-clause-is_message c = message_is
