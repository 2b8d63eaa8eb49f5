use Rattle.dns_message.proofs.MessageFaults.{message_shows, message_fails}
use Rattle.dns_message.proofs.MessageGrammar.{message_stands, message_only}
use Rattle.dns_message.proofs.laws.a_message_is_read_by_its_grammar.Goals as goal

pub returns-clause-stands : goal.returns-clause-stands
returns-clause-stands c = message_stands

pub returns-clause-only : goal.returns-clause-only
returns-clause-only c = message_only

pub returns-clause-shows : goal.returns-clause-shows
returns-clause-shows c = message_shows

pub returns-clause-only_fault : goal.returns-clause-only_fault
returns-clause-only_fault c = message_fails
