use Rattle.dns_message.proofs.Outside.{no_longer}
use Rattle.dns_message.proofs.laws.a_client_outside_gets_no_more_than_it_sent.Goals as goal

pub returns : goal.returns
returns c = no_longer
