use Rattle.dns_message.proofs.Fronts.{compressed_front}
use Rattle.dns_message.proofs.laws.a_compressed_message_begins_with_its_header.Goals as goal

pub returns : goal.returns
returns c = compressed_front
