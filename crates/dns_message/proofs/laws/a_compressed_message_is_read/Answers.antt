use Rattle.dns_message.proofs.CompressedMessages.{compressed_message_read}
use Rattle.dns_message.proofs.laws.a_compressed_message_is_read.Goals as goal

pub returns : goal.returns
returns c = compressed_message_read
