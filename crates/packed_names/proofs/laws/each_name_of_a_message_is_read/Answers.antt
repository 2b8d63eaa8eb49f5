use Rattle.std.proofs.Common.{[]}
use Rattle.packed_names.proofs.MessageLemmas.{parts_read}
use Rattle.packed_names.proofs.laws.each_name_of_a_message_is_read.Goals as goal

pub returns : goal.returns
returns c = λ start parts is. parts_read [] start parts tt is
