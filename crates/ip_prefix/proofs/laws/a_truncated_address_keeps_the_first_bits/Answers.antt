use Rattle.ip_prefix.proofs.BitLaws.{begins_alike, zeros_behind}
use Rattle.ip_prefix.proofs.laws.a_truncated_address_keeps_the_first_bits.Goals as goal

pub returns-clause-begins : goal.returns-clause-begins
returns-clause-begins c = begins_alike

pub returns-clause-zeros : goal.returns-clause-zeros
returns-clause-zeros c = zeros_behind
