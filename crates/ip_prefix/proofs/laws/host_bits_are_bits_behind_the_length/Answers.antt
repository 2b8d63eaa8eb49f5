use Rattle.ip_prefix.proofs.BitLaws.{host_bits}
use Rattle.ip_prefix.proofs.laws.host_bits_are_bits_behind_the_length.Goals as goal

pub returns : goal.returns
returns c = host_bits
