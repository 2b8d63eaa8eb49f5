use Rattle.ip_prefix.proofs.BitLaws.{made_of}
use Rattle.ip_prefix.proofs.laws.a_prefix_has_no_bit_behind_its_length.Goals as goal

pub returns : goal.returns
returns c = made_of
