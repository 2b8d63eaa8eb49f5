use Rattle.dns_record.proofs.LowerCase.{has_name}
use Rattle.dns_record.proofs.lowering.lower_part.Goals as goal

pub lower_name-requires : goal.lower_name-requires
lower_name-requires c = has_name c.args.part c.requires.0 c.args.octets.now c.in-Name.is c.requires.1
