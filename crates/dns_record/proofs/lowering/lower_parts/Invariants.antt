use Rattle.dns_record.proofs.LowerCase.{HasLowered}
use Rattle.dns_record.proofs.lowering.lower_parts.Given as goal

abbrev pub invariant-loop-part : goal.invariant-loop-part
invariant-loop-part l = HasLowered l.parts l.octets l.part-index l.place l.out
