use Rattle.dns_message.proofs.DataLoop.{WritesParts}
use Rattle.dns_message.proofs.compressed_data.write_data_parts.Given as goal

abbrev pub invariant-loop-part : goal.invariant-loop-part
invariant-loop-part l = WritesParts l.initial.places l.initial.out l.parts l.rdata l.part-index l.places l.out l.rest
