use Rattle.std.proofs.Common.{◌≡◌, drop}
use Rattle.dns_record.specs.Reading.{with_octets, parts_at}
use Rattle.dns_record.proofs.reading.read_parts.Given as goal

abbrev pub invariant-loop-part : goal.invariant-loop-part
invariant-loop-part l = (l.names ≡ l.initial.names) × (with_octets l.rdata (parts_at (drop l.part-index l.parts) l.initial.names l.place) ≡ parts_at l.parts l.initial.names l.at)
