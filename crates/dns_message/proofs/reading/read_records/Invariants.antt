use Rattle.std.proofs.Common.{◌≡◌, ◌-◌}
use Rattle.dns_message.specs.Reading.{records_at}
use Rattle.dns_message.proofs.Loop.{with_front}
use Rattle.dns_message.proofs.reading.read_records.Given as goal

abbrev pub invariant-loop-i : goal.invariant-loop-i
invariant-loop-i l = (l.names ≡ l.initial.names) × (with_front l.records (records_at (l.count - l.i) l.initial.names l.place) ≡ records_at l.count l.initial.names l.at)
