use Rattle.std.proofs.Common.{◌≡◌, map, take}
use Rattle.std.specs.List.{AllByRecursion, flat_map}
use Rattle.dns_record.specs.Record.{IsRecord}
use Rattle.dns_message.specs.Written.{lasting_octets, span_of}
use Rattle.dns_message.proofs.written.WrittenRecords.of.Given as goal

abbrev pub invariant-loop-rr : goal.invariant-loop-rr
invariant-loop-rr l =
    (l.octets ≡ flat_map lasting_octets (take l.rr-index l.records))
    × (l.spans.items ≡ map span_of (take l.rr-index l.records))
    × AllByRecursion IsRecord (take l.rr-index l.records)
