use Rattle.std.proofs.Common.{take}
use Rattle.std.specs.List.{AllByRecursion}
use Rattle.dns_message.specs.Alike.{IsAlike}
use Rattle.dns_message.proofs.alike_records.are_alike.Given as goal

abbrev pub invariant-loop-rr : goal.invariant-loop-rr
invariant-loop-rr l = AllByRecursion (IsAlike l.first.owner) (take l.rr-index l.records)
