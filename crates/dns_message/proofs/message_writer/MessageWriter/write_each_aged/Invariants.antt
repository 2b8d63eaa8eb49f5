use Rattle.std.proofs.Common.{◌≡◌, map}
use Rattle.dns_message.specs.Aged.{aged}
use Rattle.dns_message.specs.Progress.{writing_after}
use Rattle.dns_message.proofs.message_writer.MessageWriter.write_each_aged.Given as goal

abbrev pub invariant-loop-rr : goal.invariant-loop-rr
invariant-loop-rr l =
    (goal.iterator-loop-rr).can_next l.rr-iterator × (goal.iterator-loop-rr).is_finite l.rr-iterator
    × (writing_after l.self (map (aged l.seconds) l.rr-iterator) ≡ writing_after l.fn.self (map (aged l.seconds) l.fn.records))
