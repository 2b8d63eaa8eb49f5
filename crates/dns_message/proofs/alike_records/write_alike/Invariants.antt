use Rattle.std.proofs.Common.{List, map}
use Rattle.std.specs.List.{AllByRecursion}
use Rattle.packed_names.specs.Places.{Place}
use Rattle.dns_message.specs.Aged.{aged}
use Rattle.dns_message.specs.Alike.{IsPointed}
use Rattle.dns_message.specs.Progress.{draft, progress_after, within}
use Rattle.dns_message.proofs.AlikeLemmas.{GoesOn}
use Rattle.dns_message.proofs.alike_records.write_alike.Given as goal

abbrev pub invariant-loop-rr : goal.invariant-loop-rr
invariant-loop-rr l =
    (goal.iterator-loop-rr).can_next l.rr-iterator × (goal.iterator-loop-rr).is_finite l.rr-iterator
    × ((places : List Place) → AllByRecursion (IsPointed places l.offset) l.fn.records
    → GoesOn places l.limit l.offset l.seconds l.out l.rr-iterator (progress_after l.limit (within (draft l.fn.out places)) (map (aged l.seconds) l.fn.records)))
