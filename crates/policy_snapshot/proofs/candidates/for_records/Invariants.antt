use Rattle.std.proofs.Common.{◌≡◌, ℕ, ◌||◌}
use Rattle.std.specs.List.{list_any}
use Rattle.summary_index.specs.Zones.{has_zone}
use Rattle.policy_snapshot.specs.Summed.{may_be_about}
use Rattle.policy_snapshot.proofs.candidates.for_records.Given as goal

abbrev pub invariant-loop-rr : goal.invariant-loop-rr
invariant-loop-rr l =
    (goal.iterator-loop-rr).can_next l.rr-iterator × (goal.iterator-loop-rr).is_finite l.rr-iterator
    × ((n : ℕ) → (has_zone l.zones n || list_any (may_be_about l.summary n l.name) l.rr-iterator) ≡ list_any (may_be_about l.summary n l.name) l.fn.records)
