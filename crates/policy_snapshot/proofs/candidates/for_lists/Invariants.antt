use Rattle.std.proofs.Common.{◌≡◌, ℕ, map, take}
use Rattle.std.specs.List.{list_any}
use Rattle.summary_index.specs.Zones.{has_zone}
use Rattle.policy_snapshot.specs.Summed.{may_match}
use Rattle.policy_snapshot.proofs.candidates.for_lists.Given as goal

abbrev pub invariant-loop-list : goal.invariant-loop-list
invariant-loop-list l =
    (n : ℕ) → has_zone l.zones n ≡ list_any (list_any (may_match l.summary n)) (map (λ list. list.now) (take l.list-index l.lists))
