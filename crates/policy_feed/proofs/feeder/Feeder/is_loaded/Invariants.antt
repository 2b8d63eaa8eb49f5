use Rattle.std.proofs.Common.{◌≡◌, ◌≤◌, ℕ, Some}
use Rattle.std.specs.Prelude.{IsSome}
use Rattle.zone_rows.specs.declared.zone.PlainZone.{PlainZone}
use Rattle.policy_snapshot.specs.Policy.{zone_at}
use Rattle.policy_feed.proofs.feeder.Feeder.is_loaded.Given as goal

abbrev pub invariant-loop-place : goal.invariant-loop-place
invariant-loop-place g l =
    (number : ℕ) (zone : PlainZone) → number ≤ l.place → zone_at l.self.published.version.zones number ≡ Some zone → IsSome zone.content
