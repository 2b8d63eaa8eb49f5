use Rattle.std.proofs.Common.{◌≡◌, ℕ, take}
use Rattle.std.specs.List.{list_any}
use Rattle.summary_index.specs.Zones.{has_zone}
use Rattle.policy_snapshot.specs.Summed.{may_contain}
use Rattle.policy_snapshot.proofs.candidates.for_addresses.Given as goal

abbrev pub invariant-loop-addr : goal.invariant-loop-addr
invariant-loop-addr l =
    (n : ℕ) → has_zone l.zones n ≡ list_any (may_contain l.summary n) (take l.addr-index l.addresses)
