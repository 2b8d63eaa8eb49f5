use Rattle.std.proofs.Common.{◌≡◌, ℕ, take}
use Rattle.std.specs.List.{list_any}
use Rattle.summary_index.specs.Zones.{has_zone}
use Rattle.policy_snapshot.specs.Summed.{may_match}
use Rattle.policy_snapshot.proofs.candidates.for_servers.Given as goal

abbrev pub invariant-loop-server : goal.invariant-loop-server
invariant-loop-server l =
    (n : ℕ) → has_zone l.zones n ≡ list_any (may_match l.summary n) (take l.server-index l.servers)
