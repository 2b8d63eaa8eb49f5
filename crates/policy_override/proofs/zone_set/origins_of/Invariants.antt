use Rattle.std.proofs.Common.{◌≡◌, take}
use Rattle.policy_override.specs.ZoneSet.{origins_in}
use Rattle.policy_override.proofs.zone_set.origins_of.Given as goal

abbrev pub invariant-loop-zone : goal.invariant-loop-zone
invariant-loop-zone l = l.origins.items ≡ origins_in (take l.zone-index l.zones)
