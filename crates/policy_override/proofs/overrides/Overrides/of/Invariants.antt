use Rattle.std.proofs.Common.{◌≡◌, take}
use Rattle.policy_override.specs.ZoneSet.{overrides_in}
use Rattle.policy_override.proofs.overrides.Overrides.of.Given as goal

abbrev pub invariant-loop-zone : goal.invariant-loop-zone
invariant-loop-zone l = l.all.items ≡ overrides_in (take l.zone-index l.zones)
