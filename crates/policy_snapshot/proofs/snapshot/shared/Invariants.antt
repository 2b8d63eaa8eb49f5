use Rattle.std.proofs.Common.{◌≡◌, map, take}
use Rattle.std.specs.Arc.{arc_value}
use Rattle.policy_snapshot.proofs.snapshot.shared.Given as goal

abbrev pub invariant-loop-zone : goal.invariant-loop-zone
invariant-loop-zone l = map arc_value l.all.items ≡ map arc_value (take l.zone-index l.zones)
