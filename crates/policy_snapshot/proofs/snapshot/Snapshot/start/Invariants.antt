use Rattle.std.proofs.Common.{◌≡◌, map, take}
use Rattle.std.specs.Arc.{arc_value}
use Rattle.policy_override.specs.declared.zone_set.ZoneSet.{ZoneSet}
use Rattle.zone_rows.specs.Content.{unloaded}
use Rattle.policy_snapshot.proofs.snapshot.Snapshot.start.Given as goal

abbrev pub invariant-loop-set : goal.invariant-loop-set
invariant-loop-set l = map arc_value l.zones.items ≡ map (λ (s : ZoneSet). unloaded s.origin) (take l.set-index l.settings)
