use Rattle.std.proofs.Common.{map, option_map}
use Rattle.std.specs.Arc.{arc_value}
use Rattle.rpz_precedence.specs.Seen.{hit_seen}
use Rattle.policy_snapshot.proofs.NeedLoops.{SameNeed}
use Rattle.policy_snapshot.proofs.snapshot.Snapshot.needs.Given as goal

abbrev pub invariant-loop-zone : goal.invariant-loop-zone
invariant-loop-zone l = SameNeed l.self.overrides l.kind l.number l._zone-index (option_map hit_seen l.hit) (map arc_value l.all)
