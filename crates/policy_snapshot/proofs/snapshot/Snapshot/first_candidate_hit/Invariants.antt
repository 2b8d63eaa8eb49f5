use Rattle.std.proofs.Common.{map}
use Rattle.std.specs.Arc.{arc_value}
use Rattle.policy_snapshot.specs.Sight.{sight_seen}
use Rattle.policy_snapshot.proofs.HitLoops.{SameHit}
use Rattle.policy_snapshot.proofs.snapshot.Snapshot.first_candidate_hit.Given as goal

abbrev pub invariant-loop-zone : goal.invariant-loop-zone
invariant-loop-zone l = SameHit l.overrides l.number l.zone-index (sight_seen l.sight) (map arc_value l.all)
