use Rattle.std.proofs.Common.{◌≤◌, ◌-◌, length, map, drop}
use Rattle.packed_lists.specs.KeysSeen.{keyed_seen}
use Rattle.zone_index.specs.Gathering.{AreGathered}
use Rattle.zone_index.proofs.gathering.gather.Given as goal

abbrev pub invariant-loop-done : goal.invariant-loop-done
invariant-loop-done l = AreGathered l.origin l.rows.rows l.entries (map keyed_seen (drop l.done l.keys)) × (l.done ≤ length l.keys)

abbrev pub decreases-loop-done : goal.decreases-loop-done
decreases-loop-done l = length l.keys - l.done
