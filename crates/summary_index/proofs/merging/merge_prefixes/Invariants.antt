use Rattle.std.proofs.Common.{◌+◌, ◌-◌, length}
use Rattle.ip_prefix.specs.Prefix.{prefix_order}
use Rattle.summary_index.specs.Merged.{united}
use Rattle.summary_index.proofs.MergeLoop.{IsMerging, itself}
use Rattle.summary_index.proofs.merging.merge_prefixes.Given as goal

abbrev pub invariant-loop-i : goal.invariant-loop-i
invariant-loop-i l = IsMerging prefix_order united itself l.first l.second l.entries.items l.i l.j

abbrev pub decreases-loop-i : goal.decreases-loop-i
decreases-loop-i l = (length l.first - l.i) + (length l.second - l.j)
