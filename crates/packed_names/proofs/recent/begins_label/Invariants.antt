use Rattle.std.proofs.Common.{◌-◌}
use Rattle.packed_names.proofs.RecentLemmas.{Walking}
use Rattle.packed_names.proofs.recent.begins_label.Given as goal

abbrev pub invariant-loop-at : goal.invariant-loop-at
invariant-loop-at l = Walking l.octets l.index l.at

abbrev pub decreases-loop-at : goal.decreases-loop-at
decreases-loop-at l = l.index - l.at
