use Rattle.std.proofs.Common.{◌-◌, length}
use Rattle.packed_names.proofs.SplitLemmas.{AllPassing}
use Rattle.packed_names.proofs.split.split_name.Given as goal

abbrev pub invariant-loop-at : goal.invariant-loop-at
invariant-loop-at l = AllPassing l.octets l.at

abbrev pub decreases-loop-at : goal.decreases-loop-at
decreases-loop-at l = length l.octets - l.at
