use Rattle.std.proofs.Common.{◌≤◌, length}
use Rattle.packed_names.proofs.TableLemmas.{NoneFrom}
use Rattle.packed_names.proofs.table.find.Given as goal

abbrev pub invariant-loop-left : goal.invariant-loop-left
invariant-loop-left l = record { inside : l.left ≤ length l.suffixes; others : NoneFrom l.suffixes l.left l.octets }

abbrev pub decreases-loop-left : goal.decreases-loop-left
decreases-loop-left l = l.left
