use Rattle.std.proofs.Common.{◌+◌, ◌-◌, length, map}
use Rattle.std.specs.Cmp.Lexicographic.{slice_cmp}
use Rattle.std.specs.Ordering.{nat_cmp}
use Rattle.octet_trie.specs.Trie.{found_entry}
use Rattle.summary_index.specs.Merged.{united}
use Rattle.summary_index.proofs.MergeLoop.{IsMerging}
use Rattle.summary_index.proofs.merging.merge.Given as goal

abbrev pub invariant-loop-i : goal.invariant-loop-i
invariant-loop-i l = IsMerging (slice_cmp nat_cmp) united found_entry l.first l.second (map found_entry l.entries.items) l.i l.j

abbrev pub decreases-loop-i : goal.decreases-loop-i
decreases-loop-i l = (length l.first - l.i) + (length l.second - l.j)
