use Rattle.std.proofs.Common.{◌≡◌, ◌≤◌, ◌++◌, length, map, drop}
use Rattle.std.specs.List.{sum_by}
use Rattle.packed_lists.specs.Cut.{keys_cut}
use Rattle.packed_lists.specs.KeysSeen.{keyed_seen}
use Rattle.packed_lists.proofs.key_list.cut.Given as goal

abbrev pub invariant-loop-mark : goal.invariant-loop-mark
invariant-loop-mark l = record {
  list : map keyed_seen l.keys.items ++ keys_cut (drop l.mark-index l.marks) l.rest ≡ keys_cut l.marks l.octets;
  room : sum_by (λ m. m.len) (drop l.mark-index l.marks) ≤ length l.rest;
}
