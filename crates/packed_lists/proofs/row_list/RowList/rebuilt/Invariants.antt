use Rattle.std.proofs.Common.{◌≡◌, take, drop}
use Rattle.packed_lists.specs.Stored.{NumbersRise}
use Rattle.packed_lists.proofs.row_list.RowList.rebuilt.Given as goal

abbrev pub invariant-loop-at : goal.invariant-loop-at
invariant-loop-at l = record {
  rows : l.list.rows ≡ take l.at l.self.rows;
  rest : NumbersRise l.list.next (drop l.at l.self.rows) l.self.next;
}
