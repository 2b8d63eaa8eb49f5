use Rattle.std.proofs.Common.{◌≡◌, take}
use Rattle.packed_lists.proofs.table.share_items.Given as goal

abbrev pub invariant-loop-item : goal.invariant-loop-item
invariant-loop-item g l = l.tail.items ≡ take l.item-index l.items.items
