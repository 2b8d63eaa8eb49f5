use Rattle.std.proofs.Common.{take}
use Rattle.octet_trie.specs.Listed.{AreInOrder}
use Rattle.octet_trie.proofs.order.are_in_order.Given as goal

abbrev pub invariant-loop-i : goal.invariant-loop-i
invariant-loop-i g l = AreInOrder (take l.i l.entries)
