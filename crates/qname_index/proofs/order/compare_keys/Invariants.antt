use Rattle.std.proofs.Common.{length}
use Rattle.qname_index.specs.Patterns.{name_in}
use Rattle.qname_index.proofs.Comparing.{AreLeft}
use Rattle.qname_index.proofs.order.compare_keys.Given as goal

abbrev pub invariant-loop-my_len : goal.invariant-loop-my_len
invariant-loop-my_len l = AreLeft l.mine l.theirs (name_in l.a) (name_in l.b)

abbrev pub decreases-loop-my_len : goal.decreases-loop-my_len
decreases-loop-my_len l = length l.mine
