use Rattle.std.proofs.Common.{◌≡◌, take, IsTrue}
use Rattle.dns_name.proofs.alike.are_equal.Given as goal

abbrev pub invariant-loop-i : goal.invariant-loop-i
invariant-loop-i l = IsTrue l.same → take l.i l.a ≡ take l.i l.b
