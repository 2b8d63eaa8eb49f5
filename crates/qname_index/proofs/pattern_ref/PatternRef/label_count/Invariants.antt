use Rattle.std.proofs.Common.{length}
use Rattle.qname_index.proofs.Written.{AreRead}
use Rattle.qname_index.proofs.pattern_ref.PatternRef.label_count.Given as goal

abbrev pub invariant-loop-len : goal.invariant-loop-len
invariant-loop-len l = AreRead l.rest l.count l.self.base

abbrev pub decreases-loop-len : goal.decreases-loop-len
decreases-loop-len l = length l.rest
