use Rattle.std.proofs.Common.{length}
use Rattle.qname_index.specs.Patterns.{name_in}
use Rattle.qname_index.proofs.Written.{AreTurned}
use Rattle.qname_index.proofs.key.Key.written.Given as goal

abbrev pub invariant-loop-len : goal.invariant-loop-len
invariant-loop-len l = AreTurned l.rest l.written (name_in l.octets)

abbrev pub decreases-loop-len : goal.decreases-loop-len
decreases-loop-len l = length l.rest
