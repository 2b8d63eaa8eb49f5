use Rattle.std.proofs.Common.{◌≡◌, fold, take}
use Rattle.load_gen.specs.Upstream.{next_sum}
use Rattle.load_gen.proofs.upstream.sum_of.Given as goal

abbrev pub invariant-loop-byte : goal.invariant-loop-byte
invariant-loop-byte l = l.sum ≡ fold next_sum 0 (take l.byte-index l.octets)
