use Rattle.std.proofs.Common.{◌≡◌, length}
use Rattle.rpz_words.specs.Lists.{has_twice, is_same_endpoint}
use Rattle.rpz_words.proofs.endpoints.has_repeated.Given as goal

abbrev pub invariant-loop-left : goal.invariant-loop-left
invariant-loop-left l = has_twice is_same_endpoint l.left ≡ has_twice is_same_endpoint l.endpoints

abbrev pub decreases-loop-left : goal.decreases-loop-left
decreases-loop-left l = length l.left
