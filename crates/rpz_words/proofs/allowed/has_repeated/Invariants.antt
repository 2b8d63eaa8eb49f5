use Rattle.std.proofs.Common.{◌≡◌, length}
use Rattle.rpz_words.specs.Lists.{has_twice}
use Rattle.networks.specs.Allowed.{is_same_network}
use Rattle.rpz_words.proofs.allowed.has_repeated.Given as goal

abbrev pub invariant-loop-left : goal.invariant-loop-left
invariant-loop-left l = has_twice is_same_network l.left ≡ has_twice is_same_network l.networks

abbrev pub decreases-loop-left : goal.decreases-loop-left
decreases-loop-left l = length l.left
