use Rattle.std.proofs.Common.{◌≡◌, take}
use Rattle.rpz_words.proofs.allowed.list_of.Given as goal

abbrev pub invariant-loop-network : goal.invariant-loop-network
invariant-loop-network l = l.list ≡ take l.network-index l.networks
