use Rattle.std.proofs.Common.{◌+◌}
use Rattle.octet_trie.proofs.take.+take.Given as goal

abbrev pub decreases-take : goal.decreases-take
decreases-take g l = l.node.now.kids + l.node.now.count
