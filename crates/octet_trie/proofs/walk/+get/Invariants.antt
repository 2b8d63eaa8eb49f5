use Rattle.std.proofs.Common.{◌+◌}
use Rattle.octet_trie.proofs.walk.+get.Given as goal

abbrev pub decreases-get : goal.decreases-get
decreases-get g l = l.node.now.kids + l.node.now.count
