use Rattle.std.proofs.Common.{◌+◌}
use Rattle.octet_trie.proofs.put.+put.Given as goal

abbrev pub decreases-put : goal.decreases-put
decreases-put g l = l.node.now.kids + l.node.now.count
