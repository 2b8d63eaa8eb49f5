use Rattle.std.proofs.Common.{arith}
use Rattle.octet_trie.proofs.Searching.{copied}
use Rattle.octet_trie.proofs.copy.copy.Goals as goal

pub loop-number-preserved : goal.loop-number-preserved
loop-number-preserved g c = copied _ _ _ c.args.first c.loop-number.number c.args.end _ (omega arith) (omega arith) c.requires.within c.loop-number.invariant c.get-node.ensures c.in_ok-push.ensures
