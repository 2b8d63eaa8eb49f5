use Rattle.octet_trie.proofs.Putting.{leaf_is}
use Rattle.octet_trie.proofs.put.leaf.Goals as goal

pub returns : goal.returns
returns g c = leaf_is _ _ _ _ _ _ _ _ c.in_ok-key.ensures c.requires.short c.leaf.ensures
