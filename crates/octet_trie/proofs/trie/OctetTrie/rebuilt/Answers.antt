use Rattle.octet_trie.proofs.Collecting.{copied_trie}
use Rattle.octet_trie.proofs.trie.OctetTrie.rebuilt.Goals as goal

pub invariant_of-result : goal.invariant_of-result
invariant_of-result g c = copied_trie _ _ _ _ _ c.self.invariant c.in_ok-root.ensures
