use Rattle.octet_trie.proofs.Tries.{taken_trie}
use Rattle.octet_trie.proofs.trie.OctetTrie.taken.Goals as goal

pub invariant_of-tidied : goal.invariant_of-tidied
invariant_of-tidied g c = taken_trie _ _ _ _ c.args.octets.now c.args.wild c.self.invariant c.in_ok-root.ensures
