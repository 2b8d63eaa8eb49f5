use Rattle.prefix_index.proofs.Plain.{taken_trie}
use Rattle.prefix_index.proofs.bit_trie.BitTrie.removed.Goals as goal

pub invariant_of-tidied : goal.invariant_of-tidied
invariant_of-tidied g c = taken_trie g.K.Key.keys g.met.K.Key.laws _ _ _ _ _ c.self.invariant c.in_ok-root.ensures
