use Rattle.prefix_index.proofs.Plain.{put_trie}
use Rattle.prefix_index.proofs.bit_trie.BitTrie.inserted.Goals as goal

pub invariant_of-tidied : goal.invariant_of-tidied
invariant_of-tidied g c = put_trie g.K.Key.keys g.met.K.Key.laws _ _ _ _ _ _ c.requires.valid c.self.invariant c.in_ok-root.ensures
