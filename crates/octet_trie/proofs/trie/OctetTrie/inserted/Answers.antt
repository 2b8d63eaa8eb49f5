use Rattle.octet_trie.proofs.Tries.{put_trie}
use Rattle.octet_trie.proofs.trie.OctetTrie.inserted.Goals as goal

pub invariant_of-tidied : goal.invariant_of-tidied
invariant_of-tidied g c = put_trie _ _ _ _ c.args.octets.now c.args.wild c.args.value c.requires.short c.self.invariant c.in_ok-root.ensures
