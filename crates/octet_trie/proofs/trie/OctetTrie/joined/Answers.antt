use Rattle.octet_trie.proofs.Joining.{any_in}
use Rattle.octet_trie.proofs.trie.OctetTrie.joined.Goals as goal

pub returns-clause-found : goal.returns-clause-found
returns-clause-found g c = λ n.
    any_in (λ v. g.N.NumberSet.has v.value n) c.args.octets.now _ _ _ (c.joined.ensures.found n) c.self.view_is
