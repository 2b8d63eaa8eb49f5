use Rattle.qname_index.proofs.ByOctets.{any_found}
use Rattle.qname_index.proofs.map.NameTrie.joined.Goals as goal

pub returns-clause-found : goal.returns-clause-found
returns-clause-found g c = λ n.
    any_found (λ v. g.N.NumberSet.has v.value n) c.args.name.now c.octets.result.now c.octets.ensures.key
    c.self.inside.trie c.args.self.now _ c.octets.ensures.lower c.names_that_are_alike.ensures.same c.names_that_are_alike.ensures.within
    c.self.invariant c.self.view_is (c.joined.ensures.found n)
