use Rattle.octet_trie.specs.ListKeys.{entry_key}
use Rattle.qname_index.proofs.ByOctets.{found_key, none_found, some_found}
use Rattle.qname_index.proofs.map.NameTrie.best.Goals as goal

pub new-requires : goal.new-requires
new-requires g c =
    found_key (λ v. g.M.Mark.acts v.mark) c.args.name.now c.octets.result.now c.octets.ensures.key
    c.self.inside.trie (entry_key c.in-Some.found.key.now c.in-Some.found.wild, c.in-Some.found.value) c.self.invariant c.in-Some.ensures.found

pub returns-in-Some-clause-found : goal.returns-in-Some-clause-found
returns-in-Some-clause-found g c =
    some_found (λ v. g.M.Mark.acts v.mark) c.args.name.now c.octets.result.now c.octets.ensures.key
    c.self.inside.trie c.args.self.now (entry_key c.in-Some.found.key.now c.in-Some.found.wild, c.in-Some.found.value) c.new.result c.new.ensures
    c.octets.ensures.lower c.names_that_are_alike.ensures.same c.names_that_are_alike.ensures.within c.self.invariant c.self.view_is c.in-Some.ensures.found

pub returns-in-None-clause-found : goal.returns-in-None-clause-found
returns-in-None-clause-found g c =
    none_found (λ v. g.M.Mark.acts v.mark) c.args.name.now c.octets.result.now c.octets.ensures.key
    c.self.inside.trie c.args.self.now
    c.octets.ensures.lower c.names_that_are_alike.ensures.same c.names_that_are_alike.ensures.within c.self.invariant c.self.view_is c.in-None.ensures.found
