use Rattle.std.proofs.Common.{sym, subst}
use Rattle.octet_trie.specs.Written.{AreStored}
use Rattle.octet_trie.proofs.Storing.{written_well, written_is}
use Rattle.octet_trie.proofs.store.Store.write.Goals as goal

pub invariant_of-self : goal.invariant_of-self
invariant_of-self g c = subst (λ octets. AreStored g.M.Mark.present octets c.self.inside.nodes) (sym c.in_err-place.ensures.err) c.self.invariant

pub invariant_of-self-2 : goal.invariant_of-self-2
invariant_of-self-2 g c = written_well g.M.Mark.present _ _ _ _ _ c.self.invariant c.in_ok-place.ensures.ok

pub returns : goal.returns
returns g c = written_is g.M.Mark.present _ _ _ _ _ _ c.self.invariant c.self.view_is c.in_ok-place.ensures.ok
