use Rattle.std.proofs.Common.{sym, subst}
use Rattle.octet_trie.specs.Written.{AreStored}
use Rattle.octet_trie.proofs.Storing.{pushed_well, pushed_is}
use Rattle.octet_trie.proofs.store.Store.push.Goals as goal

pub invariant_of-self : goal.invariant_of-self
invariant_of-self g c = subst (λ nodes. AreStored g.M.Mark.present c.self.inside.octets nodes) (sym c.in_err-push.ensures.err) c.self.invariant

pub invariant_of-self-2 : goal.invariant_of-self-2
invariant_of-self-2 g c = pushed_well g.M.Mark.present _ _ _ _ _ c.self.invariant c.self.view_is c.requires c.in_ok-push.ensures.ok

pub returns : goal.returns
returns g c = pushed_is g.M.Mark.present _ _ _ _ _ c.self.view_is c.in_ok-push.ensures.ok
