use Rattle.std.proofs.Common.{subst}
use Rattle.upstream_link.specs.Known.{HaveSameMembers}
use Rattle.upstream_link.proofs.Found.{kept_at, nothing_at}
use Rattle.upstream_link.proofs.facts.Facts.servers_at.Goals as goal

pub returns-in-Some : goal.returns-in-Some
returns-in-Some c = (c.servers.ensures.order, subst (λ names. HaveSameMembers c.servers.result.now names) (kept_at c.self.inside.facts.items c.deref.result.now c.args.self.now c.self.view_is c.deref.ensures.value c.args.owner.now c.in-Some.known.now c.in-Some.ensures) c.servers.ensures.same)

pub returns-in-None : goal.returns-in-None
returns-in-None c = nothing_at c.self.inside.facts.items c.deref.result.now c.args.self.now c.self.view_is c.deref.ensures.value c.args.owner.now c.in-None.ensures
