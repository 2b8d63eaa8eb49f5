use Rattle.std.proofs.Common.{subst}
use Rattle.upstream_link.specs.Known.{HaveSameMembers, PlainKnown, named_servers}
use Rattle.upstream_link.proofs.known.Known.servers.Goals as goal

pub returns-clause-same : goal.returns-clause-same
returns-clause-same c = subst (λ (known : PlainKnown). HaveSameMembers c.self.inside.servers (named_servers known.question known.fact)) c.self.view_is c.self.invariant.same
