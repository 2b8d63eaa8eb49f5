use Rattle.std.proofs.Common.{◌∙◌, ap}
use Rattle.upstream_link.specs.Entries.{has_some}
use Rattle.upstream_link.specs.Known.{PlainKnown, named_servers}
use Rattle.upstream_link.proofs.Near.{kept_some}
use Rattle.upstream_link.proofs.known.Known.has_servers.Goals as goal

pub returns : goal.returns
returns c =
    kept_some c.self.inside.servers (named_servers c.self.inside.question c.self.inside.fact) c.len.result c.len.ensures c.self.invariant.same
    ∙ ap (λ (k : PlainKnown). has_some (named_servers k.question k.fact)) c.self.view_is
