use Rattle.std.proofs.Common.{◌∙◌, ap, sym, List}
use Rattle.std.specs.List.{list_any}
use Rattle.upstream_link.specs.Entries.{has_some}
use Rattle.upstream_link.specs.Known.{PlainKnown, named_servers}
use Rattle.upstream_link.proofs.Near.{no_servers}
use Rattle.upstream_link.proofs.facts.Facts.has_servers.Goals as goal

pub returns : goal.returns
returns c none name =
    no_servers c.self.inside.facts.items c.args.self.now name c.self.view_is
    (ap (λ (all : List PlainKnown). list_any (λ k. has_some (named_servers k.question k.fact)) all) (sym c.deref.ensures.value) ∙ sym c.have_servers.ensures ∙ none)
