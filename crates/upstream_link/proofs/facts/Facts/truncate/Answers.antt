use Rattle.std.proofs.Common.{◌≡◌, take, sym, ap, subst, ◌∙◌}
use Rattle.std.proofs.lemmas.List.{take-map}
use Rattle.upstream_link.specs.Entries.{entries_of, entry_of}
use Rattle.upstream_link.specs.Facts.{AreFacts}
use Rattle.upstream_link.proofs.FactLemmas.{facts_taken}
use Rattle.upstream_link.proofs.facts.Facts.truncate.Goals as goal

pub invariant_of-self : goal.invariant_of-self
invariant_of-self c =
    let items = c.self.inside.facts.items in
    let left : entries_of c.truncate.new.self.items ≡ take c.args.len (entries_of items) = ap entries_of c.truncate.ensures.items ∙ sym (take-map entry_of c.args.len items) in
    subst AreFacts (sym left) (facts_taken c.args.len (entries_of items) c.self.invariant)

pub returns : goal.returns
returns c =
    let items = c.self.inside.facts.items in
    ap entries_of c.truncate.ensures.items ∙ sym (take-map entry_of c.args.len items) ∙ ap (take c.args.len) c.self.view_is
