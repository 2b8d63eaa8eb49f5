use Rattle.std.proofs.Common.{◌∙◌, ap, sym, List}
use Rattle.std.specs.List.{list_any}
use Rattle.upstream_link.specs.Fact.{same_question}
use Rattle.upstream_link.specs.Facts.{PlainFacts, is_known}
use Rattle.upstream_link.specs.Known.{PlainKnown}
use Rattle.upstream_link.specs.Question.{question_of}
use Rattle.upstream_link.proofs.Near.{known_if_any}
use Rattle.upstream_link.proofs.facts.Facts.knows.Goals as goal

pub returns : goal.returns
returns c =
    let question = question_of c.args.name.now c.args.qtype in
    c.is_among.ensures
    ∙ ap (λ (all : List PlainKnown). list_any (λ k. same_question k.question question) all) c.deref.ensures.value
    ∙ sym (known_if_any c.self.inside.facts.items question)
    ∙ ap (λ (facts : PlainFacts). is_known facts question) c.self.view_is
