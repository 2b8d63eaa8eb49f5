use Rattle.std.proofs.Common.{◌∙◌, ap, sym, Some}
use Rattle.dns_message.specs.declared.question.Question.{Question}
use Rattle.upstream_link.specs.Fact.{same_question}
use Rattle.upstream_link.specs.Known.{PlainKnown}
use Rattle.upstream_link.specs.Question.{question_of}
use Rattle.upstream_link.proofs.Near.{at_place}
use Rattle.upstream_link.proofs.facts.found_at.Goals as goal

pub returns-then-is_about : goal.returns-then-is_about
returns-then-is_about c =
    let question = question_of c.args.name.now c.args.qtype in
    ap Some c.index-all-place.is
    ∙ at_place c.args.all.now question c.index-all-place.result c.args.place c.requires.distinct c.if-place-all.false
    (ap (λ (known : PlainKnown). same_question known.question question) (sym c.index-all-place.is)
    ∙ ap (λ (asked : Question). same_question asked question) (sym c.question.ensures) ∙ sym c.is_about.ensures ∙ c.if-is_about.true)
