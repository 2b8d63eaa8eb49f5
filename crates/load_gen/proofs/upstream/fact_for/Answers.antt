use Rattle.std.proofs.Common.{◌≡◌, ◌∙◌, ap, sym, lit<}
use Rattle.upstream_link.specs.Fact.{fact_from}
use Rattle.load_gen.specs.Upstream as form
use Rattle.load_gen.specs.Upstream.{response_to}
use Rattle.load_gen.proofs.Responses.{response_is_message, says}
use Rattle.load_gen.proofs.upstream.fact_for.Goals as goal

pub returns : goal.returns
returns c =
    let question = c.args.question.now in
    let reads = c.a_message_is_read_as_it_is_spelled.ensures.written (response_to question) 0 (response_is_message question c.note_question.ensures) (lit< tt) in
    let bytes = c.as_slice.ensures ∙ c.in_ok-octets.ensures in
    let same : form.fact_for question ≡ fact_from c.as_slice.result.now 0 question =
    sym (ap (λ octets. fact_from octets 0 question) bytes ∙ says question reads) in
    rw same c.fact_of.ensures
