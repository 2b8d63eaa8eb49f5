-- The response to a question is a message, and what it says is the upstream's answer.
use Rattle.std.proofs.Common.{◌≡◌, ℕ, Bool, true, false, List, [], ◌++◌, Some, Result, Ok, refl, sym, ap, ◌∙◌, lit<, eq-eqb}
use Rattle.std.specs.Prelude.{◌&&◌, ◌==◌}
use Rattle.std.proofs.lemmas.List.{append-nil}
use Rattle.dns_name.specs.Labels.{IsName}
use Rattle.dns_record.specs.Record.{IsRecord, record_octets}
use Rattle.dns_message.specs.declared.question.Question.{Question}
use Rattle.dns_message.specs.declared.message.Message.{Message}
use Rattle.dns_message.specs.declared.fault.MessageFault.{MessageFault}
use Rattle.dns_message.specs.Reading.{message_of}
use Rattle.dns_message.specs.Spelling.{IsMessage, IsQuestion, opt_octets, parts_octets, question_octets, records_octets, spelling, start_octets, header_octets}
use Rattle.upstream_link.proofs.Found.{alike_if}
use Rattle.upstream_link.specs.Fact.{fact_by, fact_from, same_question}
use Rattle.load_gen.specs.Upstream.{address_octets, address_record, fact_for, name_sum, response_header, response_to}

address_is_record : (name : List (List ℕ)) → IsName name → IsRecord (address_record name)
address_is_record name is = record {
  is_owner = is;
  type_fits = lit< tt;
  class_fits = lit< tt;
  ttl_fits = lit< tt;
  is_data = record { parts = (address_octets (name_sum name), [], refl, sym (append-nil (address_octets (name_sum name))), refl); short = lit< tt };
}

pub response_is_message : (question : Question) → IsQuestion question → IsMessage (response_to question)
response_is_message question is = record {
  id_fits = lit< tt;
  opcode_fits = lit< tt;
  rcode_fits = lit< tt;
  is_question = is;
  are_answers = (address_is_record question.name is.is_name, tt);
  are_authorities = tt;
  are_additionals = tt;
  answers_fit = lit< tt;
  authorities_fit = lit< tt;
  additionals_fit = lit< tt;
  plain_additionals = tt;
  are_edns = tt;
}

-- the pieces that are written are the message
pub pieces : (question : Question) → [] ++ start_octets response_header (Some question) 1 0 0 ++ record_octets (address_record question.name) ≡ spelling (response_to question)
unfolding start_octets parts_octets records_octets opt_octets
pieces question =
    let head = header_octets 0 response_header 1 1 0 0 ++ question_octets (Some question) in
    let row = record_octets (address_record question.name) in
    sym (append-nil _ ∙ (append-nil _ ∙ (append-nil _ ∙ ap (λ r. head ++ r) (append-nil row))))

-- the question is alike itself
same : (question : Question) → same_question question question ≡ true
same question =
    let name = alike_if question.name question.name refl in
    let qtype : (question.qtype == question.qtype) ≡ true = eq-eqb question.qtype question.qtype refl in
    let qclass : (question.qclass == question.qclass) ≡ true = eq-eqb question.qclass question.qclass refl in
    λ i. name i && (qtype i && qclass i)

answers_by : (question : Question) (alike : Bool) → same_question question question ≡ alike → alike ≡ true
    → fact_by (spelling (response_to question)) 0 question (Ok (response_to question)) ≡ fact_for question
answers_by question true e t = rw e refl
answers_by question false e t = absurd cc

-- what the response says
pub says : (question : Question) → message_of (spelling (response_to question)) ≡ Ok (response_to question)
    → fact_from (spelling (response_to question)) 0 question ≡ fact_for question
unfolding fact_from
says question reads =
    ap (λ (m : Result Message MessageFault). fact_by (spelling (response_to question)) 0 question m) reads
    ∙ answers_by question true (same question) refl
