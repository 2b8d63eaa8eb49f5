-- What is read as a message, part by part.
use Rattle.std.proofs.Common.{◌≡◌, ℕ, ◌≤◌, ltb, false, not, List, Option, length, Result, Ok, Err, refl, subst}
use Rattle.std.specs.List.{filter}
use Rattle.std.proofs.lemmas.Bool.{cond_both, ltb-false, le-ltb}
use Rattle.dns_name.specs.Reading.{◌>>=◌}
use Rattle.dns_record.specs.Number.{number_at}
use Rattle.dns_record.specs.Record.{PlainRecord}
use Rattle.dns_name.proofs.Binding.{bind_ok, ok_is}
use Rattle.dns_message.specs.declared.edns.Edns.{Edns}
use Rattle.dns_message.specs.declared.fault.MessageFault.{MessageFault}
use Rattle.dns_message.specs.declared.fault.MessageFault.TheVariants.{Short, Trailing}
use Rattle.dns_message.specs.declared.message.Message.{Message}
use Rattle.dns_message.specs.declared.question.Question.{Question}
use Rattle.dns_message.specs.Reading.{header_in, is_opt, edns_in, questions_at, records_at, unless_trailing, sections_of, message_of}

pub record ReadsMessage (bytes : List ℕ) (m : Message) : Type 0 where
  pub long : 12 ≤ length bytes
  pub header : header_in bytes ≡ m.header
  pub question_end : ℕ
  pub question : questions_at (number_at 2 bytes 4) bytes ≡ Ok (m.question, question_end)
  pub answer_end : ℕ
  pub answer : records_at (number_at 2 bytes 6) bytes question_end ≡ Ok (m.answer, answer_end)
  pub authority_end : ℕ
  pub authority : records_at (number_at 2 bytes 8) bytes answer_end ≡ Ok (m.authority, authority_end)
  pub all : List PlainRecord
  pub after : ℕ
  pub additional : records_at (number_at 2 bytes 10) bytes authority_end ≡ Ok (all, after)
  pub whole : length bytes ≤ after
  pub edns : edns_in (filter is_opt all) ≡ Ok m.edns
  pub others : filter (λ r. not (is_opt r)) all ≡ m.additional

-- from the parts to the message
pub message_from : (bytes : List ℕ) (m : Message) → ReadsMessage bytes m → message_of bytes ≡ Ok m
unfolding message_of sections_of
message_from bytes m h =
    let e1 : ltb (length bytes) 12 ≡ false = le-ltb (length bytes) 12 h.long in
    let e2 : questions_at (number_at 2 bytes 4) bytes ≡ Ok (m.question, h.question_end) = h.question in
    let e3 : records_at (number_at 2 bytes 6) bytes h.question_end ≡ Ok (m.answer, h.answer_end) = h.answer in
    let e4 : records_at (number_at 2 bytes 8) bytes h.answer_end ≡ Ok (m.authority, h.authority_end) = h.authority in
    let e5 : records_at (number_at 2 bytes 10) bytes h.authority_end ≡ Ok (h.all, h.after) = h.additional in
    let e6 : ltb h.after (length bytes) ≡ false = le-ltb h.after (length bytes) h.whole in
    let e7 : edns_in (filter is_opt h.all) ≡ Ok m.edns = h.edns in
    let e8 : filter (λ r. not (is_opt r)) h.all ≡ m.additional = h.others in
    let e9 : header_in bytes ≡ m.header = h.header in
    rw (e1, e2, e3, e4, e5, e6, e7, e8, e9) refl

-- from the message to the parts

abbrev pub Records : Type 0
Records = List PlainRecord × ℕ

abbrev pub read_message : List ℕ → Option Question × ℕ → Records → Records → Records → Option Edns → Message
read_message bytes question answer authority additional edns =
    record { header = header_in bytes; question = question.0; answer = answer.0; authority = authority.0; additional = filter (λ r. not (is_opt r)) additional.0; edns = edns }

abbrev pub at_edns : List ℕ → Option Question × ℕ → Records → Records → Records → Option Edns → Result Message MessageFault
at_edns bytes question answer authority additional edns = Ok (read_message bytes question answer authority additional edns)

abbrev pub at_additional : List ℕ → Option Question × ℕ → Records → Records → Records → Result Message MessageFault
at_additional bytes question answer authority additional = unless_trailing bytes additional.1 (edns_in (filter is_opt additional.0)) >>= at_edns bytes question answer authority additional

abbrev pub at_authority : List ℕ → Option Question × ℕ → Records → Records → Result Message MessageFault
at_authority bytes question answer authority = records_at (number_at 2 bytes 10) bytes authority.1 >>= at_additional bytes question answer authority

abbrev pub at_answer : List ℕ → Option Question × ℕ → Records → Result Message MessageFault
at_answer bytes question answer = records_at (number_at 2 bytes 8) bytes answer.1 >>= at_authority bytes question answer

abbrev pub at_question : List ℕ → Option Question × ℕ → Result Message MessageFault
at_question bytes question = records_at (number_at 2 bytes 6) bytes question.1 >>= at_answer bytes question

pub ended_is : (bytes : List ℕ) (place : ℕ) (rest : Result (Option Edns) MessageFault) (edns : Option Edns) → unless_trailing bytes place rest ≡ Ok edns → (length bytes ≤ place) × (rest ≡ Ok edns)
ended_is bytes place rest edns =
    cond_both (ltb place (length bytes)) (Err Trailing) rest (λ (r : Result (Option Edns) MessageFault). r ≡ Ok edns → (length bytes ≤ place) × (rest ≡ Ok edns))
    (λ t e. absurd cc)
    (λ t e. (ltb-false place (length bytes) t, e))

read_same : (bytes : List ℕ) (m m' : Message) → m ≡ m' → ReadsMessage bytes m → ReadsMessage bytes m'
read_same bytes m m' e h = subst (ReadsMessage bytes) e h

sections_read : (bytes : List ℕ) (m : Message) → 12 ≤ length bytes → sections_of bytes ≡ Ok m → ReadsMessage bytes m
unfolding sections_of
sections_read bytes m long e =
    let a = bind_ok (questions_at (number_at 2 bytes 4) bytes) (at_question bytes) m e in
    let b = bind_ok (records_at (number_at 2 bytes 6) bytes a.0.1) (at_answer bytes a.0) m a.2 in
    let c = bind_ok (records_at (number_at 2 bytes 8) bytes b.0.1) (at_authority bytes a.0 b.0) m b.2 in
    let d = bind_ok (records_at (number_at 2 bytes 10) bytes c.0.1) (at_additional bytes a.0 b.0 c.0) m c.2 in
    let f = bind_ok (unless_trailing bytes d.0.1 (edns_in (filter is_opt d.0.0))) (at_edns bytes a.0 b.0 c.0 d.0) m d.2 in
    let end = ended_is bytes d.0.1 (edns_in (filter is_opt d.0.0)) f.0 f.1 in
    read_same bytes (read_message bytes a.0 b.0 c.0 d.0 f.0) m (ok_is {E = MessageFault} (read_message bytes a.0 b.0 c.0 d.0 f.0) m f.2) (record {
      long = long;
      header = refl;
      question_end = a.0.1;
      question = a.1;
      answer_end = b.0.1;
      answer = b.1;
      authority_end = c.0.1;
      authority = c.1;
      all = d.0.0;
      after = d.0.1;
      additional = d.1;
      whole = end.0;
      edns = end.1;
      others = refl;
    })

pub message_reads : (bytes : List ℕ) (m : Message) → message_of bytes ≡ Ok m → ReadsMessage bytes m
unfolding message_of
message_reads bytes m =
    cond_both (ltb (length bytes) 12) (Err Short) (sections_of bytes) (λ (r : Result Message MessageFault). r ≡ Ok m → ReadsMessage bytes m)
    (λ t e. absurd cc)
    (λ t e. sections_read bytes m (ltb-false (length bytes) 12 t) e)
