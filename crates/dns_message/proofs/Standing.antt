-- Messages as they are spelled.
use Rattle.std.proofs.Common.{◌≡◌, ℕ, ◌+◌, ◌<◌, ◌≤◌, ◌^◌, List, [], ◌∷◌, ◌++◌, length, Option, Some, None, Ok, refl, ap, subst, ◌∙◌, append_assoc, arith}
use Rattle.std.proofs.lemmas.List.{take_all}
use Rattle.dns_name.specs.Standing.{Stands}
use Rattle.dns_record.specs.Number.{number_at, number_octets}
use Rattle.dns_record.proofs.Numbers.{length-number_octets, number_read}
use Rattle.dns_record.proofs.PartStanding.{stands_parts}
use Rattle.dns_message.specs.declared.message.Message.{Message}
use Rattle.dns_message.specs.declared.question.Question.{Question}
use Rattle.dns_message.specs.Reading.{questions_at, records_at, message_of}
use Rattle.dns_message.specs.Spelling.{first_flags, second_flags, question_count, question_octets, count_octets, header_octets, records_octets, opt_count, opt_octets, parts_octets, message_octets, IsMessage}
use Rattle.dns_message.proofs.Flags.{header_read}
use Rattle.dns_message.proofs.MessageReads.{message_from}
use Rattle.dns_message.proofs.OptSpelling.{additional_written}
use Rattle.dns_message.proofs.QuestionGrammar.{questions_written}
use Rattle.dns_message.proofs.RecordsGrammar.{records_written}

abbrev additional_count : Message → ℕ
additional_count m = length m.additional + opt_count m.edns

abbrev additional_octets : Message → List ℕ
additional_octets m = records_octets m.additional ++ opt_octets m.edns

-- the parts of a message, each where it stands
record Laid (z : ℕ) (m : Message) (bytes : List ℕ) (after : ℕ) : Type 0 where
  pub id : Stands (number_octets 2 m.header.id) bytes 0 2
  pub flags : Stands (first_flags m.header ∷ second_flags z m.header ∷ []) bytes 2 4
  pub questions : Stands (number_octets 2 (question_count m.question)) bytes 4 6
  pub answers : Stands (number_octets 2 (length m.answer)) bytes 6 8
  pub authorities : Stands (number_octets 2 (length m.authority)) bytes 8 10
  pub additionals : Stands (number_octets 2 (additional_count m)) bytes 10 12
  pub end : ℕ
  pub question : Stands (question_octets m.question) bytes 12 end
  pub answer_end : ℕ
  pub answer : Stands (records_octets m.answer) bytes end answer_end
  pub authority_end : ℕ
  pub authority : Stands (records_octets m.authority) bytes answer_end authority_end
  pub additional : Stands (additional_octets m) bytes authority_end after

abbrev behind_header : Message → List ℕ
behind_header m = question_octets m.question ++ (records_octets m.answer ++ (records_octets m.authority ++ additional_octets m))

abbrev behind_flags : Message → List ℕ
behind_flags m = number_octets 2 (question_count m.question) ++ (number_octets 2 (length m.answer) ++ (number_octets 2 (length m.authority) ++ (number_octets 2 (additional_count m) ++ behind_header m)))

abbrev flag_octets : ℕ → Message → List ℕ
flag_octets z m = first_flags m.header ∷ second_flags z m.header ∷ []

regrouped : (i f q n u d question answer authority additional opt : List ℕ) → (i ++ f ++ (q ++ n ++ u ++ d)) ++ question ++ answer ++ authority ++ additional ++ opt ≡ i ++ (f ++ (q ++ (n ++ (u ++ (d ++ (question ++ (answer ++ (authority ++ (additional ++ opt)))))))))
regrouped i f q n u d question answer authority additional opt = simp append_assoc

message_parts : (z : ℕ) (m : Message) → message_octets z m ≡ number_octets 2 m.header.id ++ (flag_octets z m ++ behind_flags m)
unfolding parts_octets header_octets count_octets
message_parts z m =
    regrouped (number_octets 2 m.header.id) (flag_octets z m) (number_octets 2 (question_count m.question)) (number_octets 2 (length m.answer)) (number_octets 2 (length m.authority)) (number_octets 2 (additional_count m)) (question_octets m.question) (records_octets m.answer) (records_octets m.authority) (records_octets m.additional) (opt_octets m.edns)

laid : (z : ℕ) (m : Message) (bytes : List ℕ) (after : ℕ) → Stands (number_octets 2 m.header.id ++ (flag_octets z m ++ behind_flags m)) bytes 0 after → Laid z m bytes after
laid z m bytes after h =
    let question = question_octets m.question in
    let answer = records_octets m.answer in
    let authority = records_octets m.authority in
    let additional = additional_octets m in
    let questions = number_octets 2 (question_count m.question) in
    let answers = number_octets 2 (length m.answer) in
    let authorities = number_octets 2 (length m.authority) in
    let additionals = number_octets 2 (additional_count m) in
    let a = stands_parts (number_octets 2 m.header.id) (flag_octets z m ++ behind_flags m) bytes 0 2 after (omega (arith, length-number_octets 2 m.header.id)) h in
    let b = stands_parts (flag_octets z m) (behind_flags m) bytes 2 4 after refl a.1 in
    let c = stands_parts questions (answers ++ (authorities ++ (additionals ++ behind_header m))) bytes 4 6 after (omega (arith, length-number_octets 2 (question_count m.question))) b.1 in
    let d = stands_parts answers (authorities ++ (additionals ++ behind_header m)) bytes 6 8 after (omega (arith, length-number_octets 2 (length m.answer))) c.1 in
    let e = stands_parts authorities (additionals ++ behind_header m) bytes 8 10 after (omega (arith, length-number_octets 2 (length m.authority))) d.1 in
    let f = stands_parts additionals (behind_header m) bytes 10 12 after (omega (arith, length-number_octets 2 (additional_count m))) e.1 in
    let g = stands_parts question (answer ++ (authority ++ additional)) bytes 12 (12 + length question) after refl f.1 in
    let i = stands_parts answer (authority ++ additional) bytes (12 + length question) (12 + length question + length answer) after refl g.1 in
    let j = stands_parts authority additional bytes (12 + length question + length answer) (12 + length question + length answer + length authority) after refl i.1 in
    record {
      id = a.0;
      flags = b.0;
      questions = c.0;
      answers = d.0;
      authorities = e.0;
      additionals = f.0;
      end = 12 + length question;
      question = g.0;
      answer_end = 12 + length question + length answer;
      answer = i.0;
      authority_end = 12 + length question + length answer + length authority;
      authority = j.0;
      additional = j.1;
    }

-- from the parts to what is read

pub count_small : (q : Option Question) → question_count q < 256 ^ 2
count_small None = omega arith
count_small (Some q) = omega arith

message_read : (m : Message) (z : ℕ) (bytes : List ℕ) → IsMessage m → z < 8 → 12 ≤ length bytes → Laid z m bytes (length bytes) → message_of bytes ≡ Ok m
message_read m z bytes is z_fits long h =
    let e1 : number_at 2 bytes 4 ≡ question_count m.question = number_read 2 (question_count m.question) bytes 4 6 (count_small m.question) h.questions in
    let e2 : number_at 2 bytes 6 ≡ length m.answer = number_read 2 (length m.answer) bytes 6 8 is.answers_fit h.answers in
    let e3 : number_at 2 bytes 8 ≡ length m.authority = number_read 2 (length m.authority) bytes 8 10 is.authorities_fit h.authorities in
    let e4 : number_at 2 bytes 10 ≡ additional_count m = number_read 2 (additional_count m) bytes 10 12 is.additionals_fit h.additionals in
    let additional = additional_written m.additional m.edns bytes h.authority_end (length bytes) is.are_additionals is.plain_additionals is.are_edns h.additional in
    let id : number_at 2 bytes 0 ≡ m.header.id = number_read 2 m.header.id bytes 0 2 is.id_fits h.id in
    message_from bytes m (record {
      long = long;
      header = header_read bytes z m.header id is.opcode_fits is.rcode_fits z_fits h.flags.begins;
      question_end = h.end;
      question = ap (λ (n : ℕ). questions_at n bytes) e1 ∙ questions_written m.question bytes h.end is.is_question h.question;
      answer_end = h.answer_end;
      answer = ap (λ (n : ℕ). records_at n bytes h.end) e2 ∙ records_written m.answer bytes h.end h.answer_end is.are_answers h.answer;
      authority_end = h.authority_end;
      authority = ap (λ (n : ℕ). records_at n bytes h.answer_end) e3 ∙ records_written m.authority bytes h.answer_end h.authority_end is.are_authorities h.authority;
      all = additional.all;
      after = length bytes;
      additional = ap (λ (n : ℕ). records_at n bytes h.authority_end) e4 ∙ additional.read;
      whole = omega arith;
      edns = additional.told;
      others = additional.others;
    })

pub whole_stands : (bytes : List ℕ) → Stands bytes bytes 0 (length bytes)
whole_stands bytes = record { begins = take_all (length bytes) bytes (omega arith); ends = omega arith }

long_enough : (z : ℕ) (m : Message) → 12 ≤ length (message_octets z m)
long_enough z m =
    let l = laid z m (message_octets z m) (length (message_octets z m)) (subst (λ (l : List ℕ). Stands l (message_octets z m) 0 (length (message_octets z m))) (message_parts z m) (whole_stands (message_octets z m))) in
    omega (arith, l.question.ends, l.answer.ends, l.authority.ends, l.additional.ends)

pub message_written : (m : Message) (z : ℕ) → IsMessage m → z < 8 → message_of (message_octets z m) ≡ Ok m
message_written m z is z_fits =
    let bytes = message_octets z m in
    message_read m z bytes is z_fits (long_enough z m) (laid z m bytes (length bytes) (subst (λ (l : List ℕ). Stands l bytes 0 (length bytes)) (message_parts z m) (whole_stands bytes)))
