-- What is read as a message can be written and read.
use Rattle.std.proofs.Common.{◌≡◌, ℕ, ◌+◌, ◌<◌, ◌^◌, Bool, true, false, not, cond, List, [], ◌∷◌, length, map, Option, Some, None, Ok, refl, sym, ap, subst, arith}
use Rattle.std.specs.Prelude.{IfSome}
use Rattle.std.specs.List.{filter, AllByRecursion}
use Rattle.dns_name.proofs.GrammarLemmas.{name_only}
use Rattle.dns_name.proofs.Standing.{name_is}
use Rattle.dns_record.specs.Number.{number_at, AreOctets}
use Rattle.dns_record.specs.Record.{PlainRecord, IsRecord}
use Rattle.dns_record.proofs.Numbers.{number_fits}
use Rattle.dns_record.proofs.RecordGrammar.{record_only}
use Rattle.dns_record.proofs.RecordStanding.{record_is}
use Rattle.dns_message.specs.declared.edns.Edns.{Edns}
use Rattle.dns_message.specs.declared.message.Message.{Message}
use Rattle.dns_message.specs.declared.question.Question.{Question}
use Rattle.dns_message.specs.Grammar.{RecordsAt, QuestionAt, MessageAt, edns_list}
use Rattle.dns_message.specs.Reading.{is_opt, edns_of, message_of}
use Rattle.dns_message.specs.Spelling.{opt_count, IsQuestion, IsEdns, IsMessage}
use Rattle.dns_message.proofs.Flags.{IsSmall, header_small}
use Rattle.dns_message.proofs.MessageGrammar.{message_stands}

question_is : (count : ℕ) (bytes : List ℕ) (q : Option Question) (after : ℕ) → QuestionAt count bytes q after → IfSome q IsQuestion
question_is count bytes None after h = tt
question_is count bytes (Some q) after h = record {
  is_name = name_is q.name bytes 12 h.1.place (name_only bytes 12 (Ok (q.name, h.1.place)) h.1.name);
  type_fits = h.1.type_fits;
  class_fits = h.1.class_fits;
}

records_are : (records : List PlainRecord) (bytes : List ℕ) (place after : ℕ) → AreOctets bytes → RecordsAt records bytes place after → AllByRecursion IsRecord records
records_are [] bytes place after octets h = tt
records_are (r ∷ rs) bytes place after octets h = (record_is r bytes place h.0 octets (record_only r bytes place h.0 h.1), records_are rs bytes h.0 after octets h.2)

-- the records that are no OPT, and what the OPT records say

record Sorted (all plain opts : List PlainRecord) : Type 0 where
  pub are : AllByRecursion IsRecord plain
  pub plain_are : AllByRecursion (λ r. is_opt r ≡ false) plain
  pub told : AllByRecursion IsEdns (map edns_of opts)
  pub count : length plain + length (map edns_of opts) ≡ length all

edns_is : (r : PlainRecord) → IsRecord r → IsEdns (edns_of r)
edns_is r is = record { payload_fits = is.class_fits; version_fits = omega arith; extended_fits = omega arith }

sorted_more : (b : Bool) (r : PlainRecord) (all plain opts : List PlainRecord) → is_opt r ≡ b → IsRecord r → Sorted all plain opts → Sorted (r ∷ all) (cond (not b) (r ∷ plain) plain) (cond b (r ∷ opts) opts)
sorted_more true r all plain opts e is h = record { are = h.are; plain_are = h.plain_are; told = (edns_is r is, h.told); count = omega (arith, h.count) }
sorted_more false r all plain opts e is h = record { are = (is, h.are); plain_are = (e, h.plain_are); told = h.told; count = omega (arith, h.count) }

sorted : (all : List PlainRecord) → AllByRecursion IsRecord all → Sorted all (filter (λ r. not (is_opt r)) all) (filter is_opt all)
sorted [] each = record { are = tt; plain_are = tt; told = tt; count = refl }
sorted (r ∷ rs) each = sorted_more (is_opt r) r rs (filter (λ r. not (is_opt r)) rs) (filter is_opt rs) refl each.0 (sorted rs each.1)

first_edns : (edns : Option Edns) → AllByRecursion IsEdns (edns_list edns) → IfSome edns IsEdns
first_edns None h = tt
first_edns (Some e) h = h.0

count_list : (edns : Option Edns) → length (edns_list edns) ≡ opt_count edns
count_list None = refl
count_list (Some e) = refl

message_from : (bytes : List ℕ) (m : Message) → AreOctets bytes → MessageAt bytes m → IsMessage m
message_from bytes m octets h =
    let header = subst IsSmall (sym h.header) (header_small bytes octets) in
    let all = h.additional.all in
    let told = sorted all (records_are all bytes h.authority_end (length bytes) octets h.additional.stand) in
    let fits : length m.additional + opt_count m.edns < 2 ^ 16 =
    omega (arith, told.count, h.additional.counted, ap length h.additional.others, ap length h.additional.opt, count_list m.edns, number_fits 2 bytes 10 octets) in
    record {
      id_fits = header.id_fits;
      opcode_fits = header.opcode_fits;
      rcode_fits = header.rcode_fits;
      is_question = question_is (number_at 2 bytes 4) bytes m.question h.question_end h.question;
      are_answers = records_are m.answer bytes h.question_end h.answer_end octets h.answer;
      are_authorities = records_are m.authority bytes h.answer_end h.authority_end octets h.authority;
      are_additionals = subst (AllByRecursion IsRecord) (sym h.additional.others) told.are;
      answers_fit = subst (λ (n : ℕ). n < 2 ^ 16) (sym h.answer_count) (number_fits 2 bytes 6 octets);
      authorities_fit = subst (λ (n : ℕ). n < 2 ^ 16) (sym h.authority_count) (number_fits 2 bytes 8 octets);
      additionals_fit = fits;
      plain_additionals = subst (AllByRecursion (λ r. is_opt r ≡ false)) (sym h.additional.others) told.plain_are;
      are_edns = first_edns m.edns (subst (AllByRecursion IsEdns) h.additional.opt told.told);
    }

pub message_is : (bytes : List ℕ) (m : Message) → AreOctets bytes → message_of bytes ≡ Ok m → IsMessage m
message_is bytes m octets e = message_from bytes m octets (message_stands bytes m octets e)
