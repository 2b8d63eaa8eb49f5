-- Messages are read exactly where the bytes are a message by the rules.
use Rattle.std.proofs.Common.{◌≡◌, ℕ, ◌≤◌, List, length, Ok, sym, ap, subst, ◌∙◌, arith}
use Rattle.std.specs.List.{filter}
use Rattle.dns_record.specs.Number.{number_at, AreOctets}
use Rattle.dns_record.specs.Record.{PlainRecord}
use Rattle.dns_message.specs.declared.message.Message.{Message}
use Rattle.dns_message.specs.Grammar.{RecordsAt, MessageAt}
use Rattle.dns_message.specs.Reading.{is_opt, records_at, message_of}
use Rattle.dns_message.proofs.MessageReads.{ReadsMessage, message_from, message_reads}
use Rattle.dns_message.proofs.Opts.{edns_told, edns_only}
use Rattle.dns_message.proofs.QuestionGrammar.{questions_stand, questions_only, question_inside}
use Rattle.dns_message.proofs.RecordsGrammar.{records_stand, records_only, records_inside}

grammar_from : (bytes : List ℕ) (m : Message) → AreOctets bytes → ReadsMessage bytes m → MessageAt bytes m
grammar_from bytes m octets h =
    let question = questions_stand (number_at 2 bytes 4) bytes (m.question, h.question_end) octets h.question in
    let answer = records_stand (number_at 2 bytes 6) bytes h.question_end (m.answer, h.answer_end) octets h.answer in
    let authority = records_stand (number_at 2 bytes 8) bytes h.answer_end (m.authority, h.authority_end) octets h.authority in
    let additional = records_stand (number_at 2 bytes 10) bytes h.authority_end (h.all, h.after) octets h.additional in
    let in1 : h.question_end ≤ length bytes = question_inside (number_at 2 bytes 4) bytes m.question h.question_end h.long question in
    let in2 : h.answer_end ≤ length bytes = records_inside m.answer bytes h.question_end h.answer_end in1 answer.stand in
    let in3 : h.authority_end ≤ length bytes = records_inside m.authority bytes h.answer_end h.authority_end in2 authority.stand in
    let in4 : h.after ≤ length bytes = records_inside h.all bytes h.authority_end h.after in3 additional.stand in
    let end : h.after ≡ length bytes = omega (arith, in4, h.whole) in
    record {
      long = h.long;
      header = sym h.header;
      question_end = h.question_end;
      question = question;
      answer_end = h.answer_end;
      answer_count = answer.counted;
      answer = answer.stand;
      authority_end = h.authority_end;
      authority_count = authority.counted;
      authority = authority.stand;
      additional = record {
        all = h.all;
        stand = subst (λ (n : ℕ). RecordsAt h.all bytes h.authority_end n) end additional.stand;
        counted = additional.counted;
        others = sym h.others;
        opt = edns_told (filter is_opt h.all) m.edns h.edns;
      };
    }

pub message_stands : (bytes : List ℕ) (m : Message) → AreOctets bytes → message_of bytes ≡ Ok m → MessageAt bytes m
message_stands bytes m octets e = grammar_from bytes m octets (message_reads bytes m e)

records_read : (count : ℕ) (records : List PlainRecord) (bytes : List ℕ) (place after : ℕ) → length records ≡ count → RecordsAt records bytes place after → records_at count bytes place ≡ Ok (records, after)
records_read count records bytes place after e h = ap (λ (n : ℕ). records_at n bytes place) (sym e) ∙ records_only records bytes place after h

pub message_only : (bytes : List ℕ) (m : Message) → MessageAt bytes m → message_of bytes ≡ Ok m
message_only bytes m h =
    message_from bytes m (record {
      long = h.long;
      header = sym h.header;
      question_end = h.question_end;
      question = questions_only (number_at 2 bytes 4) bytes m.question h.question_end h.question;
      answer_end = h.answer_end;
      answer = records_read (number_at 2 bytes 6) m.answer bytes h.question_end h.answer_end h.answer_count h.answer;
      authority_end = h.authority_end;
      authority = records_read (number_at 2 bytes 8) m.authority bytes h.answer_end h.authority_end h.authority_count h.authority;
      all = h.additional.all;
      after = length bytes;
      additional = records_read (number_at 2 bytes 10) h.additional.all bytes h.authority_end (length bytes) h.additional.counted h.additional.stand;
      whole = omega arith;
      edns = edns_only (filter is_opt h.additional.all) m.edns h.additional.opt;
      others = sym h.additional.others;
    })
