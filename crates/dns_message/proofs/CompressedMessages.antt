-- A message whose names are compressed is read as the message.
use Rattle.std.proofs.Common.{◌≡◌, ℕ, ◌+◌, ◌<◌, ◌^◌, List, [], ◌∷◌, ◌++◌, length, Option, Some, None, Ok, refl, sym, ap, subst, ◌∙◌, append_assoc, arith, length-append}
use Rattle.std.specs.Prelude.{IfSome}
use Rattle.std.specs.List.{AllByRecursion}
use Rattle.std.proofs.lemmas.List.{append-nil, take_at}
use Rattle.dns_name.specs.Labels.{name_octets}
use Rattle.dns_name.specs.Standing.{Stands}
use Rattle.packed_names.specs.Occurrence.{AreOccurrences}
use Rattle.packed_names.specs.Places.{Place, compressed_octets, new_places_in_full}
use Rattle.packed_names.proofs.CompressLemmas.{compressed_octets-root}
use Rattle.packed_names.proofs.InsertLemmas.{in_full_occurs}
use Rattle.packed_names.proofs.ReadLemmas.{occurrences_more}
use Rattle.dns_record.specs.Number.{number_at, number_octets}
use Rattle.dns_record.specs.Record.{PlainRecord, IsRecord, record_octets}
use Rattle.dns_record.proofs.Numbers.{length-number_octets, number_read}
use Rattle.dns_record.proofs.PartStanding.{stands_parts}
use Rattle.dns_message.specs.declared.edns.Edns.{Edns}
use Rattle.dns_message.specs.declared.header.Header.{Header}
use Rattle.dns_message.specs.declared.message.Message.{Message}
use Rattle.dns_message.specs.declared.question.Question.{Question}
use Rattle.dns_message.specs.Compressed.{Draft, compressed_message, message_start, question_places, with_record, with_records}
use Rattle.dns_message.specs.Reading.{edns_in, header_in, questions_at, records_at, message_of}
use Rattle.dns_message.specs.Spelling.{IsEdns, IsMessage, IsQuestion, count_octets, first_flags, header_octets, opt_count, opt_octets, question_count, question_octets, second_flags}
use Rattle.dns_message.proofs.CompressedData.{stands_behind}
use Rattle.dns_message.proofs.CompressedRecords.{records_read, with_records-append}
use Rattle.dns_message.proofs.Flags.{header_read}
use Rattle.dns_message.proofs.Limits.{length-header}
use Rattle.dns_message.proofs.MessageReads.{message_from}
use Rattle.dns_message.proofs.OptSpelling.{all_others, both_are, none_more, opt_list, opt_record, opt_spelled, opts_alone, opts_are, opts_counted, opts_told}
use Rattle.dns_message.proofs.QuestionGrammar.{questions_written}
use Rattle.dns_message.proofs.Standing.{count_small}

-- ---- the header

-- what is read of the header
pub record ReadsHeader (bytes : List ℕ) (h : Header) (q n u d : ℕ) : Type 0 where
  pub header : header_in bytes ≡ h
  pub questions : number_at 2 bytes 4 ≡ q
  pub answers : number_at 2 bytes 6 ≡ n
  pub authorities : number_at 2 bytes 8 ≡ u
  pub additionals : number_at 2 bytes 10 ≡ d

-- the octets stand at the start
stands_first : (octets more : List ℕ) (after : ℕ) → length octets ≡ after → Stands octets (octets ++ more) 0 after
stands_first octets more after e = record { begins = take_at octets more (length octets) refl; ends = omega (arith, e) }

grouped : (i f q n u d : List ℕ) → i ++ f ++ (q ++ n ++ u ++ d) ≡ i ++ (f ++ (q ++ (n ++ (u ++ d))))
grouped i f q n u d = simp append_assoc

header_parts : (z : ℕ) (h : Header) (q n u d : ℕ) → header_octets z h q n u d ≡ number_octets 2 h.id ++ ((first_flags h ∷ second_flags z h ∷ []) ++ (number_octets 2 q ++ (number_octets 2 n ++ (number_octets 2 u ++ number_octets 2 d))))
unfolding header_octets count_octets
header_parts z h q n u d = grouped (number_octets 2 h.id) (first_flags h ∷ second_flags z h ∷ []) (number_octets 2 q) (number_octets 2 n) (number_octets 2 u) (number_octets 2 d)

pub header_written : (z : ℕ) (h : Header) (q n u d : ℕ) (bytes : List ℕ) → h.id < 2 ^ 16 → h.opcode < 16 → h.rcode < 16 → z < 8 → q < 2 ^ 16 → n < 2 ^ 16 → u < 2 ^ 16 → d < 2 ^ 16 → Stands (header_octets z h q n u d) bytes 0 12
    → ReadsHeader bytes h q n u d
header_written z h q n u d bytes id_fits opcode_fits rcode_fits z_fits q_fits n_fits u_fits d_fits s =
    let flags : List ℕ = first_flags h ∷ second_flags z h ∷ [] in
    let id = number_octets 2 h.id in
    let qs = number_octets 2 q in
    let ns = number_octets 2 n in
    let us = number_octets 2 u in
    let ds = number_octets 2 d in
    let whole : Stands (id ++ (flags ++ (qs ++ (ns ++ (us ++ ds))))) bytes 0 12 = subst (λ (l : List ℕ). Stands l bytes 0 12) (header_parts z h q n u d) s in
    let a = stands_parts id (flags ++ (qs ++ (ns ++ (us ++ ds)))) bytes 0 2 12 (omega (arith, length-number_octets 2 h.id)) whole in
    let b = stands_parts flags (qs ++ (ns ++ (us ++ ds))) bytes 2 4 12 refl a.1 in
    let c = stands_parts qs (ns ++ (us ++ ds)) bytes 4 6 12 (omega (arith, length-number_octets 2 q)) b.1 in
    let e = stands_parts ns (us ++ ds) bytes 6 8 12 (omega (arith, length-number_octets 2 n)) c.1 in
    let f = stands_parts us ds bytes 8 10 12 (omega (arith, length-number_octets 2 u)) e.1 in
    let id_is : number_at 2 bytes 0 ≡ h.id = number_read 2 h.id bytes 0 2 id_fits a.0 in
    record {
      header = header_read bytes z h id_is opcode_fits rcode_fits z_fits b.0.begins;
      questions = number_read 2 q bytes 4 6 q_fits c.0;
      answers = number_read 2 n bytes 6 8 n_fits e.0;
      authorities = number_read 2 u bytes 8 10 u_fits f.0;
      additionals = number_read 2 d bytes 10 12 d_fits f.1;
    }

-- ---- the start

question_parts : (q : Question) → question_octets (Some q) ≡ name_octets q.name ++ (number_octets 2 q.qtype ++ number_octets 2 q.qclass)
unfolding question_octets
question_parts q = append_assoc (name_octets q.name) (number_octets 2 q.qtype) (number_octets 2 q.qclass)

-- the places of the question's name are occurrences
question_occurs : (header : List ℕ) (q : Option Question) → length header ≡ 12 → IfSome q IsQuestion → AreOccurrences (header ++ question_octets q) (question_places q)
question_occurs header None len is = tt
question_occurs header (Some q) len is =
    let name = name_octets q.name in
    let numbers = number_octets 2 q.qtype ++ number_octets 2 q.qclass in
    let places = new_places_in_full [] 12 q.name in
    let at_end : AreOccurrences (header ++ name) places = subst (λ (n : ℕ). AreOccurrences (header ++ name) (new_places_in_full [] n q.name)) len (in_full_occurs [] header q.name tt is.is_name) in
    let whole : (header ++ name) ++ numbers ≡ header ++ question_octets (Some q) = append_assoc header name numbers ∙ ap (λ (l : List ℕ). header ++ l) (sym (question_parts q)) in
    subst (λ (l : List ℕ). AreOccurrences l places) whole (occurrences_more places (header ++ name) numbers at_end)

-- ---- the OPT record, which has no names but the root

root_spelled : (places : List Place) (a b c d : List ℕ) → (((compressed_octets places [] ++ a) ++ b) ++ c) ++ d ≡ (((name_octets [] ++ a) ++ b) ++ c) ++ d
root_spelled places a b c d = ap (λ (l : List ℕ). (((l ++ a) ++ b) ++ c) ++ d) (compressed_octets-root places)

opt_pieces : (front name a b c d e : List ℕ) → (((((front ++ name) ++ a) ++ b) ++ c) ++ d) ++ e ≡ front ++ (((((name ++ a) ++ b) ++ c) ++ d) ++ e)
opt_pieces front name a b c d e = simp append_assoc

opt_drafted : (d : Draft) (e : Edns) → IsEdns e → (with_record d (opt_record e)).octets ≡ d.octets ++ opt_octets (Some e)
unfolding with_record record_octets
opt_drafted d e is =
    let r = opt_record e in
    let name : compressed_octets d.places [] ≡ name_octets [] = compressed_octets-root d.places in
    opt_pieces d.octets (compressed_octets d.places []) (number_octets 2 41) (number_octets 2 e.payload) (number_octets 4 r.ttl) (number_octets 2 0) []
    ∙ ap (λ (l : List ℕ). d.octets ++ (((((l ++ number_octets 2 41) ++ number_octets 2 e.payload) ++ number_octets 4 r.ttl) ++ number_octets 2 0) ++ [])) name
    ∙ ap (λ (l : List ℕ). d.octets ++ l) (sym (opt_spelled e is))

opts_drafted : (d : Draft) (edns : Option Edns) → IfSome edns IsEdns → (with_records d (opt_list edns)).octets ≡ d.octets ++ opt_octets edns
unfolding with_records opt_octets
opts_drafted d None is = sym (append-nil d.octets)
opts_drafted d (Some e) is = opt_drafted d e is

-- ---- the message

-- the drafts behind each section, and what is read there
record Sections (start : Draft) (answer authority additional : List PlainRecord) (bytes : List ℕ) : Type 0 where
  pub own : List ℕ
  pub behind : bytes ≡ start.octets ++ own
  pub answer_end : ℕ
  pub answer_is : records_at (length answer) bytes (length start.octets) ≡ Ok (answer, answer_end)
  pub authority_end : ℕ
  pub authority_is : records_at (length authority) bytes answer_end ≡ Ok (authority, authority_end)
  pub additional_is : records_at (length additional) bytes authority_end ≡ Ok (additional, length bytes)

sections_read : (start : Draft) (answer authority additional : List PlainRecord) → AreOccurrences start.octets start.places → AllByRecursion IsRecord answer → AllByRecursion IsRecord authority → AllByRecursion IsRecord additional
    → Sections start answer authority additional (with_records (with_records (with_records start answer) authority) additional).octets
sections_read start answer authority additional occur a u d =
    let first = with_records start answer in
    let second = with_records first authority in
    let third = with_records second additional in
    let f = records_read start answer occur a in
    let s = records_read first authority f.occur u in
    let t = records_read second additional s.occur d in
    let bytes = third.octets in
    let behind_first : bytes ≡ first.octets ++ (s.own ++ t.own) = t.behind ∙ ap (λ (l : List ℕ). l ++ t.own) s.behind ∙ append_assoc first.octets s.own t.own in
    record {
      own = f.own ++ (s.own ++ t.own);
      behind = behind_first ∙ ap (λ (l : List ℕ). l ++ (s.own ++ t.own)) f.behind ∙ append_assoc start.octets f.own (s.own ++ t.own);
      answer_end = length first.octets;
      answer_is = ap (λ (l : List ℕ). records_at (length answer) l (length start.octets)) behind_first ∙ f.read (s.own ++ t.own);
      authority_end = length second.octets;
      authority_is = ap (λ (l : List ℕ). records_at (length authority) l (length first.octets)) t.behind ∙ s.read t.own;
      additional_is = ap (λ (l : List ℕ). records_at (length additional) l (length second.octets)) (sym (append-nil bytes)) ∙ t.read [];
    }

-- the OPT record stands behind the others as a record does
message_drafted : (z : ℕ) (m : Message) → IfSome m.edns IsEdns → compressed_message z m ≡ (with_records (with_records (with_records (message_start z m) m.answer) m.authority) (m.additional ++ opt_list m.edns)).octets
unfolding compressed_message
message_drafted z m is =
    let start = message_start z m in
    let third = with_records (with_records (with_records start m.answer) m.authority) m.additional in
    let all : with_records start ((m.answer ++ m.authority) ++ m.additional) ≡ third =
    with_records-append start (m.answer ++ m.authority) m.additional ∙ ap (λ (d : Draft). with_records d m.additional) (with_records-append start m.answer m.authority)
    in
    ap (λ (d : Draft). d.octets ++ opt_octets m.edns) all
    ∙ sym (opts_drafted third m.edns is)
    ∙ ap (λ (d : Draft). d.octets) (sym (with_records-append (with_records (with_records start m.answer) m.authority) m.additional (opt_list m.edns)))

message_read : (m : Message) (z : ℕ) (bytes : List ℕ) → IsMessage m → z < 8 → Sections (message_start z m) m.answer m.authority (m.additional ++ opt_list m.edns) bytes → message_of bytes ≡ Ok m
message_read m z bytes is z_fits h =
    let opts = opt_list m.edns in
    let count = length m.additional + opt_count m.edns in
    let header = header_octets z m.header (question_count m.question) (length m.answer) (length m.authority) count in
    let question = question_octets m.question in
    let twelve : length header ≡ 12 = length-header z m.header (question_count m.question) (length m.answer) (length m.authority) count in
    let at_question : bytes ≡ (header ++ question) ++ h.own = h.behind in
    let at_header : bytes ≡ header ++ (question ++ h.own) = at_question ∙ append_assoc header question h.own in
    let start : Stands header bytes 0 12 = subst (λ (l : List ℕ). Stands header l 0 12) (sym at_header) (stands_first header (question ++ h.own) 12 twelve) in
    let asked : Stands question bytes 12 (length (header ++ question)) =
    subst (λ (l : List ℕ). Stands question l 12 (length (header ++ question))) (sym at_question)
    (subst (λ (n : ℕ). Stands question ((header ++ question) ++ h.own) n (length (header ++ question))) twelve (subst (λ (n : ℕ). Stands question ((header ++ question) ++ h.own) (length header) n) (sym (length-append header question)) (stands_behind header question h.own)))
    in
    let said = header_written z m.header (question_count m.question) (length m.answer) (length m.authority) count bytes is.id_fits is.opcode_fits is.rcode_fits z_fits (count_small m.question) is.answers_fit is.authorities_fit is.additionals_fit start in
    let all : count ≡ length (m.additional ++ opts) = omega (arith, length-append m.additional opts, opts_counted m.edns) in
    message_from bytes m (record {
      long = omega (arith, ap length at_header, length-append header (question ++ h.own));
      header = said.header;
      question_end = length (header ++ question);
      question = ap (λ (n : ℕ). questions_at n bytes) said.questions ∙ questions_written m.question bytes (length (header ++ question)) is.is_question asked;
      answer_end = h.answer_end;
      answer = ap (λ (n : ℕ). records_at n bytes (length (header ++ question))) said.answers ∙ h.answer_is;
      authority_end = h.authority_end;
      authority = ap (λ (n : ℕ). records_at n bytes h.answer_end) said.authorities ∙ h.authority_is;
      all = m.additional ++ opts;
      after = length bytes;
      additional = ap (λ (n : ℕ). records_at n bytes h.authority_end) (said.additionals ∙ all) ∙ h.additional_is;
      whole = omega arith;
      edns = ap edns_in (none_more m.additional opts is.plain_additionals) ∙ opts_told m.edns is.are_edns;
      others = all_others m.additional opts is.plain_additionals (opts_alone m.edns);
    })

pub compressed_message_read : (m : Message) (z : ℕ) → IsMessage m → z < 8 → message_of (compressed_message z m) ≡ Ok m
compressed_message_read m z is z_fits =
    let start = message_start z m in
    let count = length m.additional + opt_count m.edns in
    let header = header_octets z m.header (question_count m.question) (length m.answer) (length m.authority) count in
    let opts = opt_list m.edns in
    let occur : AreOccurrences start.octets start.places = question_occurs header m.question (length-header z m.header (question_count m.question) (length m.answer) (length m.authority) count) is.is_question in
    let sections = sections_read start m.answer m.authority (m.additional ++ opts) occur is.are_answers is.are_authorities (both_are m.additional opts is.are_additionals (opts_are m.edns is.are_edns)) in
    message_read m z (compressed_message z m) is z_fits (subst (Sections start m.answer m.authority (m.additional ++ opts)) (sym (message_drafted z m is.are_edns)) sections)
