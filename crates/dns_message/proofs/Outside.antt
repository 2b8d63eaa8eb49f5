-- What a client gets that may not ask.
use Rattle.std.proofs.Common.{◌≡◌, ℕ, ◌+◌, ◌≤◌, nat_lt, Bool, true, false, if◌then◌else◌, Option, Some, None, List, [], ◌++◌, length, refl, subst, sym, ap, arith, length-append}
use Rattle.std.specs.Prelude.{nat_le}
use Rattle.std.proofs.lemmas.Bool.{and_parts, leb-true}
use Rattle.dns_name.specs.Labels.{name_octets}
use Rattle.dns_record.specs.Number.{number_octets}
use Rattle.dns_record.proofs.Numbers.{length-number_octets}
use Rattle.dns_message.specs.declared.header.Header.{Header}
use Rattle.dns_message.specs.declared.question.Question.{Question}
use Rattle.dns_message.specs.declared.limit.TheConstants.{LEAST_LIMIT}
use Rattle.dns_message.specs.declared.triage.TheConstants.{REFUSED}
use Rattle.dns_message.specs.Compressed.{compressed_message, compressed_within, with_records}
use Rattle.dns_message.specs.Limit.{truncated_form, truncated_header, within_limit}
use Rattle.dns_message.specs.Reading.{header_in}
use Rattle.dns_message.specs.Request.{first_question, question_within, refusal, speaks_in, turned_away}
use Rattle.dns_message.specs.Spelling.{header_octets, opt_octets, parts_octets, question_count, question_octets, records_octets, spelling}
use Rattle.dns_message.proofs.Limits.{length-header}

-- how long it is
whole_length : (h : Header) (q : Option Question) → length (compressed_message 0 (refusal REFUSED h q None)) ≡ 12 + length (question_octets q)
unfolding compressed_message with_records opt_octets
whole_length h q = omega (arith, length-append (header_octets 0 (refusal REFUSED h q None).header (question_count q) 0 0 0 ++ question_octets q) [], length-append (header_octets 0 (refusal REFUSED h q None).header (question_count q) 0 0 0) (question_octets q), length-header 0 (refusal REFUSED h q None).header (question_count q) 0 0 0)

cut_length : (h : Header) (q : Option Question) → length (spelling (truncated_form (refusal REFUSED h q None))) ≡ 12 + length (question_octets q)
unfolding parts_octets records_octets opt_octets
cut_length h q =
    let header = header_octets 0 (truncated_header (refusal REFUSED h q None).header) (question_count q) 0 0 0 in
    let start = header ++ question_octets q in
    omega (
      arith,
      length-append (((start ++ []) ++ []) ++ []) [],
      length-append ((start ++ []) ++ []) [],
      length-append (start ++ []) [],
      length-append start [],
      length-append header (question_octets q),
      length-header 0 (truncated_header (refusal REFUSED h q None).header) (question_count q) 0 0 0,
    )

either : (limit n : ℕ) (whole cut : List ℕ) → length whole ≤ n → length cut ≤ n → length (within_limit limit whole cut) ≤ n
either limit n whole cut a b = go (nat_lt limit (length whole))
  where
    go : (cond : Bool) → length (if cond then cut else whole) ≤ n
    go true = b
    go false = a

-- the question is kept only where it fits
question_fits : (most : ℕ) (q : Option Question) → 12 ≤ most → 12 + length (question_octets (question_within most q)) ≤ most
unfolding question_octets
question_fits most None least = least
question_fits most (Some question) least = go (nat_le (12 + length (question_octets (Some question))) most) refl
  where
    go : (fits : Bool) → nat_le (12 + length (question_octets (Some question))) most ≡ fits → 12 + length (question_octets (if fits then Some question else None)) ≤ most
    go true e = leb-true _ _ e
    go false e = least

pub no_longer : (bytes : List ℕ) → speaks_in bytes ≡ true → length (compressed_within LEAST_LIMIT (turned_away bytes)) ≤ length bytes
unfolding turned_away
no_longer bytes speaks =
    let h = header_in bytes in
    let q = question_within (length bytes) (first_question bytes) in
    let long : 12 ≤ length bytes = leb-true _ _ (and_parts _ _ speaks).0 in
    let fits = question_fits (length bytes) (first_question bytes) long in
    either LEAST_LIMIT (length bytes) (compressed_message 0 (refusal REFUSED h q None)) (spelling (truncated_form (refusal REFUSED h q None))) (subst (λ (n : ℕ). n ≤ length bytes) (sym (whole_length h q)) fits) (subst (λ (n : ℕ). n ≤ length bytes) (sym (cut_length h q)) fits)

-- how long a header and a question are
pub question_room : (q : Question) (octets : List ℕ) → octets ≡ name_octets q.name → length octets + 16 ≡ 12 + length (question_octets (Some q))
unfolding question_octets
question_room q octets e =
    let name = name_octets q.name in
    let qtype = number_octets 2 q.qtype in
    let qclass = number_octets 2 q.qclass in
    omega (arith, ap length e, length-append (name ++ qtype) qclass, length-append name qtype, length-number_octets 2 q.qtype, length-number_octets 2 q.qclass)
