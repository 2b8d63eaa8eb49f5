-- The question: as it is read, by the rules, and as it is spelled.
use Rattle.std.proofs.Common.{◌≡◌, ℕ, ◌+◌, ◌<◌, ◌≤◌, ◌^◌, cond, eqb, ltb, false, List, ◌++◌, length, Option, Some, None, Result, Ok, Err, refl, sym, ap, subst, append_assoc, arith, length-append}
use Rattle.std.specs.Prelude.{IfSome}
use Rattle.std.proofs.lemmas.Bool.{cond_both, eqb-true, ltb-false, le-ltb}
use Rattle.dns_name.specs.Grammar.{NameAt}
use Rattle.dns_name.specs.Labels.{name_octets}
use Rattle.dns_name.specs.Reading.{◌>>=◌, NameOutcome, name_at}
use Rattle.dns_name.specs.Standing.{Stands}
use Rattle.dns_name.proofs.GrammarLemmas.{name_stands, name_only}
use Rattle.dns_name.proofs.Standing.{name_written, stands_both}
use Rattle.dns_record.specs.Number.{number_at, number_octets, AreOctets}
use Rattle.dns_name.proofs.Binding.{bind_ok, ok_is}
use Rattle.dns_record.proofs.Numbers.{length-number_octets, number_read, u16_stands, number_fits}
use Rattle.dns_record.proofs.PartStanding.{stands_within, stands_parts}
use Rattle.dns_message.specs.Becomes.{as_question}
use Rattle.dns_message.specs.declared.fault.MessageFault.{MessageFault}
use Rattle.dns_message.specs.declared.fault.MessageFault.TheVariants.{Short, Question as Questions}
use Rattle.dns_message.specs.declared.question.Question.{Question}
use Rattle.dns_message.specs.Grammar.{OneQuestionAt, QuestionAt}
use Rattle.dns_message.specs.Reading.{after_octets, question_at, questions_at, some_question}
use Rattle.dns_message.specs.Spelling.{question_count, question_octets, IsQuestion}

abbrev numbers : Question → List ℕ
numbers q = number_octets 2 q.qtype ++ number_octets 2 q.qclass

-- from the rules to what is read

pub question_only : (q : Question) (bytes : List ℕ) (after : ℕ) → OneQuestionAt bytes q after → question_at bytes 12 ≡ Ok (q, after)
unfolding question_at
question_only q bytes after h =
    let place = h.place in
    let both = stands_parts (number_octets 2 q.qtype) (number_octets 2 q.qclass) bytes place (place + 2) after (omega (arith, length-number_octets 2 q.qtype)) h.numbers in
    let e1 : name_at bytes 12 ≡ Ok (q.name, place) = name_only bytes 12 (Ok (q.name, place)) h.name in
    let e2 : number_at 2 bytes place ≡ q.qtype = number_read 2 q.qtype bytes place (place + 2) h.type_fits both.0 in
    let e3 : number_at 2 bytes (place + 2) ≡ q.qclass = number_read 2 q.qclass bytes (place + 2) after h.class_fits both.1 in
    let end : place + 4 ≡ after = omega (arith, both.1.ends, length-number_octets 2 q.qclass) in
    let room : ltb (length bytes) after ≡ false = le-ltb (length bytes) after h.inside in
    rw (e1, end, room, e2, e3) refl

pub questions_only : (count : ℕ) (bytes : List ℕ) (q : Option Question) (after : ℕ) → QuestionAt count bytes q after → questions_at count bytes ≡ Ok (q, after)
unfolding questions_at
questions_only count bytes None after h = rw (h.0, h.1) refl
questions_only count bytes (Some q) after h =
    let read : question_at bytes 12 ≡ Ok (q, after) = question_only q bytes after h.1 in
    rw (h.0, read) refl

-- from what is read to the rules

-- what is read as a question
pub record ReadsQuestion (q : Question) (bytes : List ℕ) (at after : ℕ) : Type 0 where
  pub place : ℕ
  pub name : name_at bytes at ≡ Ok (q.name, place)
  pub qtype : number_at 2 bytes place ≡ q.qtype
  pub qclass : number_at 2 bytes (place + 2) ≡ q.qclass
  pub end : place + 4 ≡ after
  pub within : after ≤ length bytes

name_from_question : (read : NameOutcome) (x : List (List ℕ) × ℕ) → as_question read ≡ Ok x → read ≡ Ok x
name_from_question (Ok y) x e = ap (λ (z : List (List ℕ) × ℕ). Ok z) (ok_is {E = MessageFault} y x e)
name_from_question (Err fault) x e = absurd cc

end_read : (bytes : List ℕ) (place count end : ℕ) → after_octets bytes place count ≡ Ok end → (place + count ≤ length bytes) × (place + count ≡ end)
end_read bytes place count end =
    cond_both (ltb (length bytes) (place + count)) (Err Short) (Ok (place + count)) (λ (r : Result ℕ MessageFault). r ≡ Ok end → (place + count ≤ length bytes) × (place + count ≡ end))
    (λ t e. absurd cc)
    (λ t e. (ltb-false (length bytes) (place + count) t, ok_is {E = MessageFault} (place + count) end e))

abbrev whole : List ℕ → List (List ℕ) × ℕ → ℕ → Question × ℕ
whole bytes name after = (record { name = name.0; qtype = number_at 2 bytes name.1; qclass = number_at 2 bytes (name.1 + 2) }, after)

pub question_reads : (bytes : List ℕ) (at : ℕ) (x : Question × ℕ) → question_at bytes at ≡ Ok x → ReadsQuestion x.0 bytes at x.1
unfolding question_at
question_reads bytes at x e =
    let a = bind_ok (as_question (name_at bytes at)) (λ name. after_octets bytes name.1 4 >>= λ after. Ok (whole bytes name after)) x e in
    let name = a.0 in
    let b = bind_ok (after_octets bytes name.1 4) (λ after. Ok (whole bytes name after)) x a.2 in
    let end = end_read bytes name.1 4 b.0 b.1 in
    subst (λ (y : Question × ℕ). ReadsQuestion y.0 bytes at y.1) (ok_is {E = MessageFault} (whole bytes name b.0) x b.2) (record {
      place = name.1;
      name = name_from_question (name_at bytes at) name a.1;
      qtype = refl;
      qclass = refl;
      end = end.1;
      within = omega (arith, end.0, end.1);
    })

number_stands : (bytes : List ℕ) (n at after : ℕ) → AreOctets bytes → number_at 2 bytes at ≡ n → after ≡ at + 2 → after ≤ length bytes → Stands (number_octets 2 n) bytes at after
number_stands bytes n at after octets e f long = rw (← e, f) (u16_stands bytes at octets (omega (arith, f)))

pub question_stands : (q : Question) (bytes : List ℕ) (after : ℕ) → AreOctets bytes → ReadsQuestion q bytes 12 after → OneQuestionAt bytes q after
question_stands q bytes after octets h =
    let place = h.place in
    let qtype = number_stands bytes q.qtype place (place + 2) octets h.qtype refl (omega (arith, h.end, h.within)) in
    let qclass = number_stands bytes q.qclass (place + 2) after octets h.qclass (omega (arith, h.end)) h.within in
    record {
      place = place;
      name = subst (λ (o : NameOutcome). NameAt bytes 12 o) h.name (name_stands bytes 12);
      numbers = stands_both (number_octets 2 q.qtype) (number_octets 2 q.qclass) bytes place (place + 2) after qtype qclass;
      inside = h.within;
      type_fits = subst (λ (n : ℕ). n < 2 ^ 16) h.qtype (number_fits 2 bytes place octets);
      class_fits = subst (λ (n : ℕ). n < 2 ^ 16) h.qclass (number_fits 2 bytes (place + 2) octets);
    }

abbrev Reads : ℕ → List ℕ → Option Question × ℕ → Type 0
Reads count bytes x = QuestionAt count bytes x.0 x.1

one_question : (bytes : List ℕ) (x : Option Question × ℕ) → AreOctets bytes → question_at bytes 12 >>= some_question ≡ Ok x → Reads 1 bytes x
one_question bytes x octets e =
    let p = bind_ok (question_at bytes 12) some_question x e in
    let h = question_reads bytes 12 p.0 p.1 in
    subst (Reads 1 bytes) (ok_is {E = MessageFault} (Some p.0.0, p.0.1) x p.2) (refl, question_stands p.0.0 bytes p.0.1 octets h)

pub questions_stand : (count : ℕ) (bytes : List ℕ) (x : Option Question × ℕ) → AreOctets bytes → questions_at count bytes ≡ Ok x → Reads count bytes x
unfolding questions_at
questions_stand count bytes x octets =
    let one = cond (eqb count 1) (question_at bytes 12 >>= some_question) (Err Questions) in
    cond_both (eqb count 0) (Ok (None, 12)) one (λ (r : Result (Option Question × ℕ) MessageFault). r ≡ Ok x → Reads count bytes x)
    (λ t e. subst (λ (n : ℕ). Reads n bytes x) (sym (eqb-true count 0 t)) (subst (Reads 0 bytes) (ok_is {E = MessageFault} (None, 12) x e) (refl, refl)))
    (λ f.
    cond_both (eqb count 1) (question_at bytes 12 >>= some_question) (Err Questions) (λ (r : Result (Option Question × ℕ) MessageFault). r ≡ Ok x → Reads count bytes x)
    (λ t e. subst (λ (n : ℕ). Reads n bytes x) (sym (eqb-true count 1 t)) (one_question bytes x octets e))
    (λ t e. absurd cc))

-- the question ends within the message
pub question_inside : (count : ℕ) (bytes : List ℕ) (q : Option Question) (after : ℕ) → 12 ≤ length bytes → QuestionAt count bytes q after → after ≤ length bytes
question_inside count bytes None after long h = omega (arith, h.1)
question_inside count bytes (Some q) after long h = h.1.inside

-- from a question as it is spelled

question_parts : (q : Question) → question_octets (Some q) ≡ name_octets q.name ++ numbers q
unfolding question_octets
question_parts q = append_assoc (name_octets q.name) (number_octets 2 q.qtype) (number_octets 2 q.qclass)

one_written : (q : Question) (bytes : List ℕ) (after : ℕ) → IsQuestion q → Stands (question_octets (Some q)) bytes 12 after → OneQuestionAt bytes q after
one_written q bytes after is s =
    let name = name_octets q.name in
    let place = 12 + length name in
    let long : 0 < length (question_octets (Some q)) = omega (arith, ap length (question_parts q), length-append name (numbers q), length-append (number_octets 2 q.qtype) (number_octets 2 q.qclass), length-number_octets 2 q.qtype) in
    let both = stands_parts name (numbers q) bytes 12 place after refl (subst (λ (l : List ℕ). Stands l bytes 12 after) (question_parts q) s) in
    let read : name_at bytes 12 ≡ Ok (q.name, place) = name_written q.name bytes 12 place is.is_name both.0 in
    record {
      place = place;
      name = subst (λ (o : NameOutcome). NameAt bytes 12 o) read (name_stands bytes 12);
      numbers = both.1;
      inside = stands_within (question_octets (Some q)) bytes 12 after long s;
      type_fits = is.type_fits;
      class_fits = is.class_fits;
    }

question_written : (q : Option Question) (bytes : List ℕ) (after : ℕ) → IfSome q IsQuestion → Stands (question_octets q) bytes 12 after → QuestionAt (question_count q) bytes q after
unfolding question_octets
question_written None bytes after is s = (refl, omega (arith, s.ends))
question_written (Some q) bytes after is s = (refl, one_written q bytes after is s)

pub questions_written : (q : Option Question) (bytes : List ℕ) (after : ℕ) → IfSome q IsQuestion → Stands (question_octets q) bytes 12 after → questions_at (question_count q) bytes ≡ Ok (q, after)
questions_written q bytes after is s = questions_only (question_count q) bytes q after (question_written q bytes after is s)
