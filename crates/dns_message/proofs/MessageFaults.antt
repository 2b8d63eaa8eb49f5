-- The fault of a message is told exactly where the rules of the grammar show it.
use Rattle.std.proofs.Common.{◌≡◌, ℕ, zero, suc, ◌+◌, ◌<◌, ◌≤◌, ◌⊎◌, inl, inr, true, false, cond, eqb, ltb, List, [], ◌∷◌, ◌++◌, length, drop, Option, None, Result, Ok, Err, refl, sym, ap, subst, ◌∙◌, append_assoc, arith, length-append}
use Rattle.std.specs.List.{filter}
use Rattle.std.proofs.lemmas.Bool.{cond_both, eqb-true, eqb-false, ltb-true, ltb-false, lt-ltb, le-ltb, ne_eqb}
use Rattle.std.proofs.lemmas.List.{append-nil, drop_at}
use Rattle.dns_name.specs.Reading as reading
use Rattle.dns_name.specs.Reading.{◌>>=◌, name_at}
use Rattle.dns_record.specs.declared.fault.RecordFault.{RecordFault}
use Rattle.dns_record.specs.Faults.{RecordShows}
use Rattle.dns_record.specs.Number.{number_at, AreOctets}
use Rattle.dns_record.specs.Reading.{record_at}
use Rattle.dns_record.specs.Record.{PlainRecord}
use Rattle.dns_name.proofs.Binding.{bind_err, err_is}
use Rattle.dns_record.proofs.RecordFaults.{record_shows, record_fails}
use Rattle.dns_record.proofs.RecordGrammar.{record_stands, record_only}
use Rattle.dns_message.specs.Becomes.{as_question, as_record}
use Rattle.dns_message.specs.declared.edns.Edns.{Edns}
use Rattle.dns_message.specs.declared.fault.MessageFault.{MessageFault}
use Rattle.dns_message.specs.declared.fault.MessageFault.TheVariants.{Short, Question as Questions, Record, Trailing, TwoOpts}
use Rattle.dns_message.specs.declared.message.Message.{Message}
use Rattle.dns_message.specs.declared.question.Question.{Question}
use Rattle.dns_message.specs.Faults.{HasNoQuestion, count_before, count_in_all, HasRecords, MessageShows}
use Rattle.dns_message.specs.Grammar.{RecordsAt, OneQuestionAt, QuestionAt}
use Rattle.dns_message.specs.Reading.{is_opt, edns_in, after_octets, question_at, questions_at, some_question, records_at, unless_trailing, sections_of, message_of}
use Rattle.dns_message.proofs.MessageReads.{at_edns, at_additional, at_authority, at_answer, at_question}
use Rattle.dns_message.proofs.QuestionGrammar.{question_only, question_reads, question_stands, questions_stand, questions_only, question_inside}
use Rattle.dns_message.proofs.RecordsGrammar.{ReadsRecords, record_from, records_stand, records_inside}

abbrev Records : Type 0
Records = List PlainRecord × ℕ

-- what is wrong with a question

abbrev IsShort : {A : Type 0} → Result A MessageFault → Type 0
IsShort (Ok x) = Unit {0}
IsShort (Err fault) = fault ≡ Short

then_short : {A B : Type 0} (r : Result A MessageFault) (f : A → Result B MessageFault) → IsShort r → ((x : A) → IsShort (f x)) → IsShort (r >>= f)
then_short (Ok x) f h g = g x
then_short (Err fault) f h g = h

name_short : (read : reading.NameOutcome) → IsShort (as_question read)
name_short (Ok x) = tt
name_short (Err fault) = refl

end_short : (bytes : List ℕ) (place count : ℕ) → IsShort (after_octets bytes place count)
end_short bytes place count = cond_both (ltb (length bytes) (place + count)) (Err Short) (Ok (place + count)) IsShort (λ t. refl) (λ t. tt)

question_short : (bytes : List ℕ) (place : ℕ) → IsShort (question_at bytes place)
unfolding question_at
question_short bytes place = then_short (as_question (name_at bytes place)) _ (name_short (name_at bytes place)) (λ name. then_short (after_octets bytes name.1 4) _ (end_short bytes name.1 4) (λ after. tt))

err_short : (r : Result (Question × ℕ) MessageFault) (fault : MessageFault) → IsShort r → r ≡ Err fault → fault ≡ Short
err_short (Ok x) fault h e = absurd cc
err_short (Err f) fault h e = sym (err_is {A = Question × ℕ} f fault e) ∙ h

no_question : (bytes : List ℕ) (fault : MessageFault) → question_at bytes 12 ≡ Err fault → (q : Question) (after : ℕ) → OneQuestionAt bytes q after → ⊥
no_question bytes fault e q after h =
    let read : question_at bytes 12 ≡ Ok (q, after) = question_only q bytes after h in
    cc

not_some : (x : Question × ℕ) (fault : MessageFault) → some_question x ≡ Err fault → ⊥
not_some x fault e = cc

one_fault : (bytes : List ℕ) (fault : MessageFault) → 12 ≤ length bytes → number_at 2 bytes 4 ≡ 1 → question_at bytes 12 >>= some_question ≡ Err fault → MessageShows bytes fault
one_fault bytes fault long one e =
    elim (bind_err (question_at bytes 12) some_question fault e) [
      | inl f ↦
          let shows : MessageShows bytes Short = inr (record { long = long; counted = one; no_question = no_question bytes fault f }) in
          subst (MessageShows bytes) (sym (err_short (question_at bytes 12) fault (question_short bytes 12) f)) shows
      | inr p ↦ absurd (not_some p.0 fault p.2)
    ]

questions_fault : (bytes : List ℕ) (fault : MessageFault) → 12 ≤ length bytes → questions_at (number_at 2 bytes 4) bytes ≡ Err fault → MessageShows bytes fault
unfolding questions_at
questions_fault bytes fault long =
    let count = number_at 2 bytes 4 in
    let one = question_at bytes 12 >>= some_question in
    cond_both (eqb count 0) (Ok (None, 12)) (cond (eqb count 1) one (Err Questions)) (λ (r : Result (Option Question × ℕ) MessageFault). r ≡ Err fault → MessageShows bytes fault)
    (λ t e. absurd cc)
    (λ t.
    cond_both (eqb count 1) one (Err Questions) (λ (r : Result (Option Question × ℕ) MessageFault). r ≡ Err fault → MessageShows bytes fault)
    (λ u e. one_fault bytes fault long (eqb-true count 1 u) e)
    (λ u e.
    let a = eqb-false count 0 t in
    let b = eqb-false count 1 u in
    let shows : MessageShows bytes Questions = (long, omega arith) in
    subst (MessageShows bytes) (err_is {A = Option Question × ℕ} Questions fault e) shows))

-- what is wrong with records

record RecordFails (bytes : List ℕ) (place count : ℕ) (fault : MessageFault) : Type 0 where
  pub before : List PlainRecord
  pub middle : ℕ
  pub why : RecordFault
  pub stand : RecordsAt before bytes place middle
  pub fewer : length before < count
  pub shows : RecordShows bytes middle why
  pub is : Record why ≡ fault

record_fault : (read : Result (PlainRecord × ℕ) RecordFault) (fault : MessageFault) → as_record read ≡ Err fault → (why : RecordFault) × (read ≡ Err why) × (Record why ≡ fault)
record_fault (Ok x) fault e = absurd cc
record_fault (Err why) fault e = (why, refl, err_is {A = PlainRecord × ℕ} (Record why) fault e)

not_first : (first : PlainRecord) (others : Records) (fault : MessageFault) → (let r : Result Records MessageFault = Ok (first ∷ others.0, others.1) in r ≡ Err fault) → ⊥
not_first first others fault e = cc

records_fault : (count : ℕ) (bytes : List ℕ) (place : ℕ) (fault : MessageFault) → AreOctets bytes → records_at count bytes place ≡ Err fault → RecordFails bytes place count fault
unfolding records_at
records_fault zero bytes place fault octets e = absurd cc
records_fault (suc count) bytes place fault octets e =
    elim (bind_err (as_record (record_at bytes place)) (λ first. records_at count bytes first.1 >>= λ others. Ok (first.0 ∷ others.0, others.1)) fault e) [
      | inl f ↦
          let why = record_fault (record_at bytes place) fault f in
          record { before = []; middle = place; why = why.0; stand = refl; fewer = omega arith; shows = record_shows bytes place why.0 octets why.1; is = why.2 }
      | inr p ↦
          let first = p.0 in
          let one = record_stands first.0 bytes place first.1 octets (record_from (record_at bytes place) first p.1) in
          elim (bind_err (records_at count bytes first.1) (λ others. Ok (first.0 ∷ others.0, others.1)) fault p.2) [
            | inl f ↦
                let h = records_fault count bytes first.1 fault octets f in
                record { before = first.0 ∷ h.before; middle = h.middle; why = h.why; stand = (first.1, one, h.stand); fewer = omega (arith, h.fewer); shows = h.shows; is = h.is }
            | inr q ↦ absurd (not_first first.0 q.0 fault q.2)
          ]
    ]

records_append : (xs ys : List PlainRecord) (bytes : List ℕ) (place middle after : ℕ) → RecordsAt xs bytes place middle → RecordsAt ys bytes middle after → RecordsAt (xs ++ ys) bytes place after
records_append [] ys bytes place middle after a b = subst (λ (n : ℕ). RecordsAt ys bytes n after) a b
records_append (x ∷ xs) ys bytes place middle after a b = (a.0, a.1, records_append xs ys bytes a.0 middle after a.2 b)

-- the question and some records stand, and what is told behind them
faulty : (bytes : List ℕ) (question : Option Question) (question_end : ℕ) (records : List PlainRecord) (place count : ℕ) (fault : MessageFault) → 12 ≤ length bytes → QuestionAt (number_at 2 bytes 4) bytes question question_end
    → RecordsAt records bytes question_end place → RecordFails bytes place count fault → length records + count ≤ count_in_all bytes → MessageShows bytes fault
faulty bytes question question_end records place count fault long asked stand h room =
    let shows : MessageShows bytes (Record h.why) = record {
      before = records ++ h.before;
      place = h.middle;
      stand = record { long = long; question = question; question_end = question_end; asked = asked; stand = records_append records h.before bytes question_end place h.middle stand h.stand };
      counted = omega (arith, room, h.fewer, length-append records h.before);
      shows = h.shows;
    } in
    subst (MessageShows bytes) h.is shows

-- what is wrong behind the records

ended_fault : (bytes : List ℕ) (place : ℕ) (rest : Result (Option Edns) MessageFault) (fault : MessageFault) → unless_trailing bytes place rest ≡ Err fault → ((place < length bytes) × (Trailing ≡ fault)) ⊎ ((length bytes ≤ place) × (rest ≡ Err fault))
ended_fault bytes place rest fault =
    cond_both (ltb place (length bytes)) (Err Trailing) rest (λ (r : Result (Option Edns) MessageFault). r ≡ Err fault → ((place < length bytes) × (Trailing ≡ fault)) ⊎ ((length bytes ≤ place) × (rest ≡ Err fault)))
    (λ t e. inl (ltb-true place (length bytes) t, err_is {A = Option Edns} Trailing fault e))
    (λ t e. inr (ltb-false place (length bytes) t, e))

edns_fault : (opts : List PlainRecord) (fault : MessageFault) → edns_in opts ≡ Err fault → (1 < length opts) × (TwoOpts ≡ fault)
edns_fault [] fault e = absurd cc
edns_fault (opt ∷ []) fault e = absurd cc
edns_fault (opt ∷ other ∷ opts) fault e = (omega arith, err_is {A = Option Edns} TwoOpts fault e)

not_whole : (bytes : List ℕ) (question : Option Question × ℕ) (answer authority additional : Records) (edns : Option Edns) (fault : MessageFault) → at_edns bytes question answer authority additional edns ≡ Err fault → ⊥
not_whole bytes question answer authority additional edns fault e = cc

-- all sections, one behind another
record Sections (bytes : List ℕ) (question : Option Question × ℕ) (answer authority additional : Records) : Type 0 where
  pub long : 12 ≤ length bytes
  pub asked : QuestionAt (number_at 2 bytes 4) bytes question.0 question.1
  pub answer_stands : RecordsAt answer.0 bytes question.1 answer.1
  pub authority_stands : RecordsAt authority.0 bytes answer.1 authority.1
  pub additional_stands : RecordsAt additional.0 bytes authority.1 additional.1
  pub answer_counted : length answer.0 ≡ number_at 2 bytes 6
  pub authority_counted : length authority.0 ≡ number_at 2 bytes 8
  pub additional_counted : length additional.0 ≡ number_at 2 bytes 10

abbrev in_all : Records → Records → Records → List PlainRecord
in_all answer authority additional = (answer.0 ++ authority.0) ++ additional.0

all_stand : (bytes : List ℕ) (question : Option Question × ℕ) (answer authority additional : Records) → Sections bytes question answer authority additional → HasRecords bytes (in_all answer authority additional) additional.1
all_stand bytes question answer authority additional h =
    let two = records_append answer.0 authority.0 bytes question.1 answer.1 authority.1 h.answer_stands h.authority_stands in
    record { long = h.long; question = question.0; question_end = question.1; asked = h.asked; stand = records_append (answer.0 ++ authority.0) additional.0 bytes question.1 authority.1 additional.1 two h.additional_stands }

all_counted : (bytes : List ℕ) (question : Option Question × ℕ) (answer authority additional : Records) → Sections bytes question answer authority additional → length (in_all answer authority additional) ≡ count_in_all bytes
all_counted bytes question answer authority additional h =
    omega (arith, h.answer_counted, h.authority_counted, h.additional_counted, length-append (answer.0 ++ authority.0) additional.0, length-append answer.0 authority.0)

two_opts : (bytes : List ℕ) (question : Option Question × ℕ) (answer authority additional : Records) → Sections bytes question answer authority additional → length bytes ≤ additional.1 → 1 < length (filter is_opt additional.0) → MessageShows bytes TwoOpts
two_opts bytes question answer authority additional h end two =
    let before = answer.0 ++ authority.0 in
    let count : length before ≡ count_before bytes = omega (arith, h.answer_counted, h.authority_counted, length-append answer.0 authority.0) in
    let rest : drop (count_before bytes) (before ++ additional.0) ≡ additional.0 = drop_at before additional.0 (count_before bytes) count in
    let in1 = question_inside (number_at 2 bytes 4) bytes question.0 question.1 h.long h.asked in
    let in2 = records_inside answer.0 bytes question.1 answer.1 in1 h.answer_stands in
    let in3 = records_inside authority.0 bytes answer.1 authority.1 in2 h.authority_stands in
    let in4 : additional.1 ≤ length bytes = records_inside additional.0 bytes authority.1 additional.1 in3 h.additional_stands in
    record {
      records = in_all answer authority additional;
      stand = subst (HasRecords bytes (in_all answer authority additional)) (omega arith) (all_stand bytes question answer authority additional h);
      counted = all_counted bytes question answer authority additional h;
      two = subst (λ (rs : List PlainRecord). 1 < length (filter is_opt rs)) (sym rest) two;
    }

behind_additional : (bytes : List ℕ) (question : Option Question × ℕ) (answer authority additional : Records) (fault : MessageFault) → Sections bytes question answer authority additional → at_additional bytes question answer authority additional ≡ Err fault → MessageShows bytes fault
behind_additional bytes question answer authority additional fault h e =
    let opts = filter is_opt additional.0 in
    elim (bind_err (unless_trailing bytes additional.1 (edns_in opts)) (at_edns bytes question answer authority additional) fault e) [
      | inl f ↦ elim (ended_fault bytes additional.1 (edns_in opts) fault f) [
        | inl more ↦
            let shows : MessageShows bytes Trailing = record { records = in_all answer authority additional; after = additional.1; stand = all_stand bytes question answer authority additional h; counted = all_counted bytes question answer authority additional h; more = more.0 } in
            subst (MessageShows bytes) more.1 shows
        | inr rest ↦
            let two = edns_fault opts fault rest.1 in
            subst (MessageShows bytes) two.1 (two_opts bytes question answer authority additional h rest.0 two.0)
      ]
      | inr p ↦ absurd (not_whole bytes question answer authority additional p.0 fault p.2)
    ]

behind_authority : (bytes : List ℕ) (question : Option Question × ℕ) (answer authority : Records) (fault : MessageFault) → AreOctets bytes → 12 ≤ length bytes → QuestionAt (number_at 2 bytes 4) bytes question.0 question.1
    → ReadsRecords (number_at 2 bytes 6) bytes question.1 answer → ReadsRecords (number_at 2 bytes 8) bytes answer.1 authority → at_authority bytes question answer authority ≡ Err fault → MessageShows bytes fault
behind_authority bytes question answer authority fault octets long asked a b e =
    let count = number_at 2 bytes 10 in
    elim (bind_err (records_at count bytes authority.1) (at_additional bytes question answer authority) fault e) [
      | inl f ↦ faulty bytes question.0 question.1 (answer.0 ++ authority.0) authority.1 count fault long asked (records_append answer.0 authority.0 bytes question.1 answer.1 authority.1 a.stand b.stand) (records_fault count bytes authority.1 fault octets f)
          (omega (arith, a.counted, b.counted, length-append answer.0 authority.0))
      | inr p ↦
          let c = records_stand count bytes authority.1 p.0 octets p.1 in
          let sections : Sections bytes question answer authority p.0 = record { long = long; asked = asked; answer_stands = a.stand; authority_stands = b.stand; additional_stands = c.stand; answer_counted = a.counted; authority_counted = b.counted; additional_counted = c.counted } in
          behind_additional bytes question answer authority p.0 fault sections p.2
    ]

behind_answer : (bytes : List ℕ) (question : Option Question × ℕ) (answer : Records) (fault : MessageFault) → AreOctets bytes → 12 ≤ length bytes → QuestionAt (number_at 2 bytes 4) bytes question.0 question.1
    → ReadsRecords (number_at 2 bytes 6) bytes question.1 answer → at_answer bytes question answer ≡ Err fault → MessageShows bytes fault
behind_answer bytes question answer fault octets long asked a e =
    let count = number_at 2 bytes 8 in
    elim (bind_err (records_at count bytes answer.1) (at_authority bytes question answer) fault e) [
      | inl f ↦ faulty bytes question.0 question.1 answer.0 answer.1 count fault long asked a.stand (records_fault count bytes answer.1 fault octets f) (omega (arith, a.counted))
      | inr p ↦ behind_authority bytes question answer p.0 fault octets long asked a (records_stand count bytes answer.1 p.0 octets p.1) p.2
    ]

behind_question : (bytes : List ℕ) (question : Option Question × ℕ) (fault : MessageFault) → AreOctets bytes → 12 ≤ length bytes → QuestionAt (number_at 2 bytes 4) bytes question.0 question.1 → at_question bytes question ≡ Err fault → MessageShows bytes fault
behind_question bytes question fault octets long asked e =
    let count = number_at 2 bytes 6 in
    elim (bind_err (records_at count bytes question.1) (at_answer bytes question) fault e) [
      | inl f ↦ faulty bytes question.0 question.1 [] question.1 count fault long asked refl (records_fault count bytes question.1 fault octets f) (omega arith)
      | inr p ↦ behind_answer bytes question p.0 fault octets long asked (records_stand count bytes question.1 p.0 octets p.1) p.2
    ]

sections_fault : (bytes : List ℕ) (fault : MessageFault) → AreOctets bytes → 12 ≤ length bytes → sections_of bytes ≡ Err fault → MessageShows bytes fault
unfolding sections_of
sections_fault bytes fault octets long e =
    let count = number_at 2 bytes 4 in
    elim (bind_err (questions_at count bytes) (at_question bytes) fault e) [
      | inl f ↦ questions_fault bytes fault long f
      | inr p ↦ behind_question bytes p.0 fault octets long (questions_stand count bytes p.0 octets p.1) p.2
    ]

-- the fault that is told is shown by the rules
pub message_shows : (bytes : List ℕ) (fault : MessageFault) → AreOctets bytes → message_of bytes ≡ Err fault → MessageShows bytes fault
unfolding message_of
message_shows bytes fault octets =
    cond_both (ltb (length bytes) 12) (Err Short) (sections_of bytes) (λ (r : Result Message MessageFault). r ≡ Err fault → MessageShows bytes fault)
    (λ t e.
    let shows : MessageShows bytes Short = inl (ltb-true (length bytes) 12 t) in
    subst (MessageShows bytes) (err_is {A = Message} Short fault e) shows)
    (λ t e. sections_fault bytes fault octets (ltb-false (length bytes) 12 t) e)

-- from the rules to what is told

-- so many records are read, or the faulty one behind those that stand is among them
record ReadsBefore (bytes : List ℕ) (place count : ℕ) (before : List PlainRecord) (middle : ℕ) : Type 0 where
  pub read : Records
  pub rest : List PlainRecord
  pub is : records_at count bytes place ≡ Ok read
  pub stand : RecordsAt rest bytes read.1 middle
  pub left : count + length rest ≡ length before

reads_or_fails : (count : ℕ) (bytes : List ℕ) (place : ℕ) (before : List PlainRecord) (middle : ℕ) (why : RecordFault) → RecordsAt before bytes place middle → RecordShows bytes middle why
    → (records_at count bytes place ≡ Err (Record why)) ⊎ ReadsBefore bytes place count before middle
unfolding records_at
reads_or_fails zero bytes place before middle why stand shows = inr (record { read = ([], place); rest = before; is = refl; stand = stand; left = omega arith })
reads_or_fails (suc count) bytes place [] middle why stand shows =
    let e : record_at bytes place ≡ Err why = record_fails bytes place why (subst (λ (n : ℕ). RecordShows bytes n why) stand shows) in
    inl (rw e refl)
reads_or_fails (suc count) bytes place (r ∷ rs) middle why stand shows =
    let first : record_at bytes place ≡ Ok (r, stand.0) = record_only r bytes place stand.0 stand.1 in
    elim (reads_or_fails count bytes stand.0 rs middle why stand.2 shows) [
      | inl f ↦ inl (rw (first, f) refl)
      | inr h ↦
          let e : records_at count bytes stand.0 ≡ Ok h.read = h.is in
          inr (record { read = (r ∷ h.read.0, h.read.1); rest = h.rest; is = rw (first, e) refl; stand = h.stand; left = omega (arith, h.left) })
    ]

third_fails : (bytes : List ℕ) (place count : ℕ) (before : List PlainRecord) (middle : ℕ) (why : RecordFault) → RecordsAt before bytes place middle → RecordShows bytes middle why → length before < count → records_at count bytes place ≡ Err (Record why)
third_fails bytes place count before middle why stand shows fewer =
    elim (reads_or_fails count bytes place before middle why stand shows) [
      | inl f ↦ f
      | inr h ↦ absurd (too_many (length h.rest) h.left)
    ]
  where
    too_many : (n : ℕ) → count + n ≡ length before → ⊥
    too_many n e = omega (arith, fewer)

abbrev Behind : Type 0
Behind = Records → Records → Records → Result Message MessageFault

-- the three sections, and what follows
abbrev three : List ℕ → ℕ → ℕ → ℕ → ℕ → Behind → Result Message MessageFault
three bytes place a b c rest = records_at a bytes place >>= λ x. records_at b bytes x.1 >>= λ y. records_at c bytes y.1 >>= λ z. rest x y z

three_fail : (bytes : List ℕ) (place a b c : ℕ) (rest : Behind) (before : List PlainRecord) (middle : ℕ) (why : RecordFault) → RecordsAt before bytes place middle → RecordShows bytes middle why → length before < a + b + c
    → three bytes place a b c rest ≡ Err (Record why)
three_fail bytes place a b c rest before middle why stand shows fewer =
    elim (reads_or_fails a bytes place before middle why stand shows) [
      | inl f ↦ first f
      | inr h ↦
          elim (reads_or_fails b bytes h.read.1 h.rest middle why h.stand shows) [
            | inl f ↦ second h f
            | inr k ↦ third h k (third_fails bytes k.read.1 c k.rest middle why k.stand shows (omega (arith, h.left, k.left, fewer)))
          ]
    ]
  where
    first : records_at a bytes place ≡ Err (Record why) → three bytes place a b c rest ≡ Err (Record why)
    first f = rw f refl

    second : (h : ReadsBefore bytes place a before middle) → records_at b bytes h.read.1 ≡ Err (Record why) → three bytes place a b c rest ≡ Err (Record why)
    second h f =
        let e : records_at a bytes place ≡ Ok h.read = h.is in
        rw (e, f) refl

    third : (h : ReadsBefore bytes place a before middle) (k : ReadsBefore bytes h.read.1 b h.rest middle) → records_at c bytes k.read.1 ≡ Err (Record why) → three bytes place a b c rest ≡ Err (Record why)
    third h k f =
        let e : records_at a bytes place ≡ Ok h.read = h.is in
        let g : records_at b bytes h.read.1 ≡ Ok k.read = k.is in
        rw (e, g, f) refl

-- so many records are read of those that stand
record ReadsFirst (bytes : List ℕ) (place count : ℕ) (records : List PlainRecord) (after : ℕ) : Type 0 where
  pub read : Records
  pub rest : List PlainRecord
  pub is : records_at count bytes place ≡ Ok read
  pub stand : RecordsAt rest bytes read.1 after
  pub all : read.0 ++ rest ≡ records
  pub counted : length read.0 ≡ count

reads_first : (count : ℕ) (bytes : List ℕ) (place : ℕ) (records : List PlainRecord) (after : ℕ) → RecordsAt records bytes place after → count ≤ length records → ReadsFirst bytes place count records after
unfolding records_at
reads_first zero bytes place records after stand room = record { read = ([], place); rest = records; is = refl; stand = stand; all = refl; counted = refl }
reads_first (suc count) bytes place [] after stand room = absurd (omega arith)
reads_first (suc count) bytes place (r ∷ rs) after stand room =
    let first : record_at bytes place ≡ Ok (r, stand.0) = record_only r bytes place stand.0 stand.1 in
    let h = reads_first count bytes stand.0 rs after stand.2 (omega arith) in
    let e : records_at count bytes stand.0 ≡ Ok h.read = h.is in
    record { read = (r ∷ h.read.0, h.read.1); rest = h.rest; is = rw (first, e) refl; stand = h.stand; all = ap (λ (l : List PlainRecord). r ∷ l) h.all; counted = ap suc h.counted }

-- the three sections of records that stand
record ReadsThree (bytes : List ℕ) (place a b c : ℕ) (records : List PlainRecord) (after : ℕ) : Type 0 where
  pub answer : Records
  pub authority : Records
  pub additional : Records
  pub answer_is : records_at a bytes place ≡ Ok answer
  pub authority_is : records_at b bytes answer.1 ≡ Ok authority
  pub additional_is : records_at c bytes authority.1 ≡ Ok additional
  pub end : additional.1 ≡ after
  pub last : additional.0 ≡ drop (a + b) records

none_left : (bytes : List ℕ) (rest : List PlainRecord) (place after : ℕ) → length rest ≡ 0 → RecordsAt rest bytes place after → (rest ≡ []) × (after ≡ place)
none_left bytes [] place after e h = (refl, h)
none_left bytes (r ∷ rs) place after e h = absurd (omega arith)

reads_three : (bytes : List ℕ) (place a b c : ℕ) (records : List PlainRecord) (after : ℕ) → RecordsAt records bytes place after → length records ≡ a + b + c → ReadsThree bytes place a b c records after
reads_three bytes place a b c records after stand count =
    let x = reads_first a bytes place records after stand (omega arith) in
    let y = reads_first b bytes x.read.1 x.rest after x.stand (omega (arith, count, x.counted, ap length x.all, length-append x.read.0 x.rest)) in
    let z = reads_first c bytes y.read.1 y.rest after y.stand (omega (arith, count, x.counted, ap length x.all, length-append x.read.0 x.rest, y.counted, ap length y.all, length-append y.read.0 y.rest)) in
    let none = none_left bytes z.rest z.read.1 after (omega (arith, count, x.counted, ap length x.all, length-append x.read.0 x.rest, y.counted, ap length y.all, length-append y.read.0 y.rest, z.counted, ap length z.all, length-append z.read.0 z.rest)) z.stand in
    let last : z.read.0 ≡ y.rest = sym (append-nil z.read.0) ∙ ap (λ (l : List PlainRecord). z.read.0 ++ l) (sym none.0) ∙ z.all in
    let front = x.read.0 ++ y.read.0 in
    let whole : front ++ y.rest ≡ records = append_assoc x.read.0 y.read.0 y.rest ∙ ap (λ (l : List PlainRecord). x.read.0 ++ l) y.all ∙ x.all in
    let len : length front ≡ a + b = omega (arith, x.counted, y.counted, length-append x.read.0 y.read.0) in
    record {
      answer = x.read;
      authority = y.read;
      additional = z.read;
      answer_is = x.is;
      authority_is = y.is;
      additional_is = z.is;
      end = sym none.1;
      last = last ∙ sym (drop_at front y.rest (a + b) len) ∙ ap (drop (a + b)) whole;
    }

-- what follows the question
abbrev behind : List ℕ → Option Question × ℕ → Behind
behind bytes question x y z = at_additional bytes question x y z

sections_fail : (bytes : List ℕ) (question : Option Question) (question_end : ℕ) (fault : MessageFault) → QuestionAt (number_at 2 bytes 4) bytes question question_end
    → three bytes question_end (number_at 2 bytes 6) (number_at 2 bytes 8) (number_at 2 bytes 10) (behind bytes (question, question_end)) ≡ Err fault → sections_of bytes ≡ Err fault
unfolding sections_of
sections_fail bytes question question_end fault asked e =
    let q : questions_at (number_at 2 bytes 4) bytes ≡ Ok (question, question_end) = questions_only (number_at 2 bytes 4) bytes question question_end asked in
    rw q e

three_end : (bytes : List ℕ) (place a b c : ℕ) (rest : Behind) (records : List PlainRecord) (after : ℕ) (fault : MessageFault) (h : ReadsThree bytes place a b c records after) → rest h.answer h.authority h.additional ≡ Err fault → three bytes place a b c rest ≡ Err fault
three_end bytes place a b c rest records after fault h e =
    let e1 : records_at a bytes place ≡ Ok h.answer = h.answer_is in
    let e2 : records_at b bytes h.answer.1 ≡ Ok h.authority = h.authority_is in
    let e3 : records_at c bytes h.authority.1 ≡ Ok h.additional = h.additional_is in
    rw (e1, e2, e3) e

long_fails : (bytes : List ℕ) (fault : MessageFault) → 12 ≤ length bytes → sections_of bytes ≡ Err fault → message_of bytes ≡ Err fault
unfolding message_of
long_fails bytes fault long e =
    let t : ltb (length bytes) 12 ≡ false = le-ltb (length bytes) 12 long in
    rw t e

short_fails : (bytes : List ℕ) → length bytes < 12 → message_of bytes ≡ Err Short
unfolding message_of
short_fails bytes h =
    let t : ltb (length bytes) 12 ≡ true = lt-ltb (length bytes) 12 h in
    rw t refl

at_questions : (bytes : List ℕ) (fault : MessageFault) → questions_at (number_at 2 bytes 4) bytes ≡ Err fault → sections_of bytes ≡ Err fault
unfolding sections_of
at_questions bytes fault e = rw e refl

no_question_told : (bytes : List ℕ) (r : Result (Question × ℕ) MessageFault) → IsShort r → ((q : Question) (after : ℕ) → r ≡ Ok (q, after) → ⊥) → r ≡ Err Short
no_question_told bytes (Ok x) h none = absurd (none x.0 x.1 refl)
no_question_told bytes (Err fault) h none = ap (λ (f : MessageFault). Err f) h

one_question_told : (bytes : List ℕ) → AreOctets bytes → HasNoQuestion bytes → questions_at (number_at 2 bytes 4) bytes ≡ Err Short
unfolding questions_at
one_question_told bytes octets h =
    let told : question_at bytes 12 ≡ Err Short = no_question_told bytes (question_at bytes 12) (question_short bytes 12) (λ q after e. h.no_question q after (question_stands q bytes after octets (question_reads bytes 12 (q, after) e))) in
    rw (h.counted, told) refl

more_questions : (bytes : List ℕ) → 1 < number_at 2 bytes 4 → questions_at (number_at 2 bytes 4) bytes ≡ Err Questions
unfolding questions_at
more_questions bytes h =
    let count = number_at 2 bytes 4 in
    let a : eqb count 0 ≡ false = ne_eqb count 0 (λ z. omega arith) in
    let b : eqb count 1 ≡ false = ne_eqb count 1 (λ z. omega arith) in
    rw (a, b) refl

two_told : (opts : List PlainRecord) → 1 < length opts → edns_in opts ≡ Err TwoOpts
two_told [] h = absurd (omega arith)
two_told (opt ∷ []) h = absurd (omega arith)
two_told (opt ∷ other ∷ opts) h = refl

-- the fault that the rules show is told
pub message_fails : (bytes : List ℕ) (fault : MessageFault) → AreOctets bytes → MessageShows bytes fault → message_of bytes ≡ Err fault
message_fails bytes Short octets (inl h) = short_fails bytes h
message_fails bytes Short octets (inr h) = long_fails bytes Short h.long (at_questions bytes Short (one_question_told bytes octets h))
message_fails bytes Questions octets h = long_fails bytes Questions h.0 (at_questions bytes Questions (more_questions bytes h.1))
message_fails bytes (Record why) octets h =
    let s = h.stand in
    long_fails bytes (Record why) s.long (sections_fail bytes s.question s.question_end (Record why) s.asked (three_fail bytes s.question_end (number_at 2 bytes 6) (number_at 2 bytes 8) (number_at 2 bytes 10) (behind bytes (s.question, s.question_end)) h.before h.place why s.stand h.shows h.counted))
message_fails bytes Trailing octets h =
    let s = h.stand in
    let r = reads_three bytes s.question_end (number_at 2 bytes 6) (number_at 2 bytes 8) (number_at 2 bytes 10) h.records h.after s.stand h.counted in
    let t : ltb r.additional.1 (length bytes) ≡ true = lt-ltb r.additional.1 (length bytes) (omega (arith, r.end, h.more)) in
    let e : behind bytes (s.question, s.question_end) r.answer r.authority r.additional ≡ Err Trailing = rw t refl in
    long_fails bytes Trailing s.long (sections_fail bytes s.question s.question_end Trailing s.asked (three_end bytes s.question_end (number_at 2 bytes 6) (number_at 2 bytes 8) (number_at 2 bytes 10) (behind bytes (s.question, s.question_end)) h.records h.after Trailing r e))
message_fails bytes TwoOpts octets h =
    let s = h.stand in
    let r = reads_three bytes s.question_end (number_at 2 bytes 6) (number_at 2 bytes 8) (number_at 2 bytes 10) h.records (length bytes) s.stand h.counted in
    let t : ltb r.additional.1 (length bytes) ≡ false = le-ltb r.additional.1 (length bytes) (omega (arith, r.end)) in
    let two : edns_in (filter is_opt r.additional.0) ≡ Err TwoOpts = two_told (filter is_opt r.additional.0) (subst (λ (rs : List PlainRecord). 1 < length (filter is_opt rs)) (sym r.last) h.two) in
    let e : behind bytes (s.question, s.question_end) r.answer r.authority r.additional ≡ Err TwoOpts = rw (t, two) refl in
    long_fails bytes TwoOpts s.long (sections_fail bytes s.question s.question_end TwoOpts s.asked (three_end bytes s.question_end (number_at 2 bytes 6) (number_at 2 bytes 8) (number_at 2 bytes 10) (behind bytes (s.question, s.question_end)) h.records (length bytes) TwoOpts r e))
