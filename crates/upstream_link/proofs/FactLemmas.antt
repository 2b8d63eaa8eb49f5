-- Facts about distinct questions, and what is known where more facts come behind.
use Rattle.std.proofs.Common.{◌≡◌, ℕ, zero, suc, ◌<◌, Bool, true, false, cond, ◌&&◌, List, [], ◌∷◌, ◌++◌, length, take, Option, Some, None, is_some, refl, sym, ap, ◌∙◌, arith, true≢false, subst}
use Rattle.std.specs.List.{find, flat_map, list_all}
use Rattle.std.specs.Option.{option_map, option_or, option_to_list}
use Rattle.std.specs.Prelude.{IsTrue, IfSome}
use Rattle.std.proofs.lemmas.Cmp.{lists_equiv, nat_eq_equiv, nat_list_eq_equiv}
use Rattle.std.proofs.lemmas.List.{append-nil, length-take, length_push}
use Rattle.std.proofs.lemmas.List.Folds.{find-append}
use Rattle.dns_name.specs.Labels.{lowered}
use Rattle.dns_message.specs.declared.question.Question.{Question}
use Rattle.upstream_link.specs.declared.fact.Fact.{Fact}
use Rattle.upstream_link.specs.declared.facts.TheConstants.{FACT_LIMIT}
use Rattle.upstream_link.specs.Fact.{same_question}
use Rattle.upstream_link.specs.Facts.{PlainFacts, AreDistinct, AreFacts, AreKept, Extends, IsKept, fact_about, is_known, records_of, records_about}
use Rattle.upstream_link.specs.Question.{question_of}
use Rattle.upstream_link.specs.Servers.{ancestors, servers, servers_at, servers_in}

abbrev Entry : Type 0
Entry = Question × Fact

abbrev entry_of : PlainFacts → Question → Option Entry
entry_of facts question = find (λ e. same_question e.0 question) facts

abbrev fact_in_entry : Option Entry → Option Fact
fact_in_entry found = option_map (λ e. e.1) found

-- ---- distinct questions

pub same_question-sym : (a b : Question) → same_question a b ≡ same_question b a
same_question-sym a b i = (lists_equiv nat_list_eq_equiv).symm (lowered a.name) (lowered b.name) i && (nat_eq_equiv.symm a.qtype b.qtype i && nat_eq_equiv.symm a.qclass b.qclass i)

-- where nothing is known, the first fact is about another question
none_by : (b : Bool) (x : Entry) (rest : Option Entry) → fact_in_entry (cond b (Some x) rest) ≡ None → (b ≡ false) × (fact_in_entry rest ≡ None)
none_by true x rest n = absurd cc
none_by false x rest n = (refl, n)

none_from : (b : Bool) (x : Entry) (rest : Option Entry) → b ≡ false → fact_in_entry rest ≡ None → fact_in_entry (cond b (Some x) rest) ≡ None
none_from true x rest t n = absurd (true≢false t)
none_from false x rest t n = n

none_behind : (facts : PlainFacts) (e : Entry) (q : Question) → fact_about facts q ≡ None → same_question e.0 q ≡ false → fact_about (facts ++ e ∷ []) q ≡ None
none_behind [] e q n t = none_from (same_question e.0 q) e None t refl
none_behind (x ∷ xs) e q n t =
    let apart = none_by (same_question x.0 q) x (entry_of xs q) n in
    none_from (same_question x.0 q) x (entry_of (xs ++ e ∷ []) q) apart.0 (none_behind xs e q apart.1 t)

none_without : (facts : PlainFacts) (e : Entry) (q : Question) → fact_about (facts ++ e ∷ []) q ≡ None → (fact_about facts q ≡ None) × (same_question e.0 q ≡ false)
none_without [] e q n = (refl, (none_by (same_question e.0 q) e None n).0)
none_without (x ∷ xs) e q n =
    let apart = none_by (same_question x.0 q) x (entry_of (xs ++ e ∷ []) q) n in
    let rest = none_without xs e q apart.1 in
    (none_from (same_question x.0 q) x (entry_of xs q) apart.0 rest.0, rest.1)

distinct_push : (facts : PlainFacts) (e : Entry) → AreDistinct facts → fact_about facts e.0 ≡ None → AreDistinct (facts ++ e ∷ [])
distinct_push [] e d n = (refl, tt)
distinct_push (x ∷ xs) e d n =
    let apart = none_by (same_question x.0 e.0) x (entry_of xs e.0) n in
    (none_behind xs e x.0 d.0 (same_question-sym e.0 x.0 ∙ apart.0), distinct_push xs e d.1 apart.1)

distinct_pop : (facts : PlainFacts) (e : Entry) → AreDistinct (facts ++ e ∷ []) → AreDistinct facts × (fact_about facts e.0 ≡ None)
distinct_pop [] e d = (tt, refl)
distinct_pop (x ∷ xs) e d =
    let rest = distinct_pop xs e d.1 in
    let apart = none_without xs e x.0 d.0 in
    ((apart.0, rest.0), none_from (same_question x.0 e.0) x (entry_of xs e.0) (same_question-sym x.0 e.0 ∙ apart.1) rest.1)

-- ---- what is kept of responses

pub kept_push : (facts : PlainFacts) (e : Entry) → AreKept facts → IsKept e.1 → AreKept (facts ++ e ∷ [])
kept_push [] e all here = (here, tt)
kept_push (x ∷ xs) e all here = (all.0, kept_push xs e all.1 here)

kept_pop : (facts : PlainFacts) (e : Entry) → AreKept (facts ++ e ∷ []) → AreKept facts
kept_pop [] e all = tt
kept_pop (x ∷ xs) e all = (all.0, kept_pop xs e all.1)

kept_taken : (n : ℕ) (facts : PlainFacts) → AreKept facts → AreKept (take n facts)
kept_taken zero facts all = tt
kept_taken (suc n) [] all = tt
kept_taken (suc n) (x ∷ xs) all = (all.0, kept_taken n xs all.1)

-- ---- what a push leaves, be there memory or not

pub facts_pushed : (facts seen longer : PlainFacts) (e : Entry) (ok : Bool) → AreFacts facts → facts ≡ seen → fact_about seen e.0 ≡ None → length seen < FACT_LIMIT → IsKept e.1 → longer ≡ cond ok (facts ++ e ∷ []) facts → AreFacts longer
facts_pushed facts seen longer e true a same n room kept is =
    subst AreFacts (sym is) (record {
      distinct = distinct_push facts e a.distinct (ap (λ (all : PlainFacts). fact_about all e.0) same ∙ n);
      few = omega (arith, length_push facts e, ap length same);
      kept = kept_push facts e a.kept kept;
    })
facts_pushed facts seen longer e false a same n room kept is = subst AreFacts (sym is) a

-- what is left when the last one was taken out, if there was one
pub facts_popped : (facts less : PlainFacts) (last : Option Entry) → AreFacts facts → facts ≡ less ++ option_to_list last → AreFacts less
facts_popped facts less None a is = subst AreFacts (is ∙ append-nil less) a
facts_popped facts less (Some e) a is =
    let b = subst AreFacts is a in
    record { distinct = (distinct_pop less e b.distinct).0; few = omega (arith, length_push less e, b.few); kept = kept_pop less e b.kept }

-- what is left of the first ones
none_taken : (n : ℕ) (facts : PlainFacts) (q : Question) → fact_about facts q ≡ None → fact_about (take n facts) q ≡ None
none_taken zero facts q none = refl
none_taken (suc n) [] q none = refl
none_taken (suc n) (x ∷ xs) q none =
    let apart = none_by (same_question x.0 q) x (entry_of xs q) none in
    none_from (same_question x.0 q) x (entry_of (take n xs) q) apart.0 (none_taken n xs q apart.1)

distinct_taken : (n : ℕ) (facts : PlainFacts) → AreDistinct facts → AreDistinct (take n facts)
distinct_taken zero facts d = tt
distinct_taken (suc n) [] d = tt
distinct_taken (suc n) (x ∷ xs) d = (none_taken n xs x.0 d.0, distinct_taken n xs d.1)

pub facts_taken : (n : ℕ) (facts : PlainFacts) → AreFacts facts → AreFacts (take n facts)
facts_taken n facts a = record {
  distinct = distinct_taken n facts a.distinct;
  few = omega (arith, length-take n facts, a.few);
  kept = kept_taken n facts a.kept;
}

pub last_is_fresh : (facts less : PlainFacts) (last : Option Entry) → AreFacts facts → facts ≡ less ++ option_to_list last → IfSome last (λ e. fact_about less e.0 ≡ None)
last_is_fresh facts less None a is = tt
last_is_fresh facts less (Some e) a is = (distinct_pop less e (subst AreFacts is a).distinct).1

-- ---- more facts behind

found_stays : (found behind : Option Entry) → IsTrue (is_some (fact_in_entry found)) → fact_in_entry (option_or found behind) ≡ fact_in_entry found
found_stays None behind known = absurd (true≢false (sym known))
found_stays (Some x) behind known = refl

pub known_stays : (facts more : PlainFacts) (question : Question) → Extends facts more → IsTrue (is_known facts question) → fact_about more question ≡ fact_about facts question
known_stays facts more question e known =
    ap (λ (all : PlainFacts). fact_about all question) e.1
    ∙ ap fact_in_entry (find-append (λ e. same_question e.0 question) facts e.0)
    ∙ found_stays (entry_of facts question) (entry_of e.0 question) known

pub fact_stays : (facts more : PlainFacts) (question : Question) (fact : Fact) → Extends facts more → fact_about facts question ≡ Some fact → fact_about more question ≡ Some fact
fact_stays facts more question fact e is = known_stays facts more question e (ap is_some is) ∙ is

pub records_stay : (facts more : PlainFacts) (name : List (List ℕ)) (qtype : ℕ) → Extends facts more → IsTrue (is_known facts (question_of name qtype)) → records_about more name qtype ≡ records_about facts name qtype
records_stay facts more name qtype e known = ap records_of (known_stays facts more (question_of name qtype) e known)

both : (a b : Bool) → IsTrue (a && b) → IsTrue a × IsTrue b
both true b t = (refl, t)
both false b t = absurd (true≢false (sym t))

owners_stay : (facts more : PlainFacts) (owners : List (List (List ℕ))) → Extends facts more → IsTrue (list_all (λ owner. is_known facts (question_of owner 2)) owners) → flat_map (servers_at more) owners ≡ flat_map (servers_at facts) owners
owners_stay facts more [] e known = refl
owners_stay facts more (owner ∷ owners) e known =
    let t = both (is_known facts (question_of owner 2)) (list_all (λ owner. is_known facts (question_of owner 2)) owners) known in
    let here = ap (servers_in owner) (records_stay facts more owner 2 e t.0) in
    let rest = owners_stay facts more owners e t.1 in
    λ i. here i ++ rest i

pub servers_stay : (facts more : PlainFacts) (name : List (List ℕ)) → Extends facts more → IsTrue (list_all (λ owner. is_known facts (question_of owner 2)) (ancestors name)) → servers more name ≡ servers facts name
servers_stay facts more name e known = owners_stay facts more (ancestors name) e known
