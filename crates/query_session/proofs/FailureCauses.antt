-- Why a query gets rcode 2, and that it does then.
use Rattle.std.proofs.Common.{◌≡◌, ◌%◌, ℕ, Bool, true, false, cond, ◌⊎◌, inl, inr, List, [], ◌∷◌, ◌++◌, Option, Some, None, refl, sym, ap, ◌∙◌, subst, arith}
use Rattle.std.specs.List.{find}
use Rattle.std.specs.Option.{option_map}
use Rattle.action_codec.specs.Local.{PlainLocal}
use Rattle.action_codec.specs.declared.action.Action.{Action}
use Rattle.action_codec.specs.declared.action.Action.TheVariants.{NxDomain, NoData, PassThru, Drop, TcpOnly, Local}
use Rattle.dns_message.specs.declared.question.Question.{Question}
use Rattle.dns_message.specs.declared.request.Query.{Query}
use Rattle.dns_record.specs.Record.{PlainRecord}
use Rattle.ip_prefix.specs.declared.Transport.{Transport}
use Rattle.ip_prefix.specs.declared.Transport.TheVariants.{Udp, Tcp}
use Rattle.upstream_link.specs.declared.fact.Fact.{Fact}
use Rattle.upstream_link.specs.declared.fact.Fact.TheVariants.{Answer, Broken}
use Rattle.upstream_link.specs.Chain.{asks_alias}
use Rattle.upstream_link.specs.Fact.{same_question}
use Rattle.upstream_link.specs.Facts.{AreKept, IsKept, PlainFacts, fact_about}
use Rattle.upstream_link.specs.Kept.{IsAnswer, PlainAnswer}
use Rattle.upstream_link.specs.Question.{question_of, main_question}
use Rattle.reply_build.specs.Reply.{ReplyOutcome, HitPlace, Sections, needs, gives, silent, alias_outcome, alias_record, by_action, by_alias, by_verdict, main_outcome, over_tcp, pass_outcome, place_of, sections, server_failure, target_outcome, truncation}
use Rattle.reply_build.specs.Target.{alias_in, target_of}
use Rattle.reply_build.specs.Verdict.{PlainVerdict, passes, fails, applies}
use Rattle.query_session.specs.Laws.{HasCause, IsBroken, LeadsTo, LetsPass, alias, no_answer, no_rule, no_target, pass_thru, tcp_only, too_long}

abbrev Name : Type 0
Name = List (List ℕ)

-- ---- an answer has another rcode

abbrev pub rcode_in : ReplyOutcome → ℕ
rcode_in (needs question) = 0
rcode_in (gives s) = s.rcode
rcode_in silent = 0

-- it is written as rcode 2
abbrev pub Fails : ReplyOutcome → Type 0
Fails outcome = rcode_in outcome % 16 ≡ 2

no_failure : (outcome : ReplyOutcome) → (rcode_in outcome ≡ 0) ⊎ (rcode_in outcome ≡ 3) → Fails outcome → ⊥
no_failure outcome (inl h) e = let zero : 0 % 16 ≡ 2 = ap (λ (n : ℕ). n % 16) (sym h) ∙ e in omega arith
no_failure outcome (inr h) e = let three : 3 % 16 ≡ 2 = ap (λ (n : ℕ). n % 16) (sym h) ∙ e in omega arith

kept_by : (fact : Fact) (rest known : Option Fact) (b : Bool) → IsKept fact → ((a : PlainAnswer) → rest ≡ Some (Answer a) → IsAnswer a) → known ≡ cond b (Some fact) rest → (a : PlainAnswer) → known ≡ Some (Answer a) → IsAnswer a
kept_by (Answer answer) rest known true k ih is a e = let same : answer ≡ a = cc in subst IsAnswer same k
kept_by (Broken why) rest known true k ih is a e = absurd cc
kept_by fact rest known false k ih is a e = ih a (sym is ∙ e)

entry_by : (e : Question × Fact) (rest : Option (Question × Fact)) (b : Bool) → option_map (λ (x : Question × Fact). x.1) (cond b (Some e) rest) ≡ cond b (Some e.1) (option_map (λ (x : Question × Fact). x.1) rest)
entry_by e rest true = refl
entry_by e rest false = refl

kept_about : (facts : PlainFacts) (question : Question) → AreKept facts → (a : PlainAnswer) → fact_about facts question ≡ Some (Answer a) → IsAnswer a
kept_about [] question k a e = absurd cc
kept_about (x ∷ facts) question k a e =
    kept_by x.1 (fact_about facts question) (fact_about (x ∷ facts) question) (same_question x.0 question) k.0 (kept_about facts question k.1)
    (entry_by x (find (λ (y : Question × Fact). same_question y.0 question) facts) (same_question x.0 question)) a e

-- ---- the answer of the upstream is to pass

pass_by : (facts : PlainFacts) (question : Question) (fact : Option Fact) → AreKept facts → fact_about facts question ≡ fact → Fails (pass_outcome question fact) → IsBroken facts question
pass_by facts question None k is e = absurd (no_failure (pass_outcome question None) (inl refl) e)
pass_by facts question (Some (Broken why)) k is e = (why, is)
pass_by facts question (Some (Answer a)) k is e = absurd (no_failure (pass_outcome question (Some (Answer a))) (kept_about facts question k a is).is_answer_rcode e)

main_broken : (query : Query) (facts : PlainFacts) → AreKept facts → Fails (main_outcome query facts) → IsBroken facts (main_question query)
main_broken query facts k e = pass_by facts (main_question query) (fact_about facts (main_question query)) k refl e

main_fails : (query : Query) (facts : PlainFacts) → IsBroken facts (main_question query) → main_outcome query facts ≡ gives server_failure
main_fails query facts b = ap (pass_outcome (main_question query)) b.1

tcp_by : (query : Query) (facts : PlainFacts) (transport : Transport) → AreKept facts → query.transport ≡ transport → Fails (cond (over_tcp transport) (main_outcome query facts) (gives truncation)) → (query.transport ≡ Tcp) × IsBroken facts (main_question query)
tcp_by query facts Tcp k is e = (is, main_broken query facts k e)
tcp_by query facts Udp k is e = absurd (no_failure (gives truncation) (inl refl) e)

-- ---- the alias of a rule

module _ (query : Query) (facts : PlainFacts) (kept : AreKept facts) (rows : List PlainLocal) (soa : PlainRecord) (before : List Name) (name : Name) where
  abbrev decided : PlainVerdict
  decided = applies (Local rows) soa before name

  abbrev place : HitPlace
  place = place_of query facts soa before name

  known_by : (ttl : ℕ) (target : Name) (fact : Option Fact) → fact_about facts (question_of target query.question.qtype) ≡ fact → Fails (alias_outcome query ttl target place fact) → IsBroken facts (question_of target query.question.qtype)
  known_by ttl target None is e = absurd (no_failure (alias_outcome query ttl target place None) (inl refl) e)
  known_by ttl target (Some (Broken why)) is e = (why, is)
  known_by ttl target (Some (Answer a)) is e =
      absurd (no_failure (alias_outcome query ttl target place (Some (Answer a))) (kept_about facts (question_of target query.question.qtype) kept a is).is_answer_rcode e)

  asked_by : (ttl : ℕ) (target : Name) (b : Bool) (s : Sections) → s.rcode ≡ 0 → asks_alias query.question.qtype ≡ b → LeadsTo decided (Some target) → Fails (cond b (gives s) (alias_outcome query ttl target place (fact_about facts (question_of target query.question.qtype)))) → HasCause query decided facts
  asked_by ttl target true s z is l e = absurd (no_failure (gives s) (inl z) e)
  asked_by ttl target false s z is l e =
      no_target target l is (known_by ttl target (fact_about facts (question_of target query.question.qtype)) refl e)

  target_by : (ttl : ℕ) (target : Option Name) → LeadsTo decided target → Fails (target_outcome query ttl place facts target) → HasCause query decided facts
  target_by ttl None l e = too_long l
  target_by ttl (Some target) l e =
      asked_by ttl target (asks_alias query.question.qtype) (sections 0 (place.kept ++ alias_record place.name ttl target ∷ []) [] (place.soa ∷ [])) refl refl l e

  alias_by : (found : Option PlainLocal) → alias_in rows ≡ found → Fails (by_alias query rows place facts found) → HasCause query decided facts
  alias_by None is e = absurd (no_failure (by_alias query rows place facts None) (inl refl) e)
  alias_by (Some row) is e = target_by row.ttl (target_of name row.rdata) (alias rows row soa before name (target_of name row.rdata) is refl) e

action_cause : (query : Query) (facts : PlainFacts) (action : Action) (soa : PlainRecord) (before : List Name) (name : Name) → AreKept facts → Fails (by_action query facts (place_of query facts soa before name) action) → HasCause query (applies action soa before name) facts
action_cause query facts NxDomain soa before name k e = absurd (no_failure (by_action query facts (place_of query facts soa before name) NxDomain) (inr refl) e)
action_cause query facts NoData soa before name k e = absurd (no_failure (by_action query facts (place_of query facts soa before name) NoData) (inl refl) e)
action_cause query facts PassThru soa before name k e = no_answer (pass_thru soa before name) (main_broken query facts k e)
action_cause query facts Drop soa before name k e = absurd (no_failure (by_action query facts (place_of query facts soa before name) Drop) (inl refl) e)
action_cause query facts TcpOnly soa before name k e =
    let both = tcp_by query facts query.transport k refl e in
    no_answer (tcp_only soa before name both.0) both.1
action_cause query facts (Local rows) soa before name k e = alias_by query facts k rows soa before name (alias_in rows) refl e

-- the rules decide it
abbrev pub IsByRules : PlainVerdict → Type 0
IsByRules passes = Unit {0}
IsByRules fails = ⊥
IsByRules (applies action soa before name) = Unit {0}

pub cause : (query : Query) (verdict : PlainVerdict) (facts : PlainFacts) → AreKept facts → IsByRules verdict → Fails (by_verdict query verdict facts) → HasCause query verdict facts
cause query passes facts k d e = no_answer no_rule (main_broken query facts k e)
cause query fails facts k d e = absurd d
cause query (applies action soa before name) facts k d e = action_cause query facts action soa before name k e

-- ---- and what each of the causes gives

passed : (query : Query) (verdict : PlainVerdict) (facts : PlainFacts) → LetsPass query verdict → by_verdict query verdict facts ≡ main_outcome query facts
passed query _ facts no_rule = refl
passed query _ facts (pass_thru soa before name) = refl
passed query _ facts (tcp_only soa before name e) = ap (λ (t : Transport). cond (over_tcp t) (main_outcome query facts) (gives truncation)) e

led : (query : Query) (verdict : PlainVerdict) (facts : PlainFacts) (target : Option Name) → LeadsTo verdict target → (ttl : ℕ) × (place : HitPlace) × (by_verdict query verdict facts ≡ target_outcome query ttl place facts target)
led query _ facts _ (alias rows row soa before name target is to) =
    let place = place_of query facts soa before name in
    (row.ttl, place, ap (by_alias query rows place facts) is ∙ ap (target_outcome query row.ttl place facts) to)

asked_as : (query : Query) (facts : PlainFacts) (ttl : ℕ) (place : HitPlace) (target : Name) → asks_alias query.question.qtype ≡ false → IsBroken facts (question_of target query.question.qtype) → target_outcome query ttl place facts (Some target) ≡ gives server_failure
asked_as query facts ttl place target asks b =
    ap (λ (t : Bool). cond t (gives (sections 0 (place.kept ++ alias_record place.name ttl target ∷ []) [] (place.soa ∷ []))) (alias_outcome query ttl target place (fact_about facts (question_of target query.question.qtype)))) asks
    ∙ ap (alias_outcome query ttl target place) b.1

pub failure : (query : Query) (verdict : PlainVerdict) (facts : PlainFacts) → HasCause query verdict facts → by_verdict query verdict facts ≡ gives server_failure
failure query verdict facts (no_answer l b) = passed query verdict facts l ∙ main_fails query facts b
failure query verdict facts (too_long l) = (led query verdict facts None l).2
failure query verdict facts (no_target target l asks b) =
    let to = led query verdict facts (Some target) l in
    to.2 ∙ asked_as query facts to.0 to.1 target asks b
