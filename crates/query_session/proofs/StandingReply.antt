-- Once something is said, it is said whatever facts come behind.
use Rattle.std.proofs.Common.{◌≡◌, ℕ, ◌≤◌, Bool, true, false, cond, List, [], ◌∷◌, ◌++◌, length, map, take, drop, Option, Some, None, refl, sym, ap, ◌∙◌, arith, true≢false, append-nil, length-append, ltb-false}
use Rattle.std.specs.Prelude.{IfSome, nat_lt}
use Rattle.action_codec.specs.Local.{PlainLocal}
use Rattle.action_codec.specs.declared.action.Action.{Action}
use Rattle.action_codec.specs.declared.action.Action.TheVariants.{NxDomain, NoData, PassThru, Drop, TcpOnly, Local}
use Rattle.dns_message.specs.declared.question.Question.{Question}
use Rattle.dns_message.specs.declared.request.Incoming.{Incoming}
use Rattle.dns_message.specs.declared.request.Incoming.TheVariants.{Silent, Refuse, Query as Asks}
use Rattle.dns_message.specs.declared.request.Query.{Query}
use Rattle.dns_message.specs.Aged.{aged}
use Rattle.dns_message.specs.Limit.{reply_limit}
use Rattle.dns_record.specs.Record.{PlainRecord}
use Rattle.rpz_precedence.specs.Best.{PlainHit, best}
use Rattle.upstream_link.specs.declared.fact.Fact.{Fact}
use Rattle.upstream_link.specs.declared.facts.TheConstants.{FACT_LIMIT}
use Rattle.upstream_link.specs.Chain.{asks_alias, chain, chain_aliases}
use Rattle.upstream_link.specs.Facts.{Extends, PlainFacts, age_of, fact_about, records_of}
use Rattle.upstream_link.specs.Question.{question_of, main_question}
use Rattle.policy_snapshot.specs.Hits.{hits}
use Rattle.policy_snapshot.specs.Next.{Next, ask, decided_by, no_hit, chain_too_long, next, next_along, next_at, next_behind, next_in_chain, or_next, pending, unless_pending}
use Rattle.policy_snapshot.specs.Policy.{PlainPolicy}
use Rattle.policy_snapshot.specs.Rules.{PlainRule, rules}
use Rattle.policy_snapshot.specs.Settled.{is_settled}
use Rattle.reply_build.specs.declared.turn.Turn.{Turn}
use Rattle.reply_build.specs.declared.turn.Turn.TheVariants.{Ask, Said}
use Rattle.reply_build.specs.Reply.{ReplyOutcome, HitPlace, needs, gives, silent, alias_outcome, alias_record, by_action, by_alias, by_verdict, main_outcome, outcome_turn, over_tcp, pass_outcome, place_of, sections, target_outcome, truncation}
use Rattle.reply_build.specs.Target.{alias_in, target_of}
use Rattle.reply_build.specs.Verdict.{PlainVerdict, passes, fails, applies as decides}
use Rattle.query_session.specs.Laws.{is_said}
use Rattle.query_session.specs.Session.{turn_by, turn_by_next, verdict_turn, within_fact_limit}

abbrev Name : Type 0
Name = List (List ℕ)

-- nothing is needed any more
abbrev is_met : ReplyOutcome → Bool
is_met (needs question) = false
is_met (gives s) = true
is_met silent = true

met : (limit : ℕ) (query : Query) (outcome : ReplyOutcome) → is_said (outcome_turn limit query outcome) ≡ true → is_met outcome ≡ true
met limit query (needs question) t = t
met limit query (gives s) t = refl
met limit query silent t = refl

-- what is known stays known
abbrev StaysKnown : PlainFacts → PlainFacts → Type 0
StaysKnown facts more = (question : Question) (fact : Fact) → fact_about facts question ≡ Some fact → fact_about more question ≡ Some fact

module _ (query : Query) (facts more : PlainFacts) (known : StaysKnown facts more) where
  -- ---- the outcome of a verdict

  pass_stays : (question : Question) (fact other : Option Fact) → ((f : Fact) → fact ≡ Some f → other ≡ Some f) → is_met (pass_outcome question fact) ≡ true → pass_outcome question other ≡ pass_outcome question fact
  pass_stays question None other same t = absurd (true≢false (sym t))
  pass_stays question (Some fact) other same t = ap (pass_outcome question) (same fact refl)

  main_stays : is_met (main_outcome query facts) ≡ true → main_outcome query more ≡ main_outcome query facts
  main_stays = pass_stays (main_question query) (fact_about facts (main_question query)) (fact_about more (main_question query)) (known (main_question query))

  tcp_stays : (b : Bool) → is_met (cond b (main_outcome query facts) (gives truncation)) ≡ true → cond b (main_outcome query more) (gives truncation) ≡ cond b (main_outcome query facts) (gives truncation)
  tcp_stays true t = main_stays t
  tcp_stays false t = refl

  alias_stays : (ttl : ℕ) (target : Name) (place : HitPlace) (fact other : Option Fact) → ((f : Fact) → fact ≡ Some f → other ≡ Some f) → is_met (alias_outcome query ttl target place fact) ≡ true → alias_outcome query ttl target place other ≡ alias_outcome query ttl target place fact
  alias_stays ttl target place None other same t = absurd (true≢false (sym t))
  alias_stays ttl target place (Some fact) other same t = ap (alias_outcome query ttl target place) (same fact refl)

  unless_asked_stays : (b : Bool) (s outcome other : ReplyOutcome) → (is_met outcome ≡ true → other ≡ outcome) → is_met (cond b s outcome) ≡ true → cond b s other ≡ cond b s outcome
  unless_asked_stays true s outcome other same t = refl
  unless_asked_stays false s outcome other same t = same t

  target_stays : (ttl : ℕ) (place : HitPlace) (target : Option Name) → is_met (target_outcome query ttl place facts target) ≡ true → target_outcome query ttl place more target ≡ target_outcome query ttl place facts target
  target_stays ttl place None t = refl
  target_stays ttl place (Some target) t =
      let question = question_of target query.question.qtype in
      unless_asked_stays (asks_alias query.question.qtype) (gives (sections 0 (place.kept ++ alias_record place.name ttl target ∷ []) [] (place.soa ∷ [])))
      (alias_outcome query ttl target place (fact_about facts question)) (alias_outcome query ttl target place (fact_about more question))
      (alias_stays ttl target place (fact_about facts question) (fact_about more question) (known question)) t

  local_stays : (rows : List PlainLocal) (place : HitPlace) (alias : Option PlainLocal) → is_met (by_alias query rows place facts alias) ≡ true → by_alias query rows place more alias ≡ by_alias query rows place facts alias
  local_stays rows place None t = refl
  local_stays rows place (Some row) t = target_stays row.ttl place (target_of place.name row.rdata) t

  action_stays : (place : HitPlace) (action : Action) → is_met (by_action query facts place action) ≡ true → by_action query more place action ≡ by_action query facts place action
  action_stays place NxDomain t = refl
  action_stays place NoData t = refl
  action_stays place PassThru t = main_stays t
  action_stays place Drop t = refl
  action_stays place TcpOnly t = tcp_stays (over_tcp query.transport) t
  action_stays place (Local rows) t = local_stays rows place (alias_in rows) t

  -- ---- the aliases that led to the name where a rule decides

  -- the answer to the query stays the same
  abbrev SameAnswer : Type 0
  SameAnswer = fact_about more (main_question query) ≡ fact_about facts (main_question query)

  -- the aliases of these names in an answer, with what is left of their TTLs
  abbrev aliases_in : List Name → Option Fact → List PlainRecord
  aliases_in before fact = map (aged (age_of fact)) (chain_aliases (records_of fact) before)

  -- the aliases of these names stay the same
  abbrev SameAliases : List Name → Type 0
  SameAliases before = aliases_in before (fact_about more (main_question query)) ≡ aliases_in before (fact_about facts (main_question query))

  abbrev KeepsAliases : Next → Type 0
  KeepsAliases (ask question) = Unit {0}
  KeepsAliases (decided_by before name hit) = SameAliases before
  KeepsAliases no_hit = Unit {0}
  KeepsAliases chain_too_long = Unit {0}

  unless_keeps : (before : List Name) (name : Name) (hit : Option PlainHit) (question : Option Question) → SameAliases before → IfSome (unless_pending before name hit question) KeepsAliases
  unless_keeps before name hit (Some question) same = tt
  unless_keeps before name (Some hit) None same = same
  unless_keeps before name None None same = tt

  at_keeps : (all : List PlainRule) (before : List Name) (name : Name) → SameAliases before → IfSome (next_at all query facts before name) KeepsAliases
  at_keeps all before name =
      let hit = best (hits all query facts (length before) name) in
      unless_keeps before name hit (pending all query facts name hit)

  or_keeps : (first : Option Next) (other : Next) → IfSome first KeepsAliases → KeepsAliases other → KeepsAliases (or_next first other)
  or_keeps None other h k = k
  or_keeps (Some first) other h k = h

  along_keeps : (all : List PlainRule) (before names : List Name) → SameAnswer → KeepsAliases (next_along all query facts before names)
  along_keeps all before [] same = tt
  along_keeps all before (name ∷ names) same =
      or_keeps (next_at all query facts before name) (next_along all query facts (before ++ name ∷ []) names)
      (at_keeps all before name (ap (aliases_in before) same)) (along_keeps all (before ++ name ∷ []) names same)

  chain_keeps : (all : List PlainRule) (names : Option (List Name)) → SameAnswer → KeepsAliases (next_in_chain all query facts names)
  chain_keeps all None same = tt
  chain_keeps all (Some names) same = along_keeps all (take 1 names) (drop 1 names) same

  behind_keeps : (all : List PlainRule) (fact : Option Fact) → fact_about facts (main_question query) ≡ fact → KeepsAliases (next_behind all query facts fact)
  behind_keeps all None e = tt
  behind_keeps all (Some fact) e = chain_keeps all (chain (main_question query) fact) (known (main_question query) fact e ∙ sym e)

  next_keeps : (policy : PlainPolicy) → KeepsAliases (next policy query facts)
  next_keeps policy =
      let all = rules policy in
      or_keeps (next_at all query facts [] query.question.name) (next_behind all query facts (fact_about facts (main_question query)))
      (at_keeps all [] query.question.name refl) (behind_keeps all (fact_about facts (main_question query)) refl)

  -- ---- what is said

  verdict_stays : (verdict : PlainVerdict) → (is_met (by_verdict query verdict facts) ≡ true → by_verdict query verdict more ≡ by_verdict query verdict facts) → is_said (verdict_turn query facts verdict) ≡ true → verdict_turn query more verdict ≡ verdict_turn query facts verdict
  verdict_stays verdict same t = ap (outcome_turn (reply_limit query) query) (same (met (reply_limit query) query (by_verdict query verdict facts) t))

  hit_stays : (before : List Name) (name : Name) (hit : PlainHit) → SameAliases before → is_met (by_verdict query (decides hit.action hit.soa before name) facts) ≡ true → by_verdict query (decides hit.action hit.soa before name) more ≡ by_verdict query (decides hit.action hit.soa before name) facts
  hit_stays before name hit same t =
      ap (λ (kept : List PlainRecord). by_action query more (record { kept = kept; name = name; soa = hit.soa }) hit.action) same
      ∙ action_stays (place_of query facts hit.soa before name) hit.action t

  turn_stays : (following : Next) → KeepsAliases following → is_said (turn_by_next query facts following) ≡ true → turn_by_next query more following ≡ turn_by_next query facts following
  turn_stays (ask question) same t = refl
  turn_stays (decided_by before name hit) same t = verdict_stays (decides hit.action hit.soa before name) (hit_stays before name hit same) t
  turn_stays no_hit same t = verdict_stays passes main_stays t
  turn_stays chain_too_long same t = refl

  settled : (following : Next) → is_said (turn_by_next query facts following) ≡ true → is_settled following ≡ true
  settled (ask question) t = t
  settled (decided_by before name hit) t = refl
  settled no_hit t = refl
  settled chain_too_long t = refl

  room_asks : (question : Question) (b : Bool) (turn : Turn) → b ≡ true → is_said (cond b (Ask question) turn) ≡ true → ⊥
  room_asks question true turn e t = true≢false (sym t)
  room_asks question false turn e t = true≢false (sym e)

  within_stays : (turn other : Turn) → nat_lt (length facts) FACT_LIMIT ≡ true → is_said (within_fact_limit query facts turn) ≡ true → (is_said turn ≡ true → other ≡ turn) → within_fact_limit query more other ≡ within_fact_limit query facts turn
  within_stays (Said s) other room t same = ap (within_fact_limit query more) (same refl)
  within_stays (Ask question) other room t same = absurd (room_asks question (nat_lt (length facts) FACT_LIMIT) (verdict_turn query facts fails) room t)

  query_stays : (policy : PlainPolicy) → (is_settled (next policy query facts) ≡ true → next policy query more ≡ next policy query facts) → nat_lt (length facts) FACT_LIMIT ≡ true → is_said (turn_by policy (Asks query) facts) ≡ true → turn_by policy (Asks query) more ≡ turn_by policy (Asks query) facts
  query_stays policy same room t =
      within_stays (turn_by_next query facts (next policy query facts)) (turn_by_next query more (next policy query more)) room t
      (λ said. ap (turn_by_next query more) (same (settled (next policy query facts) said)) ∙ turn_stays (next policy query facts) (next_keeps policy) said)

-- ---- where there is no room, nothing comes behind

nothing_behind : (facts rest : PlainFacts) (limit : ℕ) → limit ≤ length facts → length (facts ++ rest) ≤ limit → facts ++ rest ≡ facts
nothing_behind facts [] limit full le = append-nil facts
nothing_behind facts (x ∷ rest) limit full le = absurd (omega (arith, length-append facts (x ∷ rest)))

same_facts : (facts more : PlainFacts) (limit : ℕ) → Extends facts more → nat_lt (length facts) limit ≡ false → length more ≤ limit → more ≡ facts
same_facts facts more limit extends full le =
    extends.1 ∙ nothing_behind facts extends.0 limit (ltb-false (length facts) limit full) (omega (arith, ap length extends.1))

module _ (policy : PlainPolicy) (facts more : PlainFacts) (extends : Extends facts more) (few : length more ≤ FACT_LIMIT) (known : StaysKnown facts more)
    (same_next : (query : Query) → is_settled (next policy query facts) ≡ true → next policy query more ≡ next policy query facts) where
  stays_by : (query : Query) (b : Bool) → nat_lt (length facts) FACT_LIMIT ≡ b → is_said (turn_by policy (Asks query) facts) ≡ true → turn_by policy (Asks query) more ≡ turn_by policy (Asks query) facts
  stays_by query true e t = query_stays query facts more known policy (same_next query) e t
  stays_by query false e t = ap (turn_by policy (Asks query)) (same_facts facts more FACT_LIMIT extends e few)

  pub reply_stands : (incoming : Incoming) → is_said (turn_by policy incoming facts) ≡ true → turn_by policy incoming more ≡ turn_by policy incoming facts
  reply_stands Silent t = refl
  reply_stands (Refuse message) t = refl
  reply_stands (Asks query) t = stays_by query (nat_lt (length facts) FACT_LIMIT) refl t
