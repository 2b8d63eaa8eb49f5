-- What a turn asks for isn't known yet.
use Rattle.std.proofs.Common.{◌≡◌, ℕ, Bool, true, false, not, cond, ◌&&◌, List, [], ◌∷◌, ◌++◌, length, take, drop, filter, Option, Some, None, is_some, refl, sym, true≢false, ltb-true}
use Rattle.std.specs.Prelude.{IfSome, nat_lt}
use Rattle.std.specs.List.{find}
use Rattle.std.specs.Option.{option_map}
use Rattle.action_codec.specs.Local.{PlainLocal}
use Rattle.action_codec.specs.declared.action.Action.{Action}
use Rattle.action_codec.specs.declared.action.Action.TheVariants.{NxDomain, NoData, PassThru, Drop, TcpOnly, Local}
use Rattle.dns_message.specs.declared.question.Question.{Question}
use Rattle.dns_message.specs.declared.request.Incoming.{Incoming}
use Rattle.dns_message.specs.declared.request.Incoming.TheVariants.{Silent, Refuse, Query as Asks}
use Rattle.dns_message.specs.declared.request.Query.{Query}
use Rattle.dns_message.specs.Limit.{reply_limit}
use Rattle.rpz_precedence.specs.Best.{PlainHit, best}
use Rattle.upstream_link.specs.declared.fact.Fact.{Fact}
use Rattle.upstream_link.specs.declared.fact.Fact.TheVariants.{Answer, Broken}
use Rattle.upstream_link.specs.declared.facts.TheConstants.{FACT_LIMIT}
use Rattle.upstream_link.specs.Chain.{asks_alias, chain}
use Rattle.upstream_link.specs.Facts.{PlainFacts, fact_about, is_known}
use Rattle.upstream_link.specs.Question.{question_of, main_question}
use Rattle.upstream_link.specs.Servers.{servers}
use Rattle.policy_snapshot.specs.Hits.{hits}
use Rattle.policy_snapshot.specs.Next.{Next, ask, decided_by, no_hit, chain_too_long, address_question, first_unknown, has_known_addresses, if_needed, is_least, is_needed, least_name, needs_addresses, needs_answer, needs_servers, next, next_along, next_at, next_behind, next_in_chain, or_next, or_question, pending, server_questions, unknown_address, unless_pending}
use Rattle.policy_snapshot.specs.Policy.{PlainPolicy}
use Rattle.policy_snapshot.specs.Rules.{PlainRule, rules}
use Rattle.reply_build.specs.declared.turn.Turn.{Turn}
use Rattle.reply_build.specs.declared.turn.Turn.TheVariants.{Ask, Said}
use Rattle.reply_build.specs.Reply.{ReplyOutcome, HitPlace, needs, gives, silent, alias_outcome, by_action, by_alias, by_verdict, main_outcome, outcome_turn, over_tcp, pass_outcome, place_of, target_outcome, truncation}
use Rattle.reply_build.specs.Target.{alias_in, target_of}
use Rattle.reply_build.specs.Verdict.{PlainVerdict, passes, fails, applies as decides}
use Rattle.query_session.specs.Session.{AsksAnew, question_in, turn_by, turn_by_next, verdict_turn, within_fact_limit}

abbrev IsNew : PlainFacts → Option Question → Type 0
IsNew facts question = IfSome question (λ q. fact_about facts q ≡ None)

-- ---- what a rule needs

none_of : {X : Type 0} (o : Option X) → is_some o ≡ false → o ≡ None
none_of None e = refl
none_of (Some x) e = absurd (true≢false e)

not_true : (b : Bool) → not b ≡ true → b ≡ false
not_true true e = absurd (true≢false (sym e))
not_true false e = refl

unknown : (facts : PlainFacts) (q : Question) → not (is_known facts q) ≡ true → fact_about facts q ≡ None
unknown facts q e = none_of (fact_about facts q) (not_true (is_known facts q) e)

-- what is found has the property
found_by : {X : Type 0} (p : X → Bool) (x : X) (rest : Option X) (b : Bool) → p x ≡ b → IfSome rest (λ y. p y ≡ true) → IfSome (cond b (Some x) rest) (λ y. p y ≡ true)
found_by p x rest true e h = e
found_by p x rest false e h = h

found : {X : Type 0} (p : X → Bool) (xs : List X) → IfSome (find p xs) (λ x. p x ≡ true)
found p [] = tt
found p (x ∷ xs) = found_by p x (find p xs) (p x) refl (found p xs)

new_by : (facts : PlainFacts) (o : Option Question) → IfSome o (λ q. not (is_known facts q) ≡ true) → IsNew facts o
new_by facts None h = tt
new_by facts (Some q) h = unknown facts q h

first_is_new : (facts : PlainFacts) (questions : List Question) → IsNew facts (first_unknown facts questions)
first_is_new facts questions = new_by facts (first_unknown facts questions) (found (λ q. not (is_known facts q)) questions)

-- what is found among those that have a property has it
kept_by : {X : Type 0} (p q : X → Bool) (x : X) (rest : List X) (b : Bool) (a : Bool) → p x ≡ b → IfSome (find q rest) (λ y. p y ≡ true) → q x ≡ a → IfSome (find q (cond b (x ∷ rest) rest)) (λ y. p y ≡ true)
kept_by p q x rest true true e h t = rw t e
kept_by p q x rest true false e h t = rw t h
kept_by p q x rest false a e h t = h

kept : {X : Type 0} (p q : X → Bool) (xs : List X) → IfSome (find q (filter p xs)) (λ x. p x ≡ true)
kept p q [] = tt
kept p q (x ∷ xs) = kept_by p q x (filter p xs) (p x) (q x) refl (kept p q xs) refl

address_by : (facts : PlainFacts) (server : List (List ℕ)) (a b : Bool) → is_known facts (question_of server 1) ≡ a → is_known facts (question_of server 28) ≡ b → not (a && b) ≡ true → fact_about facts (cond a (question_of server 28) (question_of server 1)) ≡ None
address_by facts server true true ea eb h = absurd (true≢false (sym h))
address_by facts server true false ea eb h = none_of (fact_about facts (question_of server 28)) eb
address_by facts server false b ea eb h = none_of (fact_about facts (question_of server 1)) ea

address_of : (facts : PlainFacts) (server : Option (List (List ℕ))) → IfSome server (λ s. not (has_known_addresses facts s) ≡ true) → IsNew facts (option_map (address_question facts) server)
address_of facts None h = tt
address_of facts (Some server) h = address_by facts server (is_known facts (question_of server 1)) (is_known facts (question_of server 28)) refl refl h

address_is_new : (facts : PlainFacts) (name : List (List ℕ)) → IsNew facts (unknown_address facts name)
address_is_new facts name =
    let open_ones = filter (λ server. not (has_known_addresses facts server)) (servers facts name) in
    address_of facts (least_name open_ones) (kept (λ server. not (has_known_addresses facts server)) (is_least open_ones) (servers facts name))

if_is_new : (facts : PlainFacts) (b : Bool) (o : Option Question) → IsNew facts o → IsNew facts (if_needed b o)
if_is_new facts true o h = h
if_is_new facts false o h = tt

or_is_new : (facts : PlainFacts) (o other : Option Question) → IsNew facts o → IsNew facts other → IsNew facts (or_question o other)
or_is_new facts None other h k = k
or_is_new facts (Some q) other h k = h

pending_is_new : (all : List PlainRule) (query : Query) (facts : PlainFacts) (name : List (List ℕ)) (hit : Option PlainHit) → IsNew facts (pending all query facts name hit)
pending_is_new all query facts name hit =
    let answer = if_needed (is_needed needs_answer all hit) (first_unknown facts (main_question query ∷ [])) in
    let server = if_needed (is_needed needs_servers all hit) (first_unknown facts (server_questions name)) in
    let address = if_needed (is_needed needs_addresses all hit) (unknown_address facts name) in
    or_is_new facts answer (or_question server address)
    (if_is_new facts (is_needed needs_answer all hit) (first_unknown facts (main_question query ∷ [])) (first_is_new facts (main_question query ∷ [])))
    (or_is_new facts server address
    (if_is_new facts (is_needed needs_servers all hit) (first_unknown facts (server_questions name)) (first_is_new facts (server_questions name)))
    (if_is_new facts (is_needed needs_addresses all hit) (unknown_address facts name) (address_is_new facts name)))

-- ---- what comes next

abbrev NextIsNew : PlainFacts → Next → Type 0
NextIsNew facts (ask question) = fact_about facts question ≡ None
NextIsNew facts (decided_by before name hit) = Unit {0}
NextIsNew facts no_hit = Unit {0}
NextIsNew facts chain_too_long = Unit {0}

unless_is_new : (facts : PlainFacts) (before : List (List (List ℕ))) (name : List (List ℕ)) (hit : Option PlainHit) (question : Option Question) → IsNew facts question → IfSome (unless_pending before name hit question) (NextIsNew facts)
unless_is_new facts before name hit (Some q) h = h
unless_is_new facts before name (Some hit) None h = tt
unless_is_new facts before name None None h = tt

at_is_new : (all : List PlainRule) (query : Query) (facts : PlainFacts) (before : List (List (List ℕ))) (name : List (List ℕ)) → IfSome (next_at all query facts before name) (NextIsNew facts)
at_is_new all query facts before name =
    let hit = best (hits all query facts (length before) name) in
    unless_is_new facts before name hit (pending all query facts name hit) (pending_is_new all query facts name hit)

or_next_is_new : (facts : PlainFacts) (first : Option Next) (other : Next) → IfSome first (NextIsNew facts) → NextIsNew facts other → NextIsNew facts (or_next first other)
or_next_is_new facts None other h k = k
or_next_is_new facts (Some first) other h k = h

along_is_new : (all : List PlainRule) (query : Query) (facts : PlainFacts) (before names : List (List (List ℕ))) → NextIsNew facts (next_along all query facts before names)
along_is_new all query facts before [] = tt
along_is_new all query facts before (name ∷ names) =
    or_next_is_new facts (next_at all query facts before name) (next_along all query facts (before ++ name ∷ []) names)
    (at_is_new all query facts before name) (along_is_new all query facts (before ++ name ∷ []) names)

chain_is_new : (all : List PlainRule) (query : Query) (facts : PlainFacts) (names : Option (List (List (List ℕ)))) → NextIsNew facts (next_in_chain all query facts names)
chain_is_new all query facts None = tt
chain_is_new all query facts (Some names) = along_is_new all query facts (take 1 names) (drop 1 names)

behind_is_new : (all : List PlainRule) (query : Query) (facts : PlainFacts) (fact : Option Fact) → fact_about facts (main_question query) ≡ fact → NextIsNew facts (next_behind all query facts fact)
behind_is_new all query facts None e = e
behind_is_new all query facts (Some fact) e = chain_is_new all query facts (chain (main_question query) fact)

next_is_new : (policy : PlainPolicy) (query : Query) (facts : PlainFacts) → NextIsNew facts (next policy query facts)
next_is_new policy query facts =
    let all = rules policy in
    or_next_is_new facts (next_at all query facts [] query.question.name) (next_behind all query facts (fact_about facts (main_question query)))
    (at_is_new all query facts [] query.question.name) (behind_is_new all query facts (fact_about facts (main_question query)) refl)

-- ---- what a reply needs

abbrev OutcomeIsNew : PlainFacts → ReplyOutcome → Type 0
OutcomeIsNew facts (needs question) = fact_about facts question ≡ None
OutcomeIsNew facts (gives s) = Unit {0}
OutcomeIsNew facts silent = Unit {0}

pass_is_new : (facts : PlainFacts) (question : Question) (fact : Option Fact) → fact_about facts question ≡ fact → OutcomeIsNew facts (pass_outcome question fact)
pass_is_new facts question None e = e
pass_is_new facts question (Some (Broken why)) e = tt
pass_is_new facts question (Some (Answer answer)) e = tt

main_is_new : (query : Query) (facts : PlainFacts) → OutcomeIsNew facts (main_outcome query facts)
main_is_new query facts = pass_is_new facts (main_question query) (fact_about facts (main_question query)) refl

tcp_is_new : (query : Query) (facts : PlainFacts) (b : Bool) → OutcomeIsNew facts (cond b (main_outcome query facts) (gives truncation))
tcp_is_new query facts true = main_is_new query facts
tcp_is_new query facts false = tt

alias_is_new : (query : Query) (facts : PlainFacts) (ttl : ℕ) (target : List (List ℕ)) (place : HitPlace) (fact : Option Fact) → fact_about facts (question_of target query.question.qtype) ≡ fact → OutcomeIsNew facts (alias_outcome query ttl target place fact)
alias_is_new query facts ttl target place None e = e
alias_is_new query facts ttl target place (Some (Broken why)) e = tt
alias_is_new query facts ttl target place (Some (Answer answer)) e = tt

unless_asked_is_new : (facts : PlainFacts) (b : Bool) (s : ReplyOutcome) (other : ReplyOutcome) → OutcomeIsNew facts s → OutcomeIsNew facts other → OutcomeIsNew facts (cond b s other)
unless_asked_is_new facts true s other h k = h
unless_asked_is_new facts false s other h k = k

target_is_new : (query : Query) (facts : PlainFacts) (ttl : ℕ) (place : HitPlace) (target : Option (List (List ℕ))) → OutcomeIsNew facts (target_outcome query ttl place facts target)
target_is_new query facts ttl place None = tt
target_is_new query facts ttl place (Some target) =
    unless_asked_is_new facts (asks_alias query.question.qtype) (gives _) (alias_outcome query ttl target place (fact_about facts (question_of target query.question.qtype)))
    tt (alias_is_new query facts ttl target place (fact_about facts (question_of target query.question.qtype)) refl)

local_is_new : (query : Query) (rows : List PlainLocal) (place : HitPlace) (facts : PlainFacts) (alias : Option PlainLocal) → OutcomeIsNew facts (by_alias query rows place facts alias)
local_is_new query rows place facts None = tt
local_is_new query rows place facts (Some row) = target_is_new query facts row.ttl place (target_of place.name row.rdata)

action_is_new : (query : Query) (facts : PlainFacts) (place : HitPlace) (action : Action) → OutcomeIsNew facts (by_action query facts place action)
action_is_new query facts place NxDomain = tt
action_is_new query facts place NoData = tt
action_is_new query facts place PassThru = main_is_new query facts
action_is_new query facts place Drop = tt
action_is_new query facts place TcpOnly = tcp_is_new query facts (over_tcp query.transport)
action_is_new query facts place (Local rows) = local_is_new query rows place facts (alias_in rows)

verdict_is_new : (query : Query) (facts : PlainFacts) (verdict : PlainVerdict) → OutcomeIsNew facts (by_verdict query verdict facts)
verdict_is_new query facts passes = main_is_new query facts
verdict_is_new query facts fails = tt
verdict_is_new query facts (decides action soa before name) = action_is_new query facts (place_of query facts soa before name) action

-- ---- what a turn asks

outcome_turn_is_new : (facts : PlainFacts) (limit : ℕ) (query : Query) (outcome : ReplyOutcome) → OutcomeIsNew facts outcome → IsNew facts (question_in (outcome_turn limit query outcome))
outcome_turn_is_new facts limit query (needs question) h = h
outcome_turn_is_new facts limit query (gives s) h = tt
outcome_turn_is_new facts limit query silent h = tt

verdict_turn_is_new : (query : Query) (facts : PlainFacts) (verdict : PlainVerdict) → IsNew facts (question_in (verdict_turn query facts verdict))
verdict_turn_is_new query facts verdict = outcome_turn_is_new facts (reply_limit query) query (by_verdict query verdict facts) (verdict_is_new query facts verdict)

turn_is_new : (query : Query) (facts : PlainFacts) (following : Next) → NextIsNew facts following → IsNew facts (question_in (turn_by_next query facts following))
turn_is_new query facts (ask question) h = h
turn_is_new query facts (decided_by before name hit) h = verdict_turn_is_new query facts (decides hit.action hit.soa before name)
turn_is_new query facts no_hit h = verdict_turn_is_new query facts passes
turn_is_new query facts chain_too_long h = verdict_turn_is_new query facts fails

room_by : (query : Query) (facts : PlainFacts) (question : Question) (b : Bool) → nat_lt (length facts) FACT_LIMIT ≡ b → fact_about facts question ≡ None → AsksAnew facts (question_in (cond b (Ask question) (verdict_turn query facts fails)))
room_by query facts question true e h = (h, ltb-true (length facts) FACT_LIMIT e)
room_by query facts question false e h = tt

within_is_new : (query : Query) (facts : PlainFacts) (turn : Turn) → IsNew facts (question_in turn) → AsksAnew facts (question_in (within_fact_limit query facts turn))
within_is_new query facts (Said s) h = tt
within_is_new query facts (Ask question) h = room_by query facts question (nat_lt (length facts) FACT_LIMIT) refl h

pub asks_anew : (policy : PlainPolicy) (incoming : Incoming) (facts : PlainFacts) → AsksAnew facts (question_in (turn_by policy incoming facts))
asks_anew policy Silent facts = tt
asks_anew policy (Refuse message) facts = tt
asks_anew policy (Asks query) facts =
    within_is_new query facts (turn_by_next query facts (next policy query facts)) (turn_is_new query facts (next policy query facts) (next_is_new policy query facts))
