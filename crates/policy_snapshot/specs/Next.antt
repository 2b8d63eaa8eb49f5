-- What comes next for a query: a question that a rule needs, or what is decided (draft-vixie-dnsop-dns-rpz, section 5).
use Rattle.std.specs.Prelude.{Bool, true, false, not, ◌&&◌, if◌then◌else◌, List, [], ◌∷◌, ◌++◌, length, map, filter, take, drop, Option, Some, None}
use Rattle.std.specs.List.{find, list_all, list_any}
use Rattle.std.specs.Option.{option_map}
use Rattle.std.specs.Ordering.{nat_cmp, ordering_then, is_gt, is_lt}
use Rattle.dns_name.specs.Labels.{Name}
use Rattle.dns_name.specs.Order.{canonical_order}
use Rattle.dns_record.specs.declared.rtype.TheConstants.{A, AAAA, NS}
use Rattle.dns_message.specs.declared.question.Question.{Question}
use Rattle.dns_message.specs.declared.request.Query.{Query}
use Rattle.trigger_codec.specs.declared.trigger.Trigger.{Trigger}
use Rattle.trigger_codec.specs.declared.trigger.Trigger.TheVariants.{ClientIp, Qname, ResponseIp, NsDname, NsIp}
use Rattle.rpz_precedence.specs.Best.{PlainHit, best}
use Rattle.rpz_precedence.specs.Rank.{kind_number}
use Rattle.upstream_link.specs.declared.fact.Fact.{Fact}
use Rattle.upstream_link.specs.Chain.{chain}
use Rattle.upstream_link.specs.Facts.{PlainFacts, fact_about, is_known}
use Rattle.upstream_link.specs.Question.{question_of, main_question}
use Rattle.upstream_link.specs.Servers.{ancestors, servers}
use Rattle.policy_snapshot.specs.Policy.{PlainPolicy}
use Rattle.policy_snapshot.specs.Rules.{PlainRule, rules}
use Rattle.policy_snapshot.specs.Hits.{hits}

-- a rule about the addresses of the answer needs the answer
abbrev pub needs_answer : Trigger → Bool
needs_answer (ClientIp prefix) = false
needs_answer (Qname pattern) = false
needs_answer (ResponseIp prefix) = true
needs_answer (NsDname pattern) = false
needs_answer (NsIp prefix) = false

-- a rule about the names or addresses of name servers needs to know the servers
abbrev pub needs_servers : Trigger → Bool
needs_servers (ClientIp prefix) = false
needs_servers (Qname pattern) = false
needs_servers (ResponseIp prefix) = false
needs_servers (NsDname pattern) = true
needs_servers (NsIp prefix) = true

-- a rule about the addresses of name servers needs these, too
abbrev pub needs_addresses : Trigger → Bool
needs_addresses (ClientIp prefix) = false
needs_addresses (Qname pattern) = false
needs_addresses (ResponseIp prefix) = false
needs_addresses (NsDname pattern) = false
needs_addresses (NsIp prefix) = true

-- no hit is known, or the rule's zone and kind don't come after those of the best hit that is known
abbrev pub could_decide : Option PlainHit → PlainRule → Bool
could_decide None rule = true
could_decide (Some hit) rule =
    not (is_gt (ordering_then (nat_cmp rule.zone hit.rank.zone)
    (nat_cmp (kind_number rule.trigger) (kind_number hit.rank.trigger))))

-- some rule that could decide needs it
abbrev pub is_needed : (Trigger → Bool) → List PlainRule → Option PlainHit → Bool
is_needed needs all hit = list_any (λ rule. needs rule.trigger && could_decide hit rule) all

-- the first of these questions whose answer isn't known
abbrev pub first_unknown : PlainFacts → List Question → Option Question
first_unknown facts questions = find (λ question. not (is_known facts question)) questions

-- the NS questions of a name and of the names above it, from two labels upward
abbrev pub server_questions : Name → List Question
server_questions name = map (λ owner. question_of owner NS) (ancestors name)

-- both questions about the addresses of a server are answered
abbrev pub has_known_addresses : PlainFacts → Name → Bool
has_known_addresses facts server =
    is_known facts (question_of server A) && is_known facts (question_of server AAAA)

-- no name of the list comes before this one in canonical order
abbrev pub is_least : List Name → Name → Bool
is_least names name = list_all (λ other. not (is_lt (canonical_order other name))) names

-- the name that comes first in canonical order
abbrev pub least_name : List Name → Option Name
least_name names = find (is_least names) names

-- the question about the addresses of a server that isn't answered yet: A before AAAA
abbrev pub address_question : PlainFacts → Name → Question
address_question facts server =
    if is_known facts (question_of server A) then question_of server AAAA else question_of server A

-- the question about the first server, in canonical order, whose addresses aren't all known
abbrev pub unknown_address : PlainFacts → Name → Option Question
unknown_address facts name =
    option_map (address_question facts)
    (least_name (filter (λ server. not (has_known_addresses facts server)) (servers facts name)))

abbrev pub if_needed : Bool → Option Question → Option Question
if_needed needed question = if needed then question else None

abbrev pub or_question : Option Question → Option Question → Option Question
or_question (Some question) other = Some question
or_question None other = other

-- The question that must be asked at this name of the chain before it is known which rule decides there, by the best hit that
-- is known. It is that of the query, if its answer isn't known and a rule that could decide needs it; then the first NS
-- question of the name and those above it; then the first question about an address of a server.
abbrev pub pending : List PlainRule → Query → PlainFacts → Name → Option PlainHit →
    Option Question
pending all query facts name hit =
    or_question
    (if_needed (is_needed needs_answer all hit) (first_unknown facts (main_question query ∷ [])))
    (or_question
    (if_needed (is_needed needs_servers all hit) (first_unknown facts (server_questions name)))
    (if_needed (is_needed needs_addresses all hit) (unknown_address facts name)))

-- What comes next: a question, the rule that decides, no rule is hit at any name of the chain, or the chain is too long. A rule
-- decides at this name, behind these names of the chain.
pub data Next : Type 0 where
  ask : Question → Next
  decided_by : List Name → Name → PlainHit → Next
  no_hit : Next
  chain_too_long : Next

abbrev pub unless_pending : List Name → Name → Option PlainHit →
    Option Question → Option Next
unless_pending before name hit (Some question) = Some (ask question)
unless_pending before name (Some hit) None = Some (decided_by before name hit)
unless_pending before name None None = None

-- what comes next at a name of the chain, behind these names; None where nothing is pending there and no rule is hit
abbrev pub next_at : List PlainRule → Query → PlainFacts → List Name → Name →
    Option Next
next_at all query facts before name =
    let hit = best (hits all query facts (length before) name) in
    unless_pending before name hit (pending all query facts name hit)

abbrev pub or_next : Option Next → Next → Next
or_next None other = other
or_next (Some next) other = next

-- what comes next along names of the chain, behind these names
abbrev pub next_along : List PlainRule → Query → PlainFacts → List Name →
    List Name → Next
next_along all query facts before [] = no_hit
next_along all query facts before (name ∷ names) =
    or_next (next_at all query facts before name)
    (next_along all query facts (before ++ name ∷ []) names)

-- what comes next behind the first name of a chain, which may be too long
abbrev pub next_in_chain : List PlainRule → Query → PlainFacts → Option (List Name) →
    Next
next_in_chain all query facts None = chain_too_long
next_in_chain all query facts (Some names) =
    next_along all query facts (take 1 names) (drop 1 names)

-- what comes next behind the name of the query: the answer is needed, which shows the chain
abbrev pub next_behind : List PlainRule → Query → PlainFacts → Option Fact → Next
next_behind all query facts None = ask (main_question query)
next_behind all query facts (Some fact) =
    next_in_chain all query facts (chain (main_question query) fact)

-- What comes next for a query under a policy, by what is known: at the name of the query first, then along the chain.
abbrev pub next : PlainPolicy → Query → PlainFacts → Next
next policy query facts =
    let all = rules policy in
    or_next (next_at all query facts [] query.question.name)
    (next_behind all query facts (fact_about facts (main_question query)))
