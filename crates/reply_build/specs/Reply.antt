-- The reply to a query, by what is decided of it and what is known, or the question whose answer it needs
-- (draft-vixie-dnsop-dns-rpz, section 3).
use Rattle.std.specs.Prelude.{ℕ, Bool, true, false, ◌==◌, ◌||◌, if◌then◌else◌, List, [], ◌∷◌, ◌++◌, map, filter, Option, Some, None}
use Rattle.std.specs.Option.{option_to_list}
use Rattle.dns_name.specs.Labels.{name_octets, Name}
use Rattle.dns_record.specs.Record.{PlainRecord}
use Rattle.dns_message.specs.declared.header.Header.{Header}
use Rattle.dns_message.specs.declared.message.Message.{Message}
use Rattle.dns_message.specs.declared.question.Question.{Question}
use Rattle.dns_message.specs.declared.request.Query.{Query}
use Rattle.dns_message.specs.Aged.{aged}
use Rattle.dns_message.specs.Compressed.{compressed_within}
use Rattle.dns_message.specs.Request.{reply_edns}
use Rattle.ip_prefix.specs.declared.Transport.{Transport}
use Rattle.ip_prefix.specs.declared.Transport.TheVariants.{Udp, Tcp}
use Rattle.dns_record.specs.declared.rtype.TheConstants.{ANY, CNAME}
use Rattle.dns_record.specs.declared.class.TheConstants.{IN}
use Rattle.action_codec.specs.Local.{PlainLocal}
use Rattle.action_codec.specs.declared.action.Action.{Action}
use Rattle.action_codec.specs.declared.action.Action.TheVariants.{NxDomain, NoData, PassThru, Drop, TcpOnly, Local}
use Rattle.upstream_link.specs.Kept.{PlainAnswer, aged_answers}
use Rattle.upstream_link.specs.declared.fact.Fact.{Fact}
use Rattle.upstream_link.specs.declared.fact.Fact.TheVariants.{Answer, Broken}
use Rattle.upstream_link.specs.Chain.{asks_alias, chain_aliases}
use Rattle.upstream_link.specs.Facts.{PlainFacts, fact_about, main_age, main_records}
use Rattle.upstream_link.specs.Question.{question_of, main_question}
use Rattle.reply_build.specs.declared.said.Said.TheVariants.{Reply, Silent}
use Rattle.reply_build.specs.declared.turn.Turn.{Turn}
use Rattle.reply_build.specs.declared.turn.Turn.TheVariants.{Ask, Said}
use Rattle.reply_build.specs.Target.{alias_in, target_of}
use Rattle.reply_build.specs.Verdict.{PlainVerdict, passes, fails, applies}

-- a response that keeps the ID and RD of the query (RFC 1035, section 4.1.1)
abbrev pub reply_header : Bool → ℕ → Query → Header
reply_header tc rcode query =
    record {
      id = query.id;
      qr = true;
      opcode = 0;
      aa = false;
      tc = tc;
      rd = query.rd;
      ra = true;
      rcode = rcode;
    }

-- what a reply says beside the question as it came and the OPT record
pub record Sections : Type 0 where
  pub tc : Bool
  pub rcode : ℕ
  pub answer : List PlainRecord
  pub authority : List PlainRecord
  pub additional : List PlainRecord

-- the reply to a query of these sections, with an OPT record where the query has one
abbrev pub reply_of : Query → Sections → Message
reply_of query s = record {
  header = reply_header s.tc s.rcode query;
  question = Some query.question;
  answer = s.answer;
  authority = s.authority;
  additional = s.additional;
  edns = reply_edns 0 query.edns;
}

abbrev pub sections : ℕ → List PlainRecord → List PlainRecord → List PlainRecord → Sections
sections rcode answer authority additional =
    record {
      tc = false;
      rcode = rcode;
      answer = answer;
      authority = authority;
      additional = additional;
    }

-- there is no answer: rcode 2
abbrev pub server_failure : Sections
server_failure = sections 2 [] [] []

-- Where a rule decides: the aliases that led to its name, which the answer section begins with; the name; and the SOA record of
-- the rule's zone.
pub record HitPlace : Type 0 where
  pub kept : List PlainRecord
  pub name : Name
  pub soa : PlainRecord

-- no answer by the policy, with the SOA record of its zone: rcode 3 where the name doesn't exist (section 3.1), and 0
-- where it has no records of the type (section 3.2)
abbrev pub denial : ℕ → HitPlace → Sections
denial rcode place = sections rcode place.kept [] (place.soa ∷ [])

-- a truncated reply with the question alone, so that the client asks again over TCP (section 3.5; RFC 1035, section 4.2.1)
abbrev pub truncation : Sections
truncation = record { tc = true; rcode = 0; answer = []; authority = []; additional = [] }

-- The SOA record of an answer with what is left of its TTL, if the answer has one.
abbrev pub soa_list : PlainAnswer → List PlainRecord
soa_list answer = map (aged answer.age) (option_to_list answer.soa)

-- the answer of the upstream, with what is left of the TTLs of its records: its rcode, its answers, and its SOA in the authority
-- section
abbrev pub answer_sections : PlainAnswer → Sections
answer_sections answer = sections answer.rcode (aged_answers answer) (soa_list answer) []

-- What a query comes to: it needs the answer to a question, or gives a reply of these sections, or nothing is said.
pub data ReplyOutcome : Type 0 where
  needs : Question → ReplyOutcome
  gives : Sections → ReplyOutcome
  silent : ReplyOutcome

-- the answer of the upstream to this question passes (section 3.3)
abbrev pub pass_outcome : Question → Option Fact → ReplyOutcome
pass_outcome question None = needs question
pass_outcome question (Some (Broken why)) = gives server_failure
pass_outcome question (Some (Answer answer)) = gives (answer_sections answer)

-- the answer of the upstream to the query's own question passes
abbrev pub main_outcome : Query → PlainFacts → ReplyOutcome
main_outcome query facts =
    pass_outcome (main_question query) (fact_about facts (main_question query))

-- local data as a record of this owner, in class IN
abbrev pub local_record : Name → PlainLocal → PlainRecord
local_record owner row =
    record { owner = owner; rtype = row.rtype; class = 1; ttl = row.ttl; rdata = row.rdata }

-- the row has the type that is asked for; ANY asks for all (RFC 1035, section 3.2.3)
abbrev pub is_asked : ℕ → PlainLocal → Bool
is_asked qtype row = qtype == ANY || row.rtype == qtype

-- the rows that are asked for, whose owner is the name as it was asked or as the alias before it spells it, and the SOA record of
-- the zone (section 3.6)
abbrev pub local_answer : Query → List PlainLocal → HitPlace → Sections
local_answer query rows place =
    sections 0
    (place.kept ++ map (local_record place.name) (filter (is_asked query.question.qtype) rows)) []
    (place.soa ∷ [])

-- the alias of a name, to its target
abbrev pub alias_record : Name → ℕ → Name → PlainRecord
alias_record owner ttl target =
    record { owner = owner; rtype = CNAME; class = IN; ttl = ttl; rdata = name_octets target }

-- an alias and the answer of the upstream about its target: its rcode, its answers, and its SOA in the authority section
abbrev pub alias_sections : HitPlace → PlainRecord → PlainAnswer → Sections
alias_sections place alias answer =
    sections answer.rcode (place.kept ++ alias ∷ aged_answers answer) (soa_list answer)
    (place.soa ∷ [])

-- the alias to a target of which this is known
abbrev pub alias_outcome : Query → ℕ → Name → HitPlace → Option Fact → ReplyOutcome
alias_outcome query ttl target place None = needs (question_of target query.question.qtype)
alias_outcome query ttl target place (Some (Broken why)) = gives server_failure
alias_outcome query ttl target place (Some (Answer answer)) =
    gives (alias_sections place (alias_record place.name ttl target) answer)

-- the alias to this target, which is None where it is longer than a name may be; the alias alone where the alias itself is
-- asked for
abbrev pub target_outcome : Query → ℕ → HitPlace → PlainFacts → Option Name → ReplyOutcome
target_outcome query ttl place facts None = gives server_failure
target_outcome query ttl place facts (Some target) =
    if asks_alias query.question.qtype
    then gives
    (sections 0 (place.kept ++ alias_record place.name ttl target ∷ []) [] (place.soa ∷ []))
    else alias_outcome query ttl target place
    (fact_about facts (question_of target query.question.qtype))

abbrev pub by_alias : Query → List PlainLocal → HitPlace → PlainFacts → Option PlainLocal →
    ReplyOutcome
by_alias query rows place facts None = gives (local_answer query rows place)
by_alias query rows place facts (Some row) =
    target_outcome query row.ttl place facts (target_of place.name row.rdata)

-- local data, or the alias that it is
abbrev pub local_outcome : Query → List PlainLocal → HitPlace → PlainFacts → ReplyOutcome
local_outcome query rows place facts = by_alias query rows place facts (alias_in rows)

abbrev pub over_tcp : Transport → Bool
over_tcp Udp = false
over_tcp Tcp = true

-- the answer of the upstream passes over TCP; over UDP the reply is truncated
abbrev pub tcp_only_outcome : Query → PlainFacts → ReplyOutcome
tcp_only_outcome query facts =
    if over_tcp query.transport then main_outcome query facts else gives truncation

-- What the action of a rule comes to: a question, the sections of a reply, or nothing for DROP (draft-vixie-dnsop-dns-rpz,
-- section 3).
abbrev pub by_action : Query → PlainFacts → HitPlace → Action → ReplyOutcome
by_action query facts place NxDomain = gives (denial 3 place)
by_action query facts place NoData = gives (denial 0 place)
by_action query facts place PassThru = main_outcome query facts
by_action query facts place Drop = silent
by_action query facts place TcpOnly = tcp_only_outcome query facts
by_action query facts place (Local rows) = local_outcome query rows place facts

-- where a rule decides that is hit behind these names: the aliases are those of the answer to the query, with what is left of
-- their TTLs
abbrev pub place_of : Query → PlainFacts → PlainRecord → List Name → Name →
    HitPlace
place_of query facts soa before name =
    record {
      kept = map (aged (main_age query facts)) (chain_aliases (main_records query facts) before);
      name = name;
      soa = soa;
    }

abbrev pub by_verdict : Query → PlainVerdict → PlainFacts → ReplyOutcome
by_verdict query passes facts = main_outcome query facts
by_verdict query fails facts = gives server_failure
by_verdict query (applies action soa before name) facts =
    by_action query facts (place_of query facts soa before name) action

-- the question is asked, or the reply is sent, in its truncated form where it is longer than the limit
abbrev pub outcome_turn : ℕ → Query → ReplyOutcome → Turn
outcome_turn limit query (needs question) = Ask question
outcome_turn limit query (gives s) = Said (Reply (compressed_within limit (reply_of query s)))
outcome_turn limit query silent = Said Silent

-- The question whose answer the reply needs and that isn't known, or the reply, in at most so many bytes, or silence.
abbrev pub reply : ℕ → Query → PlainVerdict → PlainFacts → Turn
reply limit query verdict facts = outcome_turn limit query (by_verdict query verdict facts)
