-- What sessions come to: a reply after at most FACT_LIMIT facts, and why it may have rcode 2.
use Rattle.std.specs.Prelude.{◌≡◌, ◌≤◌, ℕ, zero, suc, Bool, true, false, length, List, [], ◌∷◌, ◌++◌, Option, Some, None}
use Rattle.dns_name.specs.Labels.{Name}
use Rattle.dns_record.specs.Record.{PlainRecord}
use Rattle.dns_message.specs.declared.question.Question.{Question}
use Rattle.dns_message.specs.declared.request.Incoming.{Incoming}
use Rattle.dns_message.specs.declared.request.Query.{Query}
use Rattle.dns_message.specs.Compressed.{compressed_within}
use Rattle.dns_message.specs.Limit.{reply_limit}
use Rattle.ip_prefix.specs.declared.Transport.TheVariants.{Tcp}
use Rattle.action_codec.specs.Local.{PlainLocal}
use Rattle.action_codec.specs.declared.action.Action.TheVariants.{PassThru, TcpOnly, Local}
use Rattle.upstream_link.specs.declared.fact.Fact.{Fact}
use Rattle.upstream_link.specs.declared.fact.Fact.TheVariants.{Broken}
use Rattle.upstream_link.specs.declared.fact.AnswerFault.{AnswerFault}
use Rattle.upstream_link.specs.Chain.{asks_alias}
use Rattle.upstream_link.specs.declared.facts.TheConstants.{FACT_LIMIT}
use Rattle.upstream_link.specs.Facts.{PlainFacts, fact_about}
use Rattle.upstream_link.specs.Question.{question_of, main_question}
use Rattle.reply_build.specs.declared.said.Said.TheVariants as said
use Rattle.reply_build.specs.declared.turn.Turn.{Turn}
use Rattle.reply_build.specs.declared.turn.Turn.TheVariants.{Ask, Said}
use Rattle.reply_build.specs.Reply.{by_verdict, needs, reply_of, server_failure}
use Rattle.reply_build.specs.Target.{alias_in, target_of}
use Rattle.reply_build.specs.Verdict.{PlainVerdict, passes, applies}
use Rattle.policy_snapshot.specs.Next.{Next, ask, decided_by, no_hit, chain_too_long, next}
use Rattle.policy_snapshot.specs.Policy.{PlainPolicy}
use Rattle.query_session.specs.Session.{turn_by}

-- the turn replies or stays silent, and asks nothing
abbrev pub is_said : Turn → Bool
is_said (Ask question) = false
is_said (Said s) = true

-- What an upstream answers to a question, which may depend on what it was asked before.
abbrev pub Upstream : Type 0
Upstream = PlainFacts → Question → Fact

-- what is known after a turn: also the answer to its question, if it asks
abbrev pub facts_by : Upstream → PlainFacts → Turn → PlainFacts
facts_by upstream facts (Ask question) = facts ++ (question, upstream facts question) ∷ []
facts_by upstream facts (Said s) = facts

-- What is known after so many turns, from these facts on, where the upstream answers each question that is asked.
unfoldable pub facts_after : PlainPolicy → Incoming → Upstream → ℕ → PlainFacts → PlainFacts
facts_after policy incoming upstream zero facts = facts
facts_after policy incoming upstream (suc turns) facts =
    let more = facts_by upstream facts (turn_by policy incoming facts) in
    facts_after policy incoming upstream turns more

-- it is known that the upstream has no answer to this question
abbrev pub IsBroken : PlainFacts → Question → Type 0
IsBroken facts question = (why : AnswerFault) × (fact_about facts question ≡ Some (Broken why))

-- The answer of the upstream is to pass: no rule is hit, or the rule that decides says PASSTHRU, or it says TCP-Only
-- and the query came over TCP (draft-vixie-dnsop-dns-rpz, sections 3.3 and 3.5).
pub data LetsPass (query : Query) : PlainVerdict → Type 0 where
  no_rule : LetsPass query passes
  pass_thru : (soa : PlainRecord) (before : List Name) (name : Name)
      → LetsPass query (applies PassThru soa before name)
  tcp_only : (soa : PlainRecord) (before : List Name) (name : Name)
      → query.transport ≡ Tcp → LetsPass query (applies TcpOnly soa before name)

-- The rule that decides has one CNAME record as its local data, which leads to this name; None where that is longer
-- than a name may be (section 3.6).
pub data LeadsTo : PlainVerdict → Option Name → Type 0 where
  alias : (rows : List PlainLocal) (row : PlainLocal) (soa : PlainRecord)
      (before : List Name) (name : Name) (target : Option Name)
      → alias_in rows ≡ Some row → target_of name row.rdata ≡ target
      → LeadsTo (applies (Local rows) soa before name) target

-- Why the reply to what is decided of a query has rcode 2, by what is known.
pub data HasCause (query : Query) (verdict : PlainVerdict) (facts : PlainFacts) : Type 0 where
  -- the answer of the upstream is to pass, and there is none
  no_answer : LetsPass query verdict → IsBroken facts (main_question query)
      → HasCause query verdict facts
  -- the name that the rule's CNAME record leads to is too long
  too_long : LeadsTo verdict None → HasCause query verdict facts
  -- the rule's CNAME record itself isn't asked for, and the upstream has no answer about the name that it leads to
  no_target : (target : Name) → LeadsTo verdict (Some target)
      → asks_alias query.question.qtype ≡ false
      → IsBroken facts (question_of target query.question.qtype) → HasCause query verdict facts

-- what is decided where this comes next: by the rule that is hit, or that no rule is hit; None where nothing is decided
abbrev pub verdict_in : Next → Option PlainVerdict
verdict_in (ask question) = None
verdict_in (decided_by before name hit) = Some (applies hit.action hit.soa before name)
verdict_in no_hit = Some passes
verdict_in chain_too_long = None

-- this is decided of a query under a policy, by what is known
abbrev pub IsDecided : PlainPolicy → Query → PlainFacts → PlainVerdict → Type 0
IsDecided policy query facts verdict = verdict_in (next policy query facts) ≡ Some verdict

-- The answer to this question is needed: by the rules, or by the reply to what is decided.
pub data IsNeeded (policy : PlainPolicy) (query : Query) (facts : PlainFacts)
    (question : Question) : Type 0 where
  by_rules : next policy query facts ≡ ask question → IsNeeded policy query facts question
  by_reply : (verdict : PlainVerdict) → IsDecided policy query facts verdict
      → by_verdict query verdict facts ≡ needs question → IsNeeded policy query facts question

-- the reply of rcode 2 to a query
abbrev pub failure_turn : Query → Turn
failure_turn query =
    Said (said.Reply (compressed_within (reply_limit query) (reply_of query server_failure)))

-- Why a query gets SERVFAIL under a policy, by what is known.
pub data FailsBy (policy : PlainPolicy) (query : Query) (facts : PlainFacts) : Type 0 where
  -- the chain of aliases has more than CHAIN_LIMIT names
  long_chain : next policy query facts ≡ chain_too_long → FailsBy policy query facts
  -- the answer to one more question is needed, and as many facts are known as may be
  many_facts : (question : Question) → IsNeeded policy query facts question
      → FACT_LIMIT ≤ length facts → FailsBy policy query facts
  -- the reply to what is decided has it
  by_cause : (verdict : PlainVerdict) → IsDecided policy query facts verdict
      → HasCause query verdict facts → FailsBy policy query facts
