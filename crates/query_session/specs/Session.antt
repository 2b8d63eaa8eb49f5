-- How one query is answered, turn by turn.
use Rattle.std.specs.Prelude.{◌≡◌, ℕ, ◌<◌, nat_lt, if◌then◌else◌, List, [], ◌∷◌, ◌++◌, length, Option, Some, None, IfSome}
use Rattle.dns_message.specs.declared.question.Question.{Question}
use Rattle.dns_message.specs.declared.request.Incoming.{Incoming}
use Rattle.dns_message.specs.declared.request.Incoming.TheVariants.{Silent, Refuse, Query as Asks}
use Rattle.dns_message.specs.declared.request.Query.{Query}
use Rattle.dns_message.specs.declared.limit.TheConstants.{LEAST_LIMIT}
use Rattle.dns_message.specs.Compressed.{compressed_within}
use Rattle.dns_message.specs.Limit.{reply_limit}
use Rattle.dns_message.specs.Request.{speaks_in, turned_away}
use Rattle.upstream_link.specs.declared.fact.Fact.{Fact}
use Rattle.upstream_link.specs.declared.facts.TheConstants.{FACT_LIMIT}
use Rattle.upstream_link.specs.Facts.{PlainFacts, fact_about}
use Rattle.reply_build.specs.declared.said.Said.{Said as Spoken}
use Rattle.reply_build.specs.declared.said.Said.TheVariants as said
use Rattle.reply_build.specs.declared.turn.Turn.{Turn}
use Rattle.reply_build.specs.declared.turn.Turn.TheVariants.{Ask, Said}
use Rattle.reply_build.specs.Reply.{reply}
use Rattle.reply_build.specs.Verdict.{PlainVerdict, passes, fails, applies}
use Rattle.policy_snapshot.specs.Next.{Next, ask, decided_by, no_hit, chain_too_long, next, next_at}
use Rattle.policy_snapshot.specs.Policy.{PlainPolicy}
use Rattle.policy_snapshot.specs.Rules.{rules}
use Rattle.query_session.specs.State.{SessionState}

-- the reply to a verdict, or the question that it needs
abbrev pub verdict_turn : Query → PlainFacts → PlainVerdict → Turn
verdict_turn query facts verdict = reply (reply_limit query) query verdict facts

-- what comes next, as a turn: a question is asked; a rule that decides gives the reply; where no rule is hit, the answer of the
-- upstream passes; where the chain of aliases is too long, there is no answer
abbrev pub turn_by_next : Query → PlainFacts → Next → Turn
turn_by_next query facts (ask question) = Ask question
turn_by_next query facts (decided_by before name hit) =
    verdict_turn query facts (applies hit.action hit.soa before name)
turn_by_next query facts no_hit = verdict_turn query facts passes
turn_by_next query facts chain_too_long = verdict_turn query facts fails

-- a question is asked while fewer than FACT_LIMIT facts are known; there is no answer where one more is needed
abbrev pub within_fact_limit : Query → PlainFacts → Turn → Turn
within_fact_limit query facts (Said s) = Said s
within_fact_limit query facts (Ask question) =
    if nat_lt (length facts) FACT_LIMIT then Ask question else verdict_turn query facts fails

-- What is done about a message under a policy, by what is known: it is ignored or refused, asks a question, or gets its reply.
-- A refusal has at most the question and the OPT record, and keeps to the least limit.
abbrev pub turn_by : PlainPolicy → Incoming → PlainFacts → Turn
turn_by policy Silent facts = Said said.Silent
turn_by policy (Refuse message) facts = Said (said.Reply (compressed_within LEAST_LIMIT message))
turn_by policy (Asks query) facts =
    within_fact_limit query facts (turn_by_next query facts (next policy query facts))

-- what is said to a client that may not ask: the refusal of its message, or nothing where none is due
abbrev pub said_outside : List ℕ → Spoken
said_outside bytes =
    if speaks_in bytes
    then said.Reply (compressed_within LEAST_LIMIT (turned_away bytes))
    else said.Silent

-- what a session does at this point
abbrev pub turn_of : SessionState → Turn
turn_of session = turn_by session.policy session.incoming session.facts

-- at the beginning nothing is known
abbrev pub new_session : PlainPolicy → Incoming → SessionState
new_session policy incoming =
    record { policy = policy; incoming = incoming; facts = []; asked = None }

abbrev pub question_in : Turn → Option Question
question_in (Ask question) = Some question
question_in (Said s) = None

-- after a turn it waits exactly if it asked
abbrev pub after_turn : SessionState → SessionState
after_turn session =
    record {
      policy = session.policy;
      incoming = session.incoming;
      facts = session.facts;
      asked = question_in (turn_of session);
    }

-- with one fact more, of the question that was asked
abbrev pub with_fact : PlainFacts → Option Question → Fact → PlainFacts
with_fact facts None fact = facts
with_fact facts (Some question) fact = facts ++ (question, fact) ∷ []

-- after the fact is given that was asked for
abbrev pub after_fact : SessionState → Fact → SessionState
after_fact session fact =
    record {
      policy = session.policy;
      incoming = session.incoming;
      facts = with_fact session.facts session.asked fact;
      asked = None;
    }

-- waiting for the answer to a question, with these facts
abbrev pub awaiting : SessionState → PlainFacts → Question → SessionState
awaiting session facts question =
    record {
      policy = session.policy;
      incoming = session.incoming;
      facts = facts;
      asked = Some question;
    }

-- What a session has asked for isn't known yet, and there is room for it.
abbrev pub AsksAnew : PlainFacts → Option Question → Type 0
AsksAnew facts asked =
    IfSome asked (λ question. (fact_about facts question ≡ None) × (length facts < FACT_LIMIT))

-- A query passes its own name: no rule is hit there, and nothing is pending there.
abbrev pub PassesName : PlainPolicy → Query → PlainFacts → Type 0
PassesName policy query facts = next_at (rules policy) query facts [] query.question.name ≡ None

-- the same of a message that is a query
abbrev pub IsPassed : PlainPolicy → Incoming → PlainFacts → Type 0
IsPassed policy Silent facts = Unit {0}
IsPassed policy (Refuse message) facts = Unit {0}
IsPassed policy (Asks query) facts = PassesName policy query facts
