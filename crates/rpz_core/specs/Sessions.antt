-- The workers with their pending queries, and what events do to them.
use Rattle.std.specs.Prelude.{ℕ, ◌+◌, ◌%◌, Bool, [], ◌∷◌, ◌++◌, List, replicate, Option, Some, None, Result, Ok, Err, slice_get, slice_set}
use Rattle.dns_message.specs.declared.question.Question.{Question}
use Rattle.dns_message.specs.declared.request.Incoming.{Incoming}
use Rattle.dns_message.specs.Request.{incoming_of}
use Rattle.dns_message.specs.Spelling.{spelling}
use Rattle.ip_prefix.specs.declared.Addr.{Addr}
use Rattle.ip_prefix.specs.declared.Transport.{Transport}
use Rattle.policy_snapshot.specs.Policy.{PlainPolicy}
use Rattle.upstream_link.specs.declared.fact.Fact.{Fact}
use Rattle.upstream_link.specs.declared.fact.Fact.TheVariants.{Broken}
use Rattle.upstream_link.specs.declared.fact.AnswerFault.TheVariants.{Failed}
use Rattle.upstream_link.specs.Facts.{PlainFacts}
use Rattle.upstream_link.specs.Question.{question_message}
use Rattle.reply_build.specs.declared.said.Said.{Said}
use Rattle.reply_build.specs.declared.said.Said.TheVariants as said
use Rattle.reply_build.specs.declared.turn.Turn.{Turn}
use Rattle.reply_build.specs.declared.turn.Turn.TheVariants as turn
use Rattle.rpz_core.specs.declared.event.CoreFault.{CoreFault}
use Rattle.rpz_core.specs.declared.event.CoreFault.TheVariants as fault
use Rattle.rpz_core.specs.declared.event.Output.{Output}
use Rattle.rpz_core.specs.declared.event.Output.TheVariants as output
use Rattle.upstream_link.specs.Vouched.{PlainLearned, fact_at, plain_learned}
use Rattle.answer_cache.specs.Recent.{after_keep}
use Rattle.rpz_core.specs.declared.sessions.TheConstants.{CACHE_LIMIT, WORKERS}
use Rattle.rpz_core.specs.Resolving.{Resolved, resolve}

-- A query that waits for an answer. It has the policy that it came under, the query, what is known, the question that was
-- asked, and the ID of the message that asked it.
pub record PendingQuery : Type 0 where
  pub policy : PlainPolicy
  pub incoming : Incoming
  pub facts : PlainFacts
  pub question : Question
  pub id : ℕ

-- The pending query of each worker, the first of them worker 0, the ID of the last question, and what is cached, the most recently
-- used first.
pub record SessionsState : Type 0 where
  pub workers : List (Option PendingQuery)
  pub last_id : ℕ
  pub cached : List PlainLearned

abbrev pub no_sessions : SessionsState
no_sessions = record { workers = replicate WORKERS None; last_id = 0; cached = [] }

-- the same with an empty cache
abbrev pub uncached : SessionsState → SessionsState
uncached sessions = record { workers = sessions.workers; last_id = sessions.last_id; cached = [] }

-- the first question has the ID 1, and each further one the next of 16 bits
abbrev pub next_id : ℕ → ℕ
next_id last = (last + 1) % 65536

-- a worker with this pending query, or with none
abbrev pub with_worker : SessionsState → ℕ → Option PendingQuery → ℕ → SessionsState
with_worker sessions worker pending id =
    record {
      workers = slice_set sessions.workers worker pending;
      last_id = id;
      cached = sessions.cached;
    }

abbrev pub with_cached : SessionsState → List PlainLearned → SessionsState
with_cached sessions cached =
    record { workers = sessions.workers; last_id = sessions.last_id; cached = cached }

-- what is output where a worker's query is answered
abbrev pub said_output : ℕ → Said → Output
said_output worker (said.Reply octets) = output.Reply worker octets
said_output worker said.Silent = output.Silent worker

-- what a worker's query under a policy does at a turn: it asks and is pending, or it is answered and is pending no more
abbrev pub turn_step : SessionsState → ℕ → PlainPolicy → Incoming → PlainFacts → Turn →
    SessionsState × Output
turn_step sessions worker policy incoming facts (turn.Ask question) =
    let id = next_id sessions.last_id in (
      with_worker sessions worker (Some (record {
        policy = policy;
        incoming = incoming;
        facts = facts;
        question = question;
        id = id;
      })) id,
      output.Ask worker (spelling (question_message id question)),
    )
turn_step sessions worker policy incoming facts (turn.Said s) =
    (with_worker sessions worker None sessions.last_id, said_output worker s)

abbrev pub resolved_step : SessionsState → ℕ → PlainPolicy → Incoming → Resolved →
    SessionsState × Output
resolved_step sessions worker policy incoming r =
    turn_step (with_cached sessions r.cached) worker policy incoming r.facts r.turn

-- The next turn of a worker's query at this second: it asks what no live entry of the cache answers, or is answered.
abbrev pub next_turn : ℕ → SessionsState → ℕ → PlainPolicy → Incoming → PlainFacts →
    SessionsState × Output
next_turn now sessions worker policy incoming facts =
    resolved_step sessions worker policy incoming
    (resolve now policy incoming sessions.cached facts)

-- a query comes to a worker that has none pending
abbrev pub query_step : ℕ → SessionsState → PlainPolicy → ℕ → Incoming →
    Option (Option PendingQuery) → Result (SessionsState × Output) CoreFault
query_step now sessions policy worker incoming None = Err fault.NoWorker
query_step now sessions policy worker incoming (Some (Some pending)) = Err fault.Pending
query_step now sessions policy worker incoming (Some None) =
    Ok (next_turn now sessions worker policy incoming [])

-- what is known once the question that was asked has this answer
abbrev pub facts_with : PendingQuery → Fact → PlainFacts
facts_with pending fact = pending.facts ++ (pending.question, fact) ∷ []

-- a worker's pending query has this answer to the question that it asked, and goes on
abbrev pub resumed_step : ℕ → SessionsState → ℕ → PendingQuery → Fact → SessionsState × Output
resumed_step now sessions worker pending fact =
    next_turn now sessions worker pending.policy pending.incoming (facts_with pending fact)

-- the bytes that came at this second for the question that was asked, as an entry of the cache
abbrev pub learned_by : PendingQuery → List ℕ → ℕ → PlainLearned
learned_by pending message now = plain_learned pending.question pending.id message now

-- an answer that comes is cached for its life
abbrev pub with_learned : SessionsState → PlainLearned → SessionsState
with_learned sessions entry = with_cached sessions (after_keep CACHE_LIMIT entry sessions.cached)

-- something comes to a worker for the question that its query asked
abbrev pub pending_step : (PendingQuery → SessionsState × Output) → Option (Option PendingQuery) →
    Result (SessionsState × Output) CoreFault
pending_step goes_on None = Err fault.NoWorker
pending_step goes_on (Some None) = Err fault.NotPending
pending_step goes_on (Some (Some pending)) = Ok (goes_on pending)

-- an answer comes for it, and is cached
abbrev pub answered_step : ℕ → SessionsState → ℕ → List ℕ → PendingQuery → SessionsState × Output
answered_step now sessions worker message pending =
    let entry = learned_by pending message now in
    resumed_step now (with_learned sessions entry) worker pending (fact_at now entry)

-- a message of a client, which may ask or may not, comes to a worker at this second, under a policy
abbrev pub take_query : ℕ → SessionsState → PlainPolicy → Bool → ℕ → Transport → Addr → List ℕ →
    Result (SessionsState × Output) CoreFault
take_query now sessions policy may_ask worker transport client message =
    query_step now sessions policy worker (incoming_of may_ask message client transport)
    (slice_get sessions.workers worker)

-- these bytes come at this second for the question that a worker asked
abbrev pub take_answer : ℕ → SessionsState → ℕ → List ℕ → Result (SessionsState × Output) CoreFault
take_answer now sessions worker message =
    pending_step (answered_step now sessions worker message) (slice_get sessions.workers worker)

-- nothing comes for the question that a worker asked
abbrev pub take_failure : ℕ → SessionsState → ℕ → Result (SessionsState × Output) CoreFault
take_failure now sessions worker =
    pending_step (λ pending. resumed_step now sessions worker pending (Broken Failed))
    (slice_get sessions.workers worker)
