-- What led to a reply of the core: what happened, the policy under which the query came, and the facts that were obtained for it.
use Rattle.std.specs.Prelude.{◌≡◌, ℕ, ◌≤◌, List, [], ◌∷◌, length, take, Option, Some, None, Ok, slice_get}
use Rattle.answer_cache.specs.Recent.{after_keep, live_entry}
use Rattle.dns_message.specs.declared.request.Incoming.{Incoming}
use Rattle.dns_message.specs.Request.{incoming_of}
use Rattle.ip_prefix.specs.declared.Addr.{Addr}
use Rattle.ip_prefix.specs.Prefix.{PlainPrefix}
use Rattle.networks.specs.Allowed.{is_allowed}
use Rattle.ip_prefix.specs.declared.Transport.{Transport}
use Rattle.upstream_link.specs.declared.fact.Fact.TheVariants.{Broken}
use Rattle.upstream_link.specs.declared.fact.AnswerFault.TheVariants.{Failed}
use Rattle.upstream_link.specs.Fact.{fact_from}
use Rattle.upstream_link.specs.Facts.{PlainFacts}
use Rattle.upstream_link.specs.Question.{question_bytes}
use Rattle.upstream_link.specs.Vouched.{PlainLearned}
use Rattle.reply_build.specs.declared.said.Said.{Said}
use Rattle.reply_build.specs.declared.turn.Turn.TheVariants as turn
use Rattle.policy_override.specs.declared.zone_set.ZoneSet.{ZoneSet}
use Rattle.policy_snapshot.specs.Policy.{PlainPolicy, policy_after}
use Rattle.query_session.specs.Session.{turn_by}
use Rattle.rpz_core.specs.declared.sessions.TheConstants.{CACHE_LIMIT}
use Rattle.rpz_core.specs.declared.event.Event.{Event}
use Rattle.rpz_core.specs.declared.event.Event.TheVariants.{Query, Give, Fail}
use Rattle.rpz_core.specs.declared.event.Output.{Output}
use Rattle.rpz_core.specs.Answered.{AreAnswered}
use Rattle.rpz_core.specs.Sessions.{PendingQuery, facts_with, learned_by}
use Rattle.rpz_core.specs.World.{World, new_world, policy_of, world_step}

-- These events, the last one first, lead from zones of these settings, with nothing loaded, to this world.
pub data Reaches (settings : List ZoneSet) (primaries : List (Option Addr))
    (allowed : List PlainPrefix) : List Event → World → Type 0 where
  begins : Reaches settings primaries allowed [] (new_world settings primaries allowed)
  goes_on : (events : List Event) (event : Event) (world next : World) (out : Output)
      → Reaches settings primaries allowed events world → world_step world event ≡ Ok (next, out)
      → Reaches settings primaries allowed (event ∷ events) next

-- this is the query of this worker that waits for an answer
abbrev pub IsPendingAt : World → ℕ → PendingQuery → Type 0
IsPendingAt world worker pending = slice_get world.sessions.workers worker ≡ Some (Some pending)

-- After these events the last query of this worker came under this policy, and these facts were obtained for it, in order.
pub data AreObtained (settings : List ZoneSet) (primaries : List (Option Addr))
    (allowed : List PlainPrefix) (worker : ℕ) : List Event → PlainPolicy → Incoming →
    PlainFacts → Type 0 where
  -- It comes, under the policy after the transfers accepted so far. What is known by then is what live entries of the cache say.
  comes : (events : List Event) (world : World) (transport : Transport) (client : Addr)
      (message : List ℕ) (facts : PlainFacts)
      → Reaches settings primaries allowed events world
      → AreAnswered world.clock (policy_of world)
      (incoming_of (is_allowed world.allowed client) message client transport)
      world.sessions.cached [] facts
      → AreObtained settings primaries allowed worker
      (Query worker transport client message ∷ events) (policy_of world)
      (incoming_of (is_allowed world.allowed client) message client transport) facts
  -- Bytes come for the question that it asked, and are cached: the fact is what they say under the ID that was asked with. Behind
  -- it comes what live entries of the cache say.
  given : (events : List Event) (world : World) (message : List ℕ) (pending : PendingQuery)
      (facts : PlainFacts)
      → Reaches settings primaries allowed events world → IsPendingAt world worker pending
      → AreObtained settings primaries allowed worker events pending.policy pending.incoming
      pending.facts
      → turn_by pending.policy pending.incoming pending.facts ≡ turn.Ask pending.question
      → AreAnswered world.clock pending.policy pending.incoming
      (after_keep CACHE_LIMIT (learned_by pending message world.clock) world.sessions.cached)
      (facts_with pending (fact_from message pending.id pending.question)) facts
      → AreObtained settings primaries allowed worker (Give worker message ∷ events) pending.policy
      pending.incoming facts
  -- Nothing comes for the question that it asked: that is the fact.
  failed : (events : List Event) (world : World) (pending : PendingQuery) (facts : PlainFacts)
      → Reaches settings primaries allowed events world → IsPendingAt world worker pending
      → AreObtained settings primaries allowed worker events pending.policy pending.incoming
      pending.facts
      → turn_by pending.policy pending.incoming pending.facts ≡ turn.Ask pending.question
      → AreAnswered world.clock pending.policy pending.incoming world.sessions.cached
      (facts_with pending (Broken Failed)) facts
      → AreObtained settings primaries allowed worker (Fail worker ∷ events) pending.policy
      pending.incoming facts
  -- Something else happens, and the query waits as before.
  waits : (events : List Event) (event : Event) (world next : World) (pending : PendingQuery)
      → Reaches settings primaries allowed events world → IsPendingAt world worker pending
      → Reaches settings primaries allowed (event ∷ events) next → IsPendingAt next worker pending
      → AreObtained settings primaries allowed worker events pending.policy pending.incoming
      pending.facts
      → AreObtained settings primaries allowed worker (event ∷ events) pending.policy pending.incoming
      pending.facts

-- The policy is that of the world, or that of an earlier one: after so many of the accepted transfers, the first ones.
pub record IsEarlierPolicy (world : World) (policy : PlainPolicy) : Type 0 where
  pub count : ℕ
  pub within : count ≤ length world.accepted
  pub policy_is : policy ≡ policy_after world.settings (take count world.accepted)

-- A pending query waits for the answer to what its policy asks, by the facts that were obtained for it.
pub record IsPendingAs (settings : List ZoneSet) (primaries : List (Option Addr))
    (allowed : List PlainPrefix) (events : List Event) (world : World) (worker : ℕ)
    (pending : PendingQuery) : Type 0 where
  pub earlier : IsEarlierPolicy world pending.policy
  pub obtained : AreObtained settings primaries allowed worker events pending.policy
      pending.incoming pending.facts
  pub asks : turn_by pending.policy pending.incoming pending.facts ≡ turn.Ask pending.question

-- What is asked for a worker is the question of its pending query, under its ID. No live entry of the cache answers it.
pub record IsAskedAs (world : World) (worker : ℕ) (message : List ℕ) : Type 0 where
  pub pending : PendingQuery
  pub is_pending : IsPendingAt world worker pending
  pub message_is : message ≡ question_bytes pending.id pending.question
  pub unanswered : live_entry pending.question world.clock world.sessions.cached ≡ None

-- The last query of a worker is answered as its policy says, by the facts that were obtained for it. The policy is that under
-- which the query came.
pub record IsAnsweredAs (settings : List ZoneSet) (primaries : List (Option Addr))
    (allowed : List PlainPrefix) (events : List Event) (world : World) (worker : ℕ)
    (said : Said) : Type 0 where
  pub policy : PlainPolicy
  pub incoming : Incoming
  pub facts : PlainFacts
  pub earlier : IsEarlierPolicy world policy
  pub obtained : AreObtained settings primaries allowed worker events policy incoming facts
  pub answers : turn_by policy incoming facts ≡ turn.Said said

-- By one of these events these bytes came for the question of a pending query, at that second, under the ID that was asked with.
pub data IsLearned (settings : List ZoneSet) (primaries : List (Option Addr))
    (allowed : List PlainPrefix) : List Event → PlainLearned → Type 0 where
  now : (events : List Event) (world : World) (worker : ℕ) (message : List ℕ)
      (pending : PendingQuery)
      → Reaches settings primaries allowed events world → IsPendingAt world worker pending
      → IsLearned settings primaries allowed (Give worker message ∷ events)
      (learned_by pending message world.clock)
  before : (events : List Event) (event : Event) (entry : PlainLearned)
      → IsLearned settings primaries allowed events entry
      → IsLearned settings primaries allowed (event ∷ events) entry
