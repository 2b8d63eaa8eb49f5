-- The answer of one query by a worker.
use Rattle.std.specs.Prelude.{◌≡◌, ◌≤◌, ◌⊎◌, ℕ, Bool, true, List, [], ◌∷◌, ◌++◌, Option, None, Result, Ok, Err}
use Rattle.policy_publish.specs.Stores.{Store}
use mathlib.Core.List.{IsPrefix}
use Rattle.edge_io.specs.Chain.{Chain, Stage}
use Rattle.networks.specs.Allowed.{is_allowed}
use Rattle.dns_message.specs.Request.{incoming_of}
use Rattle.dns_message.specs.declared.request.Incoming.{Incoming}
use Rattle.dns_message.specs.declared.question.Question.{Question}
use Rattle.answer_cache.specs.Keeps.{IsFound, emptied, looked_up}
use Rattle.answer_cache.specs.Recent.{Recent}
use Rattle.policy_snapshot.specs.Policy.{policy_after}
use Rattle.policy_publish.specs.Lists.{GoesOn, Known}
use Rattle.query_session.specs.Session.{turn_by}
use Rattle.reply_build.specs.Short.{IsShort}
use Rattle.reply_build.specs.declared.said.Said.{Said}
use Rattle.reply_build.specs.declared.turn.Turn.TheVariants as turn
use Rattle.rpz_workers.specs.declared.answered.Answered.{Answered}
use Rattle.rpz_workers.specs.declared.answered.Answered.TheVariants as answered
use Rattle.rpz_workers.specs.declared.item.Job.{Job}
use Rattle.rpz_workers.specs.declared.obtained.Obtained.{Obtained}
use Rattle.rpz_workers.specs.Obtaining.{Inquiry, Obtains, limit_of}

-- What contracts see of a worker. These are the list of transfers that it saw last and the longest that it was told, the
-- entries of its cache and how many there may be, if it tells them, the IDs that are still to come, if they are known, how
-- often its link has failed, and what it obtained for its last query, in order.
pub record PlainWorker (L : Type 0) : Type 0 where
  pub known : Known
  pub cached : Option Recent
  pub ids : Option (List ℕ)
  pub link_faults : ℕ
  pub obtained : List (Obtained L)

-- where a query begins, nothing is known
abbrev pub beginning : {L : Type 0} → PlainWorker L → Inquiry
beginning worker =
    record {
      facts = [];
      cached = worker.cached;
      ids = worker.ids;
      link_faults = worker.link_faults;
    }

-- what was obtained, in order; the last stands first in the stages
abbrev pub obtained_in : {L : Type 0} → List (Stage Inquiry (Obtained L)) → List (Obtained L)
obtained_in [] = []
obtained_in (stage ∷ stages) = obtained_in stages ++ stage.turn ∷ []

-- What is done with the message of a job: its client may ask where the list of the store allows it.
abbrev pub incoming_for : Store → Job → Incoming
incoming_for store job =
    incoming_of (is_allowed store.allowed job.peer.addr) job.message job.peer.addr job.transport

-- The message is answered by the policy after the list of transfers that is then seen, and by the facts that the query
-- obtained. The list begins with the one that was seen before and with each that the worker was told. The facts are obtained
-- one after another, each for the question that comes next; after the last nothing is asked, and this is said.
pub record IsAnswer {L : Type 0} (store : Store)
    (gave : List ℕ → List ℕ → ℕ → Type 0) (passes_on : Bool) (job : Job) (now : ℕ) (said : Said)
    (old new : PlainWorker L) : Type 0 where
  pub stages : List (Stage Inquiry (Obtained L))
  pub last : Inquiry
  pub obtains : Chain (Obtains gave passes_on now (policy_after store.settings new.known.seen)
      (incoming_for store job)) (beginning old) stages last
  pub says : turn_by (policy_after store.settings new.known.seen)
      (incoming_for store job) last.facts ≡ turn.Said said
  pub obtained : new.obtained ≡ obtained_in stages
  pub goes_on : GoesOn old.known new.known.seen
  pub told : new.known.told ≡ old.known.told
  pub cached : new.cached ≡ last.cached
  pub limit : limit_of new.cached ≡ limit_of old.cached
  pub ids : new.ids ≡ last.ids
  pub link_faults : new.link_faults ≡ last.link_faults

-- The message needs the upstream: by the same policy, and by what live entries of the cache gave, one after another, this question
-- comes next. No live entry of the cache is about it, where the cache tells its entries, and the worker asks nobody.
pub record NeedsUpstream {L : Type 0} (store : Store)
    (gave : List ℕ → List ℕ → ℕ → Type 0) (passes_on : Bool) (job : Job) (now : ℕ)
    (question : Question) (old new : PlainWorker L) : Type 0 where
  pub stages : List (Stage Inquiry (Obtained L))
  pub last : Inquiry
  pub obtains : Chain (Obtains gave passes_on now (policy_after store.settings new.known.seen)
      (incoming_for store job)) (beginning old) stages last
  pub asks : turn_by (policy_after store.settings new.known.seen)
      (incoming_for store job) last.facts ≡ turn.Ask question
  pub not_found : IsFound question now None last.cached
  pub asks_nobody : passes_on ≡ true
  pub obtained : new.obtained ≡ obtained_in stages
  pub goes_on : GoesOn old.known new.known.seen
  pub told : new.known.told ≡ old.known.told
  pub cached : new.cached ≡ looked_up question last.cached
  pub limit : limit_of new.cached ≡ limit_of old.cached
  pub ids : new.ids ≡ last.ids
  pub link_faults : new.link_faults ≡ last.link_faults

-- Memory ran out. A later list may be seen, IDs may be used, and the cache is as it was, or empty, where it tells its entries.
pub record IsNoAnswer {L : Type 0} (old new : PlainWorker L) : Type 0 where
  pub seen : IsPrefix old.known.seen new.known.seen
  pub told : new.known.told ≡ old.known.told
  pub cached : (new.cached ≡ old.cached) ⊎ (new.cached ≡ emptied old.cached)
  pub limit : limit_of new.cached ≡ limit_of old.cached
  pub link_faults : old.link_faults ≤ new.link_faults
  pub obtained : new.obtained ≡ []

-- what the query of a message came to, or that memory ran out
abbrev pub Answers : {L E : Type 0} → Store → (List ℕ → List ℕ → ℕ → Type 0) → Bool → Job → ℕ →
    Result Answered E → PlainWorker L → PlainWorker L → Type 0
Answers store gave passes_on job now (Ok (answered.Said said)) old new =
    IsAnswer store gave passes_on job now said old new
Answers store gave passes_on job now (Ok (answered.Needs question)) old new =
    NeedsUpstream store gave passes_on job now question old new
Answers store gave passes_on job now (Err e) old new = IsNoAnswer old new

-- what is said fits into a message; a question that is to be asked is none
abbrev pub IsShortAnswer : Answered → Type 0
IsShortAnswer (answered.Said said) = IsShort said
IsShortAnswer (answered.Needs question) = Unit {0}
