-- What is done for a client that may not ask.
use Rattle.std.proofs.Common.{◌≡◌, ℕ, Bool, false, List, [], ◌∷◌, refl, sym, ap, ◌∙◌}
use Rattle.edge_io.specs.Chain.{Chain, Stage}
use Rattle.ip_prefix.specs.declared.Addr.{Addr}
use Rattle.ip_prefix.specs.declared.Transport.{Transport}
use Rattle.networks.specs.Allowed.{is_allowed}
use Rattle.dns_message.specs.declared.question.Question.{Question}
use Rattle.dns_message.specs.declared.request.Incoming.{Incoming}
use Rattle.dns_message.specs.Request.{incoming_of}
use Rattle.upstream_link.specs.Facts.{PlainFacts}
use Rattle.policy_snapshot.specs.Policy.{PlainPolicy, policy_after}
use Rattle.policy_publish.specs.Stores.{Store}
use Rattle.query_session.specs.Session.{said_outside, turn_by}
use Rattle.reply_build.specs.declared.said.Said.{Said}
use Rattle.reply_build.specs.declared.turn.Turn.{Turn}
use Rattle.reply_build.specs.declared.turn.Turn.TheVariants as turn
use Rattle.rpz_workers.specs.declared.item.Job.{Job}
use Rattle.rpz_workers.specs.declared.obtained.Obtained.{Obtained}
use Rattle.rpz_workers.specs.Answering.{IsAnswer, NeedsUpstream, PlainWorker, beginning, incoming_for, obtained_in}
use Rattle.rpz_workers.specs.Laws.{IsTurnedAway}
use Rattle.rpz_workers.specs.Obtaining.{Inquiry, Obtains}

-- what the law of sessions says
abbrev pub WhatIsSaidOutside : Type 0
WhatIsSaidOutside = (bytes : List ℕ) (client : Addr) (transport : Transport) (policy : PlainPolicy) (facts : PlainFacts) → turn_by policy (incoming_of false bytes client transport) facts ≡ turn.Said (said_outside bytes)

-- a turn that says something asks nothing
asks_nothing : (said : Said) (question : Question) (t : Turn) → t ≡ turn.Said said → t ≡ turn.Ask question → ⊥
asks_nothing said question t says asks = let e : turn.Said said ≡ turn.Ask question = sym says ∙ asks in absurd cc

same_said : (one other : Said) (t : Turn) → t ≡ turn.Said one → t ≡ turn.Said other → one ≡ other
same_said one other t is also = let e : turn.Said one ≡ turn.Said other = sym is ∙ also in cc

-- what is said to the message of a job
spoken_outside : WhatIsSaidOutside → (store : Store) (job : Job) (policy : PlainPolicy) → is_allowed store.allowed job.peer.addr ≡ false → (facts : PlainFacts) → turn_by policy (incoming_for store job) facts ≡ turn.Said (said_outside job.message)
spoken_outside says store job policy outside facts =
    ap (λ (may_ask : Bool). turn_by policy (incoming_of may_ask job.message job.peer.addr job.transport) facts) outside
    ∙ says job.message job.peer.addr job.transport policy facts

module _ {L : Type 0} (says : WhatIsSaidOutside) (store : Store) (gave : List ℕ → List ℕ → ℕ → Type 0) (passes_on : Bool) (job : Job) (now : ℕ) where
  -- a query that asks nothing obtains nothing
  none_obtained : (policy : PlainPolicy) (incoming : Incoming) (said : Said) (first last : Inquiry) (stages : List (Stage Inquiry (Obtained L))) → ((facts : PlainFacts) → turn_by policy incoming facts ≡ turn.Said said)
      → Chain (Obtains gave passes_on now policy incoming) first stages last → (stages ≡ []) × (last ≡ first)
  none_obtained policy incoming said first last [] spoken chain = (refl, chain)
  none_obtained policy incoming said first last (stage ∷ stages) spoken chain = absurd (asks_nothing said chain.0.question (turn_by policy incoming stage.before.facts) (spoken stage.before.facts) chain.0.asks)

  pub outside_answer : (said : Said) (old new : PlainWorker L) → is_allowed store.allowed job.peer.addr ≡ false → IsAnswer store gave passes_on job now said old new → IsTurnedAway job.message said old new
  outside_answer said old new outside answer =
      let policy = policy_after store.settings new.known.seen in
      let spoken = spoken_outside says store job policy outside in
      let none = none_obtained policy (incoming_for store job) (said_outside job.message) (beginning old) answer.last answer.stages spoken answer.obtains in
      record {
        said_is = same_said said (said_outside job.message) (turn_by policy (incoming_for store job) answer.last.facts) answer.says (spoken answer.last.facts);
        obtained = answer.obtained ∙ ap (λ (stages : List (Stage Inquiry (Obtained L))). obtained_in stages) none.0;
        cached = answer.cached ∙ ap (λ (i : Inquiry). i.cached) none.1;
        ids = answer.ids ∙ ap (λ (i : Inquiry). i.ids) none.1;
        link_faults = answer.link_faults ∙ ap (λ (i : Inquiry). i.link_faults) none.1;
      }

  pub outside_never_asks : (question : Question) (old new : PlainWorker L) → is_allowed store.allowed job.peer.addr ≡ false → NeedsUpstream store gave passes_on job now question old new → ⊥
  outside_never_asks question old new outside needs =
      let policy = policy_after store.settings new.known.seen in
      asks_nothing (said_outside job.message) question (turn_by policy (incoming_for store job) needs.last.facts) (spoken_outside says store job policy outside needs.last.facts) needs.asks
