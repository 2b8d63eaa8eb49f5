-- The turns of one query, as the code takes them.
use Rattle.std.specs.Prelude.{◌≡◌, ◌≤◌, ℕ, Bool, true, false, List, [], ◌∷◌, ◌++◌, Option, Some, None}
use Rattle.edge_io.specs.Chain.{Chain, Stage}
use Rattle.edge_io.specs.Edge.{Rose}
use Rattle.edge_io.specs.Told.{ComesNext}
use Rattle.dns_message.specs.declared.question.Question.{Question}
use Rattle.dns_message.specs.declared.request.Incoming.{Incoming}
use Rattle.upstream_link.specs.Asking.{AsksAt}
use Rattle.upstream_link.specs.Facts.{PlainFacts}
use Rattle.upstream_link.specs.Vouched.{PlainLearned, Vouched, fact_at}
use Rattle.upstream_link.specs.declared.fact.Fact.TheVariants.{Broken}
use Rattle.upstream_link.specs.declared.fact.AnswerFault.TheVariants as why
use Rattle.answer_cache.specs.Keeps.{IsFound, looked_up}
use Rattle.answer_cache.specs.Recent.{Recent}
use Rattle.policy_snapshot.specs.Policy.{PlainPolicy}
use Rattle.query_session.specs.Session.{turn_by}
use Rattle.reply_build.specs.declared.said.Said.{Said}
use Rattle.reply_build.specs.declared.turn.Turn.TheVariants as turn
use Rattle.rpz_workers.specs.declared.answered.Answered.{Answered}
use Rattle.rpz_workers.specs.declared.answered.Answered.TheVariants as answered
use Rattle.rpz_workers.specs.declared.obtained.Obtained.{Obtained}
use Rattle.rpz_workers.specs.declared.obtained.Obtained.TheVariants.{Learned, Failed}
use Rattle.rpz_workers.specs.Obtaining.{Inquiry, MayKeep, Obtains, ObtainsFor, with_fact}
use Rattle.rpz_workers.specs.Answering.{obtained_in}

abbrev pub inquiry : PlainFacts → Option Recent → Option (List ℕ) → ℕ → Inquiry
inquiry facts cached ids link_faults =
    record { facts = facts; cached = cached; ids = ids; link_faults = link_faults }

-- the link was asked in a message of the next ID, and what it gave is known, and kept in the cache
pub record Gets (gave : List ℕ → List ℕ → ℕ → Type 0) (passes_on : Bool) (now : ℕ)
    (question : Question) (entry : PlainLearned) (before after : Inquiry) : Type 0 where
  pub may_ask : passes_on ≡ false
  pub id : ℕ
  pub next : ComesNext before.ids id after.ids
  pub asks : AsksAt id question now entry
  pub vouched : Vouched gave entry.question (fact_at now entry) now
  pub facts : after.facts ≡ with_fact before.facts question (fact_at now entry)
  pub cached : MayKeep entry before.cached after.cached
  pub link_faults : before.link_faults ≤ after.link_faults

-- the link was asked in a message of the next ID, and failed
pub record Fails (passes_on : Bool) (question : Question) (before after : Inquiry) : Type 0 where
  pub may_ask : passes_on ≡ false
  pub id : ℕ
  pub next : ComesNext before.ids id after.ids
  pub facts : after.facts ≡ with_fact before.facts question (Broken why.Failed)
  pub cached : after.cached ≡ before.cached
  pub link_faults : Rose before.link_faults after.link_faults

-- nobody was asked
pub record PassesOn (passes_on : Bool) (before after : Inquiry) : Type 0 where
  pub asks_nobody : passes_on ≡ true
  pub same : after ≡ before

-- what came of a question that the cache doesn't answer; None where nobody was asked
abbrev pub Asks : {L : Type 0} → (List ℕ → List ℕ → ℕ → Type 0) → Bool → ℕ → Question → Inquiry →
    Option (Obtained L) → Inquiry → Type 0
Asks gave passes_on now question before (Some (Learned entry)) after =
    Gets gave passes_on now question entry before after
Asks gave passes_on now question before (Some (Failed asked)) after =
    (asked ≡ question) × Fails passes_on question before after
Asks gave passes_on now question before None after = PassesOn passes_on before after

-- The question can't be answered here: no live entry of the cache is about it, where it tells its entries, and nobody is asked.
pub record LooksInVain (passes_on : Bool) (now : ℕ) (question : Question)
    (before after : Inquiry) : Type 0 where
  pub asks_nobody : passes_on ≡ true
  pub not_found : IsFound question now None before.cached
  pub facts : after.facts ≡ before.facts
  pub cached : after.cached ≡ looked_up question before.cached
  pub ids : after.ids ≡ before.ids
  pub link_faults : after.link_faults ≡ before.link_faults

-- what came of a question; None where it can't be answered here
abbrev pub TriesFor : {L : Type 0} → (List ℕ → List ℕ → ℕ → Type 0) → Bool → ℕ → Question →
    Inquiry → Option (Obtained L) → Inquiry → Type 0
TriesFor gave passes_on now question before (Some one) after =
    ObtainsFor gave passes_on now question before one after
TriesFor gave passes_on now question before None after =
    LooksInVain passes_on now question before after

-- What one turn does. Where the query comes to something, nothing is obtained; else one answer is.
abbrev pub TakesTurn : {L : Type 0} → (List ℕ → List ℕ → ℕ → Type 0) → Bool → ℕ → PlainPolicy →
    Incoming → Inquiry → Option Answered → List (Obtained L) → List (Obtained L) → Inquiry → Type 0
TakesTurn gave passes_on now policy incoming before (Some (answered.Said said)) obtained
    obtained_then after =
    (turn_by policy incoming before.facts ≡ turn.Said said) × (obtained_then ≡ obtained)
    × (after ≡ before)
TakesTurn gave passes_on now policy incoming before (Some (answered.Needs question)) obtained
    obtained_then after =
    (turn_by policy incoming before.facts ≡ turn.Ask question) × (obtained_then ≡ obtained)
    × LooksInVain passes_on now question before after
TakesTurn {L} gave passes_on now policy incoming before None obtained obtained_then after =
    (one : Obtained L)
    × (Obtains gave passes_on now policy incoming before one after
    × (obtained_then ≡ obtained ++ one ∷ []))

-- These answers, one after another, lead from the first point to the last one.
pub record Leads {L : Type 0} (gave : List ℕ → List ℕ → ℕ → Type 0) (passes_on : Bool) (now : ℕ)
    (policy : PlainPolicy) (incoming : Incoming) (first : Inquiry) (obtained : List (Obtained L))
    (last : Inquiry) : Type 0 where
  pub stages : List (Stage Inquiry (Obtained L))
  pub chain : Chain (Obtains gave passes_on now policy incoming) first stages last
  pub obtained_is : obtained ≡ obtained_in stages

-- After these answers this is said; the cache, the IDs and the count of faults are then these.
pub record Says {L : Type 0} (gave : List ℕ → List ℕ → ℕ → Type 0) (passes_on : Bool) (now : ℕ)
    (policy : PlainPolicy) (incoming : Incoming) (first : Inquiry) (said : Said)
    (obtained : List (Obtained L)) (cached : Option Recent) (ids : Option (List ℕ))
    (link_faults : ℕ) : Type 0 where
  pub facts : PlainFacts
  pub leads : Leads gave passes_on now policy incoming first obtained
      (inquiry facts cached ids link_faults)
  pub says : turn_by policy incoming facts ≡ turn.Said said

-- After these answers this question can't be answered here; the cache, the IDs and the count of faults are then these.
pub record Needs {L : Type 0} (gave : List ℕ → List ℕ → ℕ → Type 0) (passes_on : Bool) (now : ℕ)
    (policy : PlainPolicy) (incoming : Incoming) (first : Inquiry) (question : Question)
    (obtained : List (Obtained L)) (cached : Option Recent) (ids : Option (List ℕ))
    (link_faults : ℕ) : Type 0 where
  pub last : Inquiry
  pub leads : Leads gave passes_on now policy incoming first obtained last
  pub asks : turn_by policy incoming last.facts ≡ turn.Ask question
  pub in_vain : LooksInVain passes_on now question last
      (inquiry last.facts cached ids link_faults)

-- what a query comes to
abbrev pub ComesTo : {L : Type 0} → (List ℕ → List ℕ → ℕ → Type 0) → Bool → ℕ → PlainPolicy →
    Incoming → Inquiry → Answered → List (Obtained L) → Option Recent → Option (List ℕ) → ℕ → Type 0
ComesTo gave passes_on now policy incoming first (answered.Said said) obtained cached ids
    link_faults =
    Says gave passes_on now policy incoming first said obtained cached ids link_faults
ComesTo gave passes_on now policy incoming first (answered.Needs question) obtained cached ids
    link_faults =
    Needs gave passes_on now policy incoming first question obtained cached ids link_faults
