-- What is obtained for the questions of one query at a second: live entries of a cache answer first, and then a link is asked
-- (RFC 2308, section 5).
use Rattle.std.specs.Prelude.{◌≡◌, ◌≤◌, ◌⊎◌, ℕ, Bool, false, List, [], ◌∷◌, ◌++◌, Option, Some, None, option_map}
use Rattle.edge_io.specs.Edge.{Rose}
use Rattle.edge_io.specs.Told.{ComesNext}
use Rattle.dns_message.specs.declared.question.Question.{Question}
use Rattle.dns_message.specs.declared.request.Incoming.{Incoming}
use Rattle.upstream_link.specs.Asking.{AsksAt}
use Rattle.upstream_link.specs.declared.fact.Fact.{Fact}
use Rattle.upstream_link.specs.declared.fact.Fact.TheVariants.{Broken}
use Rattle.upstream_link.specs.declared.fact.AnswerFault.TheVariants as why
use Rattle.upstream_link.specs.Facts.{PlainFacts}
use Rattle.upstream_link.specs.Vouched.{PlainLearned, Vouched, fact_at}
use Rattle.answer_cache.specs.Keeps.{IsFound, kept, looked_up}
use Rattle.answer_cache.specs.Recent.{Recent, Serves}
use Rattle.policy_snapshot.specs.Policy.{PlainPolicy}
use Rattle.query_session.specs.Session.{turn_by}
use Rattle.reply_build.specs.declared.turn.Turn.TheVariants as turn
use Rattle.rpz_workers.specs.declared.obtained.Obtained.{Obtained}
use Rattle.rpz_workers.specs.declared.obtained.Obtained.TheVariants.{Learned, Failed}

-- What contracts see between two questions of a query. These are what is known, the entries of the cache and how many there may
-- be, if it tells them, the IDs that are still to come, if they are known, and how often the link has failed.
pub record Inquiry : Type 0 where
  pub facts : PlainFacts
  pub cached : Option Recent
  pub ids : Option (List ℕ)
  pub link_faults : ℕ

-- a question has this answer from now on
abbrev pub with_fact : PlainFacts → Question → Fact → PlainFacts
with_fact facts question fact = facts ++ (question, fact) ∷ []

-- how many entries the cache may have, where it tells them
abbrev pub limit_of : Option Recent → Option ℕ
limit_of cached = option_map (λ (cache : Recent). cache.limit) cached

-- what was learned is kept, or memory ran out and the cache is as it was
abbrev pub MayKeep : PlainLearned → Option Recent → Option Recent → Type 0
MayKeep entry before after = (after ≡ kept entry before) ⊎ (after ≡ before)

-- A live entry of the cache about the question answers it, at its age: the one that a look-up finds, where the cache tells its
-- entries, and it goes first there. A link of the kind gave it.
pub record FromCache (gave : List ℕ → List ℕ → ℕ → Type 0) (now : ℕ) (question : Question)
    (entry : PlainLearned) (before after : Inquiry) : Type 0 where
  pub is_found : IsFound question now (Some entry) before.cached
  pub serves : Serves question now entry
  pub vouched : Vouched gave entry.question (fact_at now entry) now
  pub facts : after.facts ≡ with_fact before.facts question (fact_at now entry)
  pub cached : after.cached ≡ looked_up question before.cached
  pub ids : after.ids ≡ before.ids
  pub link_faults : after.link_faults ≡ before.link_faults

-- No live entry of the cache is about the question, where it tells its entries. The link is asked in a message of the next ID, and
-- what it gives is known, and kept in the cache. Who passes on what needs the upstream asks no link.
pub record FromLink (gave : List ℕ → List ℕ → ℕ → Type 0) (passes_on : Bool) (now : ℕ)
    (question : Question) (entry : PlainLearned) (before after : Inquiry) : Type 0 where
  pub may_ask : passes_on ≡ false
  pub not_found : IsFound question now None before.cached
  pub id : ℕ
  pub next : ComesNext before.ids id after.ids
  pub asks : AsksAt id question now entry
  pub vouched : Vouched gave entry.question (fact_at now entry) now
  pub facts : after.facts ≡ with_fact before.facts question (fact_at now entry)
  pub cached : MayKeep entry (looked_up question before.cached) after.cached
  pub link_faults : before.link_faults ≤ after.link_faults

-- No live entry of the cache is about the question, where it tells its entries, and the link fails.
pub record LinkFails (passes_on : Bool) (now : ℕ) (question : Question)
    (before after : Inquiry) : Type 0 where
  pub may_ask : passes_on ≡ false
  pub not_found : IsFound question now None before.cached
  pub id : ℕ
  pub next : ComesNext before.ids id after.ids
  pub facts : after.facts ≡ with_fact before.facts question (Broken why.Failed)
  pub cached : after.cached ≡ looked_up question before.cached
  pub link_faults : Rose before.link_faults after.link_faults

-- how an answer was obtained for a question, or none
abbrev pub ObtainsFor : {L : Type 0} → (List ℕ → List ℕ → ℕ → Type 0) → Bool → ℕ → Question →
    Inquiry → Obtained L → Inquiry → Type 0
ObtainsFor gave passes_on now question before (Learned entry) after =
    FromCache gave now question entry before after
    ⊎ FromLink gave passes_on now question entry before after
ObtainsFor gave passes_on now question before (Failed asked) after =
    (asked ≡ question) × LinkFails passes_on now question before after

-- The question that a query under a policy asks at this point, and what is obtained for it at this second.
pub record Obtains {L : Type 0} (gave : List ℕ → List ℕ → ℕ → Type 0) (passes_on : Bool)
    (now : ℕ) (policy : PlainPolicy) (incoming : Incoming) (before : Inquiry)
    (obtained : Obtained L) (after : Inquiry) : Type 0 where
  pub question : Question
  pub asks : turn_by policy incoming before.facts ≡ turn.Ask question
  pub by : ObtainsFor gave passes_on now question before obtained after
