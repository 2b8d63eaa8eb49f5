-- The facts that are obtained for a query are such as are kept.
use Rattle.std.proofs.Common.{ℕ, List, Option, [], ◌∷◌, ◌++◌, subst}
use Rattle.dns_message.specs.declared.question.Question.{Question}
use Rattle.ip_prefix.specs.declared.Addr.{Addr}
use Rattle.ip_prefix.specs.Prefix.{PlainPrefix}
use Rattle.dns_message.specs.declared.request.Incoming.{Incoming}
use Rattle.upstream_link.specs.declared.fact.Fact.{Fact}
use Rattle.upstream_link.specs.declared.fact.Fact.TheVariants.{Broken}
use Rattle.upstream_link.specs.declared.fact.AnswerFault.TheVariants.{Failed}
use Rattle.upstream_link.specs.Fact.{fact_from}
use Rattle.upstream_link.specs.Facts.{AreKept, IsKept, PlainFacts}
use Rattle.upstream_link.specs.Life.{with_age}
use Rattle.upstream_link.specs.Vouched.{PlainLearned, fact_at}
use Rattle.policy_override.specs.declared.zone_set.ZoneSet.{ZoneSet}
use Rattle.policy_snapshot.specs.Policy.{PlainPolicy}
use Rattle.rpz_core.specs.declared.event.Event.{Event}
use Rattle.rpz_core.specs.Answered.{AreAnswered, no_more, one_more}
use Rattle.rpz_core.specs.History.{AreObtained, comes, failed, given, waits}
use Rattle.rpz_core.proofs.Histories.{new_fact}

-- what the law of sessions says
abbrev pub WhatIsSaidIsKept : Type 0
WhatIsSaidIsKept = (octets : List ℕ) (id : ℕ) (question : Question) (seconds : ℕ) → IsKept (with_age seconds (fact_from octets id question))

kept_push : (facts : PlainFacts) (question : Question) (fact : Fact) → AreKept facts → IsKept fact → AreKept (facts ++ (question, fact) ∷ [])
kept_push [] question fact kept one = (one, tt)
kept_push (e ∷ facts) question fact kept one = (kept.0, kept_push facts question fact kept.1 one)

module _ (said : WhatIsSaidIsKept) where
  kept_later : (now : ℕ) (policy : PlainPolicy) (incoming : Incoming) (cached : List PlainLearned) (facts later : PlainFacts) → AreAnswered now policy incoming cached facts later → AreKept facts → AreKept later
  kept_later now policy incoming cached facts _ (no_more _) kept = kept
  kept_later now policy incoming cached facts later (one_more _ _ question entry asks is about holds rest) kept =
      kept_later now policy incoming cached (facts ++ (question, fact_at now entry) ∷ []) later rest (kept_push facts question (fact_at now entry) kept (said entry.bytes entry.id entry.question _))

  said_now : (octets : List ℕ) (id : ℕ) (question : Question) → IsKept (fact_from octets id question)
  said_now octets id question = subst IsKept (new_fact octets id question) (said octets id question 0)

  pub obtained_kept : (settings : List ZoneSet) (primaries : List (Option Addr)) (allowed : List PlainPrefix) (worker : ℕ) (events : List Event) (policy : PlainPolicy) (incoming : Incoming) (facts : PlainFacts) → AreObtained settings primaries allowed worker events policy incoming facts → AreKept facts
  obtained_kept settings primaries allowed worker _ _ _ _ (comes events world transport client message facts reached known) = kept_later _ _ _ _ [] facts known tt
  obtained_kept settings primaries allowed worker _ _ _ _ (given events world message pending facts reached at before asks known) =
      kept_later _ _ _ _ _ facts known (kept_push pending.facts pending.question (fact_from message pending.id pending.question) (obtained_kept settings primaries allowed worker events pending.policy pending.incoming pending.facts before) (said_now message pending.id pending.question))
  obtained_kept settings primaries allowed worker _ _ _ _ (failed events world pending facts reached at before asks known) =
      kept_later _ _ _ _ _ facts known (kept_push pending.facts pending.question (Broken Failed) (obtained_kept settings primaries allowed worker events pending.policy pending.incoming pending.facts before) tt)
  obtained_kept settings primaries allowed worker _ _ _ _ (waits events event world next pending reached at after still before) =
      obtained_kept settings primaries allowed worker events pending.policy pending.incoming pending.facts before
