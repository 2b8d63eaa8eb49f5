-- The turns of a query, where live entries of the cache answer what it asks (RFC 2308, section 5).
use Rattle.std.specs.Prelude.{ℕ, zero, suc, List, [], ◌∷◌, ◌++◌, Option, Some, None}
use Rattle.dns_message.specs.declared.question.Question.{Question}
use Rattle.dns_message.specs.declared.request.Incoming.{Incoming}
use Rattle.upstream_link.specs.declared.facts.TheConstants.{FACT_LIMIT}
use Rattle.upstream_link.specs.Facts.{PlainFacts}
use Rattle.upstream_link.specs.Vouched.{PlainLearned, fact_at}
use Rattle.answer_cache.specs.Recent.{live_entry, after_look_up}
use Rattle.reply_build.specs.declared.turn.Turn.{Turn}
use Rattle.reply_build.specs.declared.turn.Turn.TheVariants.{Ask, Said}
use Rattle.policy_snapshot.specs.Policy.{PlainPolicy}
use Rattle.query_session.specs.Session.{turn_by}

-- what is cached and what is known by now, and what is done
pub record Resolved : Type 0 where
  pub cached : List PlainLearned
  pub facts : PlainFacts
  pub turn : Turn

abbrev pub resolution : List PlainLearned → PlainFacts → Turn → Resolved
resolution cached facts turn = record { cached = cached; facts = facts; turn = turn }

-- a question that no live entry answers is asked; what a live one says, at its age, is known, and the query goes on
abbrev pub by_entry : (List PlainLearned → PlainFacts → Resolved) → ℕ → List PlainLearned →
    PlainFacts → Question → Option PlainLearned → Resolved
by_entry go_on now cached facts question None = resolution cached facts (Ask question)
by_entry go_on now cached facts question (Some entry) =
    go_on cached (facts ++ (question, fact_at now entry) ∷ [])

-- what a turn asks is looked up in the cache
abbrev pub by_turn : (List PlainLearned → PlainFacts → Resolved) → ℕ → List PlainLearned →
    PlainFacts → Turn → Resolved
by_turn go_on now cached facts (Ask question) =
    by_entry go_on now (after_look_up question cached) facts question
    (live_entry question now cached)
by_turn go_on now cached facts (Said s) = resolution cached facts (Said s)

-- the turns of a query under a policy at this second, with these facts, where the cache may answer so many questions
unfoldable pub resolve_within : ℕ → ℕ → PlainPolicy → Incoming → List PlainLearned → PlainFacts →
    Resolved
resolve_within zero now policy incoming cached facts =
    resolution cached facts (turn_by policy incoming facts)
resolve_within (suc left) now policy incoming cached facts =
    by_turn (resolve_within left now policy incoming) now cached facts
    (turn_by policy incoming facts)

-- The turns of a query under a policy at this second, with these facts: what it asks is answered by live entries of the cache,
-- until a question has none, or it is done. There are never more facts than FACT_LIMIT.
abbrev pub resolve : ℕ → PlainPolicy → Incoming → List PlainLearned → PlainFacts → Resolved
resolve now policy incoming cached facts =
    resolve_within FACT_LIMIT now policy incoming cached facts
