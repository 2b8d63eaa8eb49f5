-- What the turns of a query come to where live entries of the cache answer what it asks.
use Rattle.std.specs.Prelude.{◌≡◌, ℕ, true, List, [], ◌∷◌, ◌++◌, Contains}
use Rattle.dns_message.specs.declared.question.Question.{Question}
use Rattle.dns_message.specs.declared.request.Incoming.{Incoming}
use Rattle.upstream_link.specs.Facts.{PlainFacts}
use Rattle.upstream_link.specs.Vouched.{PlainLearned, fact_at, live}
use Rattle.answer_cache.specs.Recent.{is_about}
use Rattle.reply_build.specs.declared.turn.Turn.TheVariants.{Ask}
use Rattle.policy_snapshot.specs.Policy.{PlainPolicy}
use Rattle.query_session.specs.Session.{turn_by}

-- The later facts are these, and behind them only what live entries of the cache say: each about the question that the turn by
-- the facts before it asks.
pub data AreAnswered (now : ℕ) (policy : PlainPolicy) (incoming : Incoming)
    (cached : List PlainLearned) : PlainFacts → PlainFacts → Type 0 where
  no_more : (facts : PlainFacts) → AreAnswered now policy incoming cached facts facts
  one_more : (facts later : PlainFacts) (question : Question) (entry : PlainLearned)
      → turn_by policy incoming facts ≡ Ask question
      → Contains cached entry → is_about question entry ≡ true → live now entry ≡ true
      → AreAnswered now policy incoming cached (facts ++ (question, fact_at now entry) ∷ []) later
      → AreAnswered now policy incoming cached facts later
