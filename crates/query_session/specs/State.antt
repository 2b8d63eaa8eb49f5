-- The state of a session.
use Rattle.std.specs.Prelude.{Option}
use Rattle.dns_message.specs.declared.question.Question.{Question}
use Rattle.dns_message.specs.declared.request.Incoming.{Incoming}
use Rattle.policy_snapshot.specs.Policy.{PlainPolicy}
use Rattle.upstream_link.specs.Facts.{PlainFacts}

-- the policy that it began under, the query (or what else the message was), what is known, and what the last turn asked for,
-- until a fact is given
pub record SessionState : Type 0 where
  pub policy : PlainPolicy
  pub incoming : Incoming
  pub facts : PlainFacts
  pub asked : Option Question
