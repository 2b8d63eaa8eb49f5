-- What contracts see of a message that was passed on.
use Rattle.std.specs.Prelude.{ℕ, List}
use Rattle.dns_message.specs.declared.question.Question.{Question}
use Rattle.policy_snapshot.specs.declared.entry.Entry.{Entry}
use Rattle.rpz_workers.specs.declared.item.Job.{Job}

-- a message that needs the upstream, the question that is to be asked first, the second at which the message came, and the list of
-- transfers that the worker had seen
pub record PlainPassed : Type 0 where
  pub job : Job
  pub question : Question
  pub now : ℕ
  pub seen : List Entry
