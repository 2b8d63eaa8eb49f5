-- What a worker passes on, and what becomes of a message.
use Rattle.std.specs.Prelude.{◌≡◌, ℕ, Bool, List, Option, Result, Ok, Err}
use Rattle.std.specs.declared.alloc.AllocError.{AllocError}
use Rattle.policy_publish.specs.Stores.{Store}
use Rattle.edge_io.specs.Told.{more_if_ok}
use Rattle.dns_message.specs.declared.question.Question.{Question}
use Rattle.policy_snapshot.specs.declared.entry.Entry.{Entry}
use Rattle.reply_build.specs.Short.{IsShort}
use Rattle.rpz_workers.specs.declared.answered.Answered.{Answered}
use Rattle.rpz_workers.specs.declared.answered.Answered.TheVariants as answered
use Rattle.rpz_workers.specs.declared.item.Job.{Job}
use Rattle.rpz_workers.specs.declared.outcome.Outcome.{Outcome}
use Rattle.rpz_workers.specs.declared.outcome.Outcome.TheVariants as outcome
use Rattle.rpz_workers.specs.Answering.{Answers, PlainWorker}
use Rattle.rpz_workers.specs.Passed.{PlainPassed}

-- whether a message that needed the upstream was passed on
abbrev pub Tried : Type 0
Tried = Result (Unit {0}) AllocError

-- what becomes of a message whose query came to this, where passing it on, if it was tried, went so
abbrev pub outcome_by : {E : Type 0} → Result Answered E → Tried → Outcome
outcome_by (Ok (answered.Said said)) tried = outcome.Said said
outcome_by (Ok (answered.Needs question)) (Ok done) = outcome.PassedOn
outcome_by (Ok (answered.Needs question)) (Err e) = outcome.NoMemory
outcome_by (Err e) tried = outcome.NoMemory

-- what was passed on by then
abbrev pub passed_after : {E : Type 0} → Option (List PlainPassed) → Result Answered E → Tried →
    Job → ℕ → List Entry → Option (List PlainPassed)
passed_after passed (Ok (answered.Said said)) tried job now seen = passed
passed_after passed (Ok (answered.Needs question)) tried job now seen =
    more_if_ok passed tried
    (record { job = job; question = question; now = now; seen = seen })
passed_after passed (Err e) tried job now seen = passed

-- The query of a message is answered; or it needs the upstream, and the message is passed on with the list of transfers that the
-- worker has then seen, if there is room for it; or memory runs out.
pub record Settles {L : Type 0} (store : Store)
    (gave : List ℕ → List ℕ → ℕ → Type 0) (passes_on : Bool) (job : Job) (now : ℕ) (what : Outcome)
    (worker worker_then : PlainWorker L) (passed passed_then : Option (List PlainPassed)) : Type
    0 where
  pub came_to : Result Answered AllocError
  pub tried : Tried
  pub answers : Answers store gave passes_on job now came_to worker worker_then
  pub what_is : what ≡ outcome_by came_to tried
  pub passed_is : passed_then
      ≡ passed_after passed came_to tried job now worker_then.known.seen

-- Passing on a message came to this: it was taken, or there was no room for it.
pub record PassesOnAs (passed : Option (List PlainPassed)) (job : Job) (question : Question)
    (now : ℕ) (seen : List Entry) (what : Outcome) (passed_then : Option (List PlainPassed)) : Type
    0 where
  pub tried : Tried
  pub what_is : what ≡ outcome_by {E = AllocError} (Ok (answered.Needs question)) tried
  pub passed_is : passed_then
      ≡ passed_after {E = AllocError} passed (Ok (answered.Needs question)) tried job now seen

-- what is said fits into a message
abbrev pub IsShortOutcome : Outcome → Type 0
IsShortOutcome (outcome.Said said) = IsShort said
IsShortOutcome outcome.NoMemory = Unit {0}
IsShortOutcome outcome.PassedOn = Unit {0}
