-- What becomes of a message, by what its query came to.
use Rattle.std.proofs.Common.{◌≡◌, ℕ, Bool, List, Option, Result, Ok, Err, sym, ap, ◌∙◌}
use Rattle.std.specs.declared.alloc.AllocError.{AllocError}
use Rattle.policy_publish.specs.Stores.{Store}
use Rattle.dns_message.specs.declared.question.Question.{Question}
use Rattle.reply_build.specs.declared.said.Said.{Said}
use Rattle.rpz_workers.specs.declared.answered.Answered.{Answered}
use Rattle.rpz_workers.specs.declared.answered.Answered.TheVariants as answered
use Rattle.rpz_workers.specs.declared.item.Job.{Job}
use Rattle.rpz_workers.specs.declared.outcome.Outcome.{Outcome}
use Rattle.rpz_workers.specs.declared.outcome.Outcome.TheVariants as outcome
use Rattle.rpz_workers.specs.Answering.{Answers, PlainWorker}
use Rattle.rpz_workers.specs.Passed.{PlainPassed}
use Rattle.rpz_workers.specs.Passing.{PassesOnAs, Settles, outcome_by, passed_after}

module _ {L : Type 0} (store : Store) (gave : List ℕ → List ℕ → ℕ → Type 0) (passes_on : Bool) (job : Job) (now : ℕ) (came_to : Result Answered AllocError) (old new : PlainWorker L) where
  -- it is answered
  pub said_settles : (said : Said) (passed : Option (List PlainPassed)) → came_to ≡ Ok (answered.Said said) → Answers store gave passes_on job now came_to old new
      → Settles store gave passes_on job now (outcome.Said said) old new passed passed
  said_settles said passed is answers =
      record {
        came_to = came_to;
        tried = Ok tt;
        answers = answers;
        what_is = sym (ap (λ (r : Result Answered AllocError). outcome_by r (Ok tt)) is);
        passed_is = sym (ap (λ (r : Result Answered AllocError). passed_after passed r (Ok tt) job now new.known.seen) is);
      }

  -- it needs the upstream
  pub needs_settles : (question : Question) (what : Outcome) (passed passed_then : Option (List PlainPassed)) → came_to ≡ Ok (answered.Needs question) → Answers store gave passes_on job now came_to old new
      → PassesOnAs passed job question now new.known.seen what passed_then
      → Settles store gave passes_on job now what old new passed passed_then
  needs_settles question what passed passed_then is answers passes =
      record {
        came_to = came_to;
        tried = passes.tried;
        answers = answers;
        what_is = passes.what_is ∙ sym (ap (λ (r : Result Answered AllocError). outcome_by r passes.tried) is);
        passed_is = passes.passed_is ∙ sym (ap (λ (r : Result Answered AllocError). passed_after passed r passes.tried job now new.known.seen) is);
      }

  -- memory ran out
  pub none_settles : (error : AllocError) (passed : Option (List PlainPassed)) → came_to ≡ Err error → Answers store gave passes_on job now came_to old new
      → Settles store gave passes_on job now outcome.NoMemory old new passed passed
  none_settles error passed is answers =
      record {
        came_to = came_to;
        tried = Ok tt;
        answers = answers;
        what_is = sym (ap (λ (r : Result Answered AllocError). outcome_by r (Ok tt)) is);
        passed_is = sym (ap (λ (r : Result Answered AllocError). passed_after passed r (Ok tt) job now new.known.seen) is);
      }
