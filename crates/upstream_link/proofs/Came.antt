-- What bytes say is never that nothing came.
use Rattle.std.proofs.Common.{◌≡◌, ◌∙◌, ℕ, Bool, true, false, cond, List, Result, Ok, Err, refl}
use Rattle.dns_message.specs.declared.fault.MessageFault.{MessageFault}
use Rattle.dns_message.specs.declared.message.Message.{Message}
use Rattle.dns_message.specs.declared.question.Question.{Question}
use Rattle.dns_message.specs.Reading.{message_of}
use Rattle.upstream_link.specs.declared.fact.Fact.{Fact}
use Rattle.upstream_link.specs.declared.fact.Fact.TheVariants.{Answer, Broken}
use Rattle.upstream_link.specs.declared.fact.AnswerFault.TheVariants.{Failed, Unusable, Rcode}
use Rattle.upstream_link.specs.Fact.{answer_in, answers_to, fact_by, fact_from, fact_in, is_answer_rcode, is_failed}
use Rattle.upstream_link.specs.Life.{with_age}

came_either : (b : Bool) (x y : Fact) → is_failed x ≡ false → is_failed y ≡ false → is_failed (cond b x y) ≡ false
came_either true x y hx hy = hx
came_either false x y hx hy = hy

came_by : (octets : List ℕ) (id : ℕ) (question : Question) (read : Result Message MessageFault) → is_failed (fact_by octets id question read) ≡ false
came_by octets id question (Ok m) =
    came_either (answers_to id question m) (fact_in m) (Broken (Unusable octets))
    (came_either (is_answer_rcode m.header.rcode) (Answer (answer_in m)) (Broken (Rcode m.header.rcode)) refl refl) refl
came_by octets id question (Err fault) = refl

came : (octets : List ℕ) (id : ℕ) (question : Question) → is_failed (fact_from octets id question) ≡ false
unfolding fact_from
came octets id question = came_by octets id question (message_of octets)

with_age_came : (seconds : ℕ) (fact : Fact) → is_failed (with_age seconds fact) ≡ is_failed fact
with_age_came seconds (Answer answer) = refl
with_age_came seconds (Broken Failed) = refl
with_age_came seconds (Broken (Unusable octets)) = refl
with_age_came seconds (Broken (Rcode rcode)) = refl

pub came_at : (octets : List ℕ) (id : ℕ) (question : Question) (seconds : ℕ) → is_failed (with_age seconds (fact_from octets id question)) ≡ false
came_at octets id question seconds = with_age_came seconds (fact_from octets id question) ∙ came octets id question
