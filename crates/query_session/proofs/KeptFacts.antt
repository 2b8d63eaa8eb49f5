-- What bytes say is such as is kept.
use Rattle.std.proofs.Common.{◌≡◌, ℕ, Bool, true, false, cond, List, Result, Ok, Err, refl}
use Rattle.dns_message.specs.declared.fault.MessageFault.{MessageFault}
use Rattle.dns_message.specs.declared.message.Message.{Message}
use Rattle.dns_message.specs.declared.question.Question.{Question}
use Rattle.dns_message.specs.Reading.{message_of}
use Rattle.upstream_link.specs.declared.fact.Fact.{Fact}
use Rattle.upstream_link.specs.declared.fact.Fact.TheVariants.{Answer, Broken}
use Rattle.upstream_link.specs.declared.fact.AnswerFault.TheVariants.{Unusable, Rcode}
use Rattle.upstream_link.specs.Facts.{IsKept}
use Rattle.upstream_link.specs.Fact.{answer_in, answers_to, fact_by, fact_from, fact_in, is_answer_rcode}
use Rattle.upstream_link.specs.Life.{with_age}
use Rattle.upstream_link.proofs.Answers.{is_answer}

kept_aged : (seconds : ℕ) (fact : Fact) → IsKept fact → IsKept (with_age seconds fact)
kept_aged seconds (Answer answer) kept = record { is_answer_rcode = kept.is_answer_rcode; in_class = kept.in_class; is_soa = kept.is_soa }
kept_aged seconds (Broken why) kept = tt

kept_in : (m : Message) (b : Bool) → is_answer_rcode m.header.rcode ≡ b → IsKept (cond b (Answer (answer_in m)) (Broken (Rcode m.header.rcode)))
kept_in m true is = is_answer m is
kept_in m false is = tt

kept_if : (b : Bool) (fact : Fact) (octets : List ℕ) → IsKept fact → IsKept (cond b fact (Broken (Unusable octets)))
kept_if true fact octets kept = kept
kept_if false fact octets kept = tt

kept_by : (octets : List ℕ) (id : ℕ) (question : Question) (read : Result Message MessageFault) → IsKept (fact_by octets id question read)
kept_by octets id question (Ok m) = kept_if (answers_to id question m) (fact_in m) octets (kept_in m (is_answer_rcode m.header.rcode) refl)
kept_by octets id question (Err fault) = tt

kept_from : (octets : List ℕ) (id : ℕ) (question : Question) → IsKept (fact_from octets id question)
unfolding fact_from
kept_from octets id question = kept_by octets id question (message_of octets)

pub said_kept : (octets : List ℕ) (id : ℕ) (question : Question) (seconds : ℕ) → IsKept (with_age seconds (fact_from octets id question))
said_kept octets id question seconds = kept_aged seconds (fact_from octets id question) (kept_from octets id question)
