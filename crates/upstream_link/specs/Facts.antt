-- What is known at a point: facts, each beside the question that it answers.
use Rattle.std.specs.Prelude.{◌≡◌, ℕ, ◌≤◌, Bool, List, [], ◌∷◌, ◌++◌, length, Option, Some, None, is_some}
use Rattle.std.specs.List.{AllByRecursion, find, flat_map}
use Rattle.std.specs.Option.{option_map}
use Rattle.dns_name.specs.Labels.{Name}
use Rattle.dns_record.specs.Record.{PlainRecord}
use Rattle.dns_message.specs.declared.question.Question.{Question}
use Rattle.dns_message.specs.declared.request.Query.{Query}
use Rattle.dns_message.specs.Written.{lasting_octets}
use Rattle.upstream_link.specs.declared.fact.Fact.{Fact}
use Rattle.upstream_link.specs.declared.fact.Fact.TheVariants.{Answer, Broken}
use Rattle.upstream_link.specs.declared.facts.TheConstants.{FACT_LIMIT}
use Rattle.upstream_link.specs.Fact.{same_question}
use Rattle.upstream_link.specs.Kept.{IsAnswer}
use Rattle.upstream_link.specs.Question.{question_of, main_question}

-- What is known for a query: questions, each with its answer or the fault of it.
abbrev pub PlainFacts : Type 0
PlainFacts = List (Question × Fact)

-- what is known of a question; names compare without case
abbrev pub fact_about : PlainFacts → Question → Option Fact
fact_about facts question = option_map (λ e. e.1) (find (λ e. same_question e.0 question) facts)

-- The question was answered, or is known to have no usable answer.
abbrev pub is_known : PlainFacts → Question → Bool
is_known facts question = is_some (fact_about facts question)

-- the records of an answer; none where there is no answer
abbrev pub records_of : Option Fact → List PlainRecord
records_of None = []
records_of (Some (Broken why)) = []
records_of (Some (Answer answer)) = answer.answers

-- the records of the answer to the question of this name and type, as far as it is known
abbrev pub records_about : PlainFacts → Name → ℕ → List PlainRecord
records_about facts name qtype = records_of (fact_about facts (question_of name qtype))

-- the records of the answer to a query, as far as it is known
abbrev pub main_records : Query → PlainFacts → List PlainRecord
main_records query facts = records_of (fact_about facts (main_question query))

-- how many seconds have passed since an answer came; 0 where there is none
abbrev pub age_of : Option Fact → ℕ
age_of None = 0
age_of (Some (Broken why)) = 0
age_of (Some (Answer answer)) = answer.age

-- how many seconds have passed since the answer to a query came
abbrev pub main_age : Query → PlainFacts → ℕ
main_age query facts = age_of (fact_about facts (main_question query))

-- the first facts, and more behind them
abbrev pub Extends : PlainFacts → PlainFacts → Type 0
Extends facts more = (rest : PlainFacts) × (more ≡ facts ++ rest)

-- no question is answered twice
abbrev pub AreDistinct : PlainFacts → Type 0
AreDistinct [] = Unit {0}
AreDistinct (e ∷ facts) = (fact_about facts e.0 ≡ None) × AreDistinct facts

-- an answer has rcode 0 or 3 and records of class IN, as all have that are kept of an upstream's responses
abbrev pub IsKept : Fact → Type 0
IsKept (Answer answer) = IsAnswer answer
IsKept (Broken why) = Unit {0}

-- how many octets its answers take but for their TTLs
abbrev pub answer_octets : Fact → ℕ
answer_octets (Answer answer) = length (flat_map lasting_octets answer.answers)
answer_octets (Broken why) = 0

-- Each fact is what a response may be kept as.
abbrev pub AreKept : PlainFacts → Type 0
AreKept facts = AllByRecursion (λ e. IsKept e.1) facts

-- The facts of a query answer distinct questions, they are few, and what they say is kept of responses.
pub record AreFacts (facts : PlainFacts) : Type 0 where
  pub distinct : AreDistinct facts
  pub few : length facts ≤ FACT_LIMIT
  pub kept : AreKept facts
