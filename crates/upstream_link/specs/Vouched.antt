-- What a link gave for a question, and which facts are vouched for by it.
use Rattle.std.specs.Prelude.{◌≡◌, ◌≤◌, ◌<◌, ◌-◌, ◌^◌, ◌⊎◌, ◌&&◌, ℕ, Bool, nat_le, nat_lt, true, List}
use Rattle.dns_message.specs.declared.question.Question.{Question}
use Rattle.upstream_link.specs.declared.fact.Fact.{Fact}
use Rattle.upstream_link.specs.Fact.{fact_from}
use Rattle.upstream_link.specs.Life.{life_of, with_age}
use Rattle.upstream_link.specs.Question.{question_bytes}

-- a question, the ID of the message that asked it, and the bytes that came at this second
pub record PlainLearned : Type 0 where
  pub question : Question
  pub id : ℕ
  pub bytes : List ℕ
  pub moment : ℕ

-- What was learned, by its question, ID, bytes and second.
abbrev pub plain_learned : Question → ℕ → List ℕ → ℕ → PlainLearned
plain_learned question id bytes moment =
    record { question = question; id = id; bytes = bytes; moment = moment }

-- What the bytes of a learned entry say.
abbrev pub entry_fact : PlainLearned → Fact
entry_fact entry = fact_from entry.bytes entry.id entry.question

-- For how many seconds a learned entry may be kept.
abbrev pub life : PlainLearned → ℕ
life entry = life_of (entry_fact entry)

-- A learned entry may be used at this second: it has come, and its life isn't over.
abbrev pub live : ℕ → PlainLearned → Bool
live now entry = nat_le entry.moment now && nat_lt (now - entry.moment) (life entry)

-- What a learned entry says at a second, at its age.
abbrev pub fact_at : ℕ → PlainLearned → Fact
fact_at now entry = with_age (now - entry.moment) (entry_fact entry)

-- it may be used now: it has come in this second, or is live
abbrev pub Tells : ℕ → PlainLearned → Type 0
Tells now entry = (entry.moment ≡ now) ⊎ (live now entry ≡ true)

-- A link of the kind gave this, and it says the fact.
pub record IsGiven (gave : List ℕ → List ℕ → ℕ → Type 0) (entry : PlainLearned) (fact : Fact) : Type
    0 where
  pub in_range : entry.id < 2 ^ 16
  pub given : gave (question_bytes entry.id entry.question) entry.bytes entry.moment
  pub said : fact ≡ entry_fact entry

-- A link gave bytes for the question that say this fact, at its age, and its life isn't over, unless they came in this second.
-- By the law bytes_say_that_something_came such a fact is never that nothing came.
pub record Vouched (gave : List ℕ → List ℕ → ℕ → Type 0) (question : Question) (fact : Fact)
    (now : ℕ) : Type 0 where
  pub id : ℕ
  pub bytes : List ℕ
  pub moment : ℕ
  pub in_range : id < 2 ^ 16
  pub past : moment ≤ now
  pub given : gave (question_bytes id question) bytes moment
  pub said : fact ≡ with_age (now - moment) (fact_from bytes id question)
  pub fresh : (moment ≡ now) ⊎ (now - moment < life_of (fact_from bytes id question))
