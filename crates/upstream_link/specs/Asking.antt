-- What asking the upstream gives.
use Rattle.std.specs.Prelude.{◌≡◌, ℕ, ⊤}
use Rattle.dns_message.specs.declared.question.Question.{Question}
use Rattle.upstream_link.specs.declared.exchange.AskOutcome.{AskOutcome}
use Rattle.upstream_link.specs.declared.exchange.AskOutcome.TheVariants.{Learned, Failed}
use Rattle.upstream_link.specs.Vouched.{PlainLearned}

-- the property, where something was learned
abbrev pub IfLearned : {L : Type 0} → AskOutcome L → (PlainLearned → Type 0) → Type 0
IfLearned (Learned learned) P = P learned
IfLearned Failed P = ⊤

-- this question was asked at this second in a message of this ID
abbrev pub AsksAt : ℕ → Question → ℕ → PlainLearned → Type 0
AsksAt id question now learned =
    (learned.question ≡ question) × (learned.id ≡ id) × (learned.moment ≡ now)
