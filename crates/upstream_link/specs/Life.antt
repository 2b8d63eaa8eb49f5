-- How long a fact may be kept, and what it is when some time has passed (RFC 2308, section 5).
use Rattle.std.specs.Prelude.{ℕ}
use Rattle.upstream_link.specs.AnswerLife.{life_in}
use Rattle.upstream_link.specs.Kept.{at_age}
use Rattle.upstream_link.specs.declared.fact.Fact.{Fact}
use Rattle.upstream_link.specs.declared.fact.Fact.TheVariants.{Answer, Broken}

-- For how many seconds a fact may be kept; that there is no answer isn't kept.
abbrev pub life_of : Fact → ℕ
life_of (Answer answer) = life_in answer
life_of (Broken why) = 0

-- the fact when so many seconds have passed since it came
abbrev pub with_age : ℕ → Fact → Fact
with_age seconds (Answer answer) = Answer (at_age seconds answer)
with_age seconds (Broken why) = Broken why
