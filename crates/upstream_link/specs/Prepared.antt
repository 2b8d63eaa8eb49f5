-- What is worked out of an answer once, when it comes.
use Rattle.std.specs.Prelude.{◌≡◌, ℕ, Bool}
use Rattle.std.specs.List.{list_any}
use Rattle.upstream_link.specs.AnswerLife.{HasLife}
use Rattle.upstream_link.specs.Chain.{is_alias}
use Rattle.upstream_link.specs.Kept.{PlainAnswer}

-- how long it may be kept, and whether some answer is a CNAME record
pub record IsPrepared (answer : PlainAnswer) (life : ℕ) (alias : Bool) : Type 0 where
  pub has_life : HasLife answer life
  pub is_alias : alias ≡ list_any is_alias answer.answers
