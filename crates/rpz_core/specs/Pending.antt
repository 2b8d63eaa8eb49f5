-- What a session and a pending query do at a turn.
use Rattle.std.specs.Prelude.{◌≡◌, ℕ, List, ◌++◌, Option, Some, None, Result, Ok, Err}
use Rattle.std.specs.declared.alloc.AllocError.{AllocError}
use Rattle.dns_message.specs.Spelling.{spelling}
use Rattle.upstream_link.specs.declared.fact.Fact.{Fact}
use Rattle.upstream_link.specs.Facts.{PlainFacts}
use Rattle.upstream_link.specs.Question.{question_message}
use Rattle.upstream_link.specs.Vouched.{PlainLearned}
use Rattle.answer_cache.specs.Recent.{Recent}
use Rattle.reply_build.specs.declared.turn.Turn.{Turn}
use Rattle.reply_build.specs.declared.turn.Turn.TheVariants.{Ask, Said}
use Rattle.query_session.specs.Session.{question_in, turn_of}
use Rattle.query_session.specs.State.{SessionState}
use Rattle.rpz_core.specs.declared.pending.NextMessage.{NextMessage}
use Rattle.rpz_core.specs.declared.pending.NextMessage.TheVariants as message
use Rattle.rpz_core.specs.declared.pending.Resumed.{Resumed}
use Rattle.rpz_core.specs.declared.pending.Resumed.TheVariants as resumed
use Rattle.rpz_core.specs.Resolving.{Resolved, by_turn, resolve, resolution}
use Rattle.rpz_core.specs.Sessions.{PendingQuery, facts_with}

-- It is the same query under the same policy, and what was known is known, with more behind it or not.
pub record IsLater (old new : SessionState) : Type 0 where
  pub policy : new.policy ≡ old.policy
  pub incoming : new.incoming ≡ old.incoming
  pub more : PlainFacts
  pub facts : new.facts ≡ old.facts ++ more

-- What came of the turns of a session where live entries of the cache answer what it asks: it does this, by what is known then. An
-- error leaves what was known, and maybe more behind it.
abbrev pub Resolves : ℕ → Result Turn AllocError → Recent → Recent → SessionState → SessionState →
    Type 0
Resolves now (Ok turn) cache left old new =
    (resolve now old.policy old.incoming cache.entries old.facts
    ≡ resolution left.entries new.facts turn) × IsLater old new × (new.asked ≡ question_in turn)
Resolves now (Err e) cache left old new = IsLater old new

-- The same of one turn, for every way in which later turns go on (`go_on`): None where they do.
abbrev pub ResolvesOnce : ℕ → Result (Option Turn) AllocError → Recent → Recent → SessionState →
    SessionState → Type 0
ResolvesOnce now (Ok (Some turn)) cache left old new =
    ((go_on : List PlainLearned → PlainFacts → Resolved) →
    by_turn go_on now cache.entries old.facts (turn_of old)
    ≡ resolution left.entries new.facts turn)
    × IsLater old new × (new.asked ≡ question_in turn)
ResolvesOnce now (Ok None) cache left old new =
    ((go_on : List PlainLearned → PlainFacts → Resolved) →
    by_turn go_on now cache.entries old.facts (turn_of old) ≡ go_on left.entries new.facts)
    × IsLater old new
ResolvesOnce now (Err e) cache left old new = IsLater old new

-- What a session does then: it asks this question, in a message of this ID, or says this. An error leaves what was known, and
-- maybe more behind it.
abbrev pub TakesTurn : ℕ → ℕ → Result NextMessage AllocError → Recent → Recent → SessionState →
    SessionState → Type 0
TakesTurn now id (Ok (message.Ask question octets)) cache left old new =
    (resolve now old.policy old.incoming cache.entries old.facts
    ≡ resolution left.entries new.facts (Ask question))
    × (octets ≡ spelling (question_message id question)) × IsLater old new
    × (new.asked ≡ Some question)
TakesTurn now id (Ok (message.Said said)) cache left old new =
    (facts : PlainFacts)
    × (resolve now old.policy old.incoming cache.entries old.facts
    ≡ resolution left.entries facts (Said said))
TakesTurn now id (Err e) cache left old new = IsLater old new

-- What a pending query does once it has this fact: it asks again, and is pending with another question, or is answered. An error
-- gives it back as it was.
abbrev pub Resumes : ℕ → ℕ → Fact → PendingQuery → Recent → Recent → Result Resumed PendingQuery →
    Type 0
Resumes now id fact old cache left (Ok (resumed.Asks octets new)) =
    (resolve now old.policy old.incoming cache.entries (facts_with old fact)
    ≡ resolution left.entries new.facts (Ask new.question))
    × (octets ≡ spelling (question_message id new.question)) × (new.policy ≡ old.policy)
    × (new.incoming ≡ old.incoming) × (new.id ≡ id)
Resumes now id fact old cache left (Ok (resumed.Said said)) =
    (facts : PlainFacts)
    × (resolve now old.policy old.incoming cache.entries (facts_with old fact)
    ≡ resolution left.entries facts (Said said))
Resumes now id fact old cache left (Err same) = same ≡ old
