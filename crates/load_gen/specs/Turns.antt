-- The turns of a session that the upstream in memory answers.
use Rattle.std.specs.Prelude.{◌≡◌, ℕ, true, Option, Some, None, Result, Ok, Err}
use Rattle.std.specs.declared.alloc.AllocError.{AllocError}
use Rattle.reply_build.specs.declared.turn.Turn.{Turn}
use Rattle.query_session.specs.Laws.{facts_after, facts_by, is_said}
use Rattle.upstream_link.specs.declared.facts.TheConstants.{FACT_LIMIT}
use Rattle.query_session.specs.Session.{turn_by, turn_of}
use Rattle.query_session.specs.State.{SessionState}
use Rattle.load_gen.specs.Summed.{upstream}

-- something is said, or the answer to what was asked is known
abbrev pub TurnsOnce : Result (Option Turn) AllocError → SessionState → SessionState → Type 0
TurnsOnce (Ok (Some turn)) old new = (turn ≡ turn_of old) × (is_said turn ≡ true)
TurnsOnce (Ok None) old new =
    (new.policy ≡ old.policy) × (new.incoming ≡ old.incoming)
    × (new.facts ≡ facts_by upstream old.facts (turn_of old))
TurnsOnce (Err e) old new = Unit {0}

-- so many turns from here lead where all turns lead
pub record LeadsOn (most left : ℕ) (first now : SessionState) : Type 0 where
  pub policy : now.policy ≡ first.policy
  pub incoming : now.incoming ≡ first.incoming
  pub facts : facts_after first.policy first.incoming upstream left now.facts
      ≡ facts_after first.policy first.incoming upstream most first.facts

-- what is said once all that a session asks from its beginning is answered
abbrev pub SaysLast : SessionState → Turn → Type 0
SaysLast session turn =
    turn
    ≡ turn_by session.policy session.incoming
    (facts_after session.policy session.incoming upstream FACT_LIMIT session.facts)
