-- The turns of a session lead to what is said last.
use Rattle.std.proofs.Common.{◌≡◌, ℕ, zero, suc, ◌+◌, ◌-◌, ◌<◌, ◌≤◌, true, Option, Some, None, Result, Ok, Err, refl, sym, ap, ◌∙◌, arith}
use Rattle.std.specs.Prelude.{IfOk}
use Rattle.std.specs.declared.alloc.AllocError.{AllocError}
use Rattle.dns_message.specs.declared.request.Incoming.{Incoming}
use Rattle.upstream_link.specs.declared.facts.TheConstants.{FACT_LIMIT}
use Rattle.upstream_link.specs.Facts.{PlainFacts}
use Rattle.reply_build.specs.declared.turn.Turn.{Turn}
use Rattle.reply_build.specs.declared.turn.Turn.TheVariants.{Ask, Said}
use Rattle.policy_snapshot.specs.Policy.{PlainPolicy}
use Rattle.query_session.specs.Laws.{facts_after, facts_by, is_said}
use Rattle.query_session.specs.Session.{turn_by, turn_of}
use Rattle.query_session.specs.State.{SessionState}
use Rattle.load_gen.specs.Summed.{upstream}
use Rattle.load_gen.specs.Turns.{LeadsOn, SaysLast, TurnsOnce}

module _ (policy : PlainPolicy) (incoming : Incoming) where
  abbrev turn : PlainFacts → Turn
  turn facts = turn_by policy incoming facts

  abbrev after : ℕ → PlainFacts → PlainFacts
  after turns facts = facts_after policy incoming upstream turns facts

  none : (facts : PlainFacts) → after 0 facts ≡ facts
  unfolding facts_after
  none facts = refl

  one_more : (turns : ℕ) (facts : PlainFacts) → after (suc turns) facts ≡ after turns (facts_by upstream facts (turn facts))
  unfolding facts_after
  one_more turns facts = refl

  -- what is said leaves what is known
  same_by : (facts : PlainFacts) (this : Turn) → is_said this ≡ true → facts_by upstream facts this ≡ facts
  same_by facts (Ask question) h = absurd cc
  same_by facts (Said s) h = refl

  stays : (turns : ℕ) (facts : PlainFacts) → is_said (turn facts) ≡ true → after turns facts ≡ facts
  stays zero facts h = none facts
  stays (suc turns) facts h =
      one_more turns facts ∙ (ap (after turns) (same_by facts (turn facts) h) ∙ stays turns facts h)

  at_turn : (count : ℕ) (facts : PlainFacts) → count < FACT_LIMIT
      → after (FACT_LIMIT - count) facts ≡ after (FACT_LIMIT - (count + 1)) (facts_by upstream facts (turn facts))
  at_turn count facts lt =
      let next : FACT_LIMIT - count ≡ suc (FACT_LIMIT - (count + 1)) = omega (arith, lt) in
      ap (λ n. after n facts) next ∙ one_more (FACT_LIMIT - (count + 1)) facts

  at_last : (count : ℕ) (facts : PlainFacts) → FACT_LIMIT ≤ count → after (FACT_LIMIT - count) facts ≡ facts
  at_last count facts le =
      let next : FACT_LIMIT - count ≡ 0 = omega (arith, le) in
      ap (λ n. after n facts) next ∙ none facts

-- at the beginning
pub begins : (session : SessionState) → LeadsOn FACT_LIMIT (FACT_LIMIT - 0) session session
begins session =
    let all : FACT_LIMIT - 0 ≡ FACT_LIMIT = omega arith in
    record { policy = refl; incoming = refl; facts = ap (λ n. facts_after session.policy session.incoming upstream n session.facts) all }

turn_there : (left : ℕ) (first now : SessionState) → LeadsOn FACT_LIMIT left first now → turn_of now ≡ turn_by first.policy first.incoming now.facts
turn_there left first now h = λ i. turn_by (h.policy i) (h.incoming i) now.facts

-- behind a turn that asked
pub goes_on : (count : ℕ) (first now new : SessionState) → count < FACT_LIMIT → LeadsOn FACT_LIMIT (FACT_LIMIT - count) first now
    → TurnsOnce (Ok None) now new → LeadsOn FACT_LIMIT (FACT_LIMIT - (count + 1)) first new
goes_on count first now new lt h t = record {
  policy = t.0 ∙ h.policy;
  incoming = t.1 ∙ h.incoming;
  facts =
      ap (λ (facts : PlainFacts). facts_after first.policy first.incoming upstream (FACT_LIMIT - (count + 1)) facts)
      (t.2 ∙ ap (facts_by upstream now.facts) (turn_there (FACT_LIMIT - count) first now h))
      ∙ (sym (at_turn first.policy first.incoming count now.facts lt) ∙ h.facts);
}

-- where something is said
pub says : (left : ℕ) (first now : SessionState) (turn : Turn) → LeadsOn FACT_LIMIT left first now → turn ≡ turn_of now → is_said turn ≡ true → SaysLast first turn
says left first now turn h is said =
    let there = is ∙ turn_there left first now h in
    let kept = stays first.policy first.incoming left now.facts (ap is_said (sym there) ∙ said) in
    there ∙ ap (turn_by first.policy first.incoming) (sym kept ∙ h.facts)

-- behind all turns
pub ends : (count : ℕ) (first now : SessionState) (turn : Turn) → FACT_LIMIT ≤ count → LeadsOn FACT_LIMIT (FACT_LIMIT - count) first now → turn ≡ turn_of now → SaysLast first turn
ends count first now turn le h is =
    is ∙ (turn_there (FACT_LIMIT - count) first now h
    ∙ ap (turn_by first.policy first.incoming) (sym (at_last first.policy first.incoming count now.facts le) ∙ h.facts))

pub ends_if : (count : ℕ) (first now : SessionState) (result : Result Turn AllocError) → FACT_LIMIT ≤ count → LeadsOn FACT_LIMIT (FACT_LIMIT - count) first now
    → IfOk result (λ turn. turn ≡ turn_of now) → IfOk result (SaysLast first)
ends_if count first now (Ok turn) le h is = ends count first now turn le h is
ends_if count first now (Err error) le h is = tt

pub none_if : (o : Option Turn) → ((turn : Turn) → o ≡ Some turn → ⊥) → o ≡ None
none_if None not = refl
none_if (Some turn) not = absurd (not turn refl)
