-- Each turn asks one question more, or says something; so something is said once no more may be asked.
use Rattle.std.proofs.Common.{◌≡◌, ℕ, zero, suc, ◌+◌, ◌<◌, ◌≤◌, true, ◌⊎◌, inl, inr, [], ◌∷◌, ◌++◌, length, refl, ap, ◌∙◌, subst, arith}
use Rattle.std.proofs.lemmas.List.{length_push}
use Rattle.dns_message.specs.declared.question.Question.{Question}
use Rattle.dns_message.specs.declared.request.Incoming.{Incoming}
use Rattle.upstream_link.specs.declared.facts.TheConstants.{FACT_LIMIT}
use Rattle.upstream_link.specs.Facts.{PlainFacts}
use Rattle.reply_build.specs.declared.turn.Turn.{Turn}
use Rattle.reply_build.specs.declared.turn.Turn.TheVariants.{Ask, Said}
use Rattle.policy_snapshot.specs.Policy.{PlainPolicy}
use Rattle.query_session.specs.Laws.{Upstream, facts_after, facts_by, is_said}
use Rattle.query_session.specs.Session.{AsksAnew, question_in, turn_by}
use Rattle.query_session.proofs.FreshQuestions.{asks_anew}

module _ (policy : PlainPolicy) (incoming : Incoming) (upstream : Upstream) where
  abbrev turn : PlainFacts → Turn
  turn facts = turn_by policy incoming facts

  abbrev after : ℕ → PlainFacts → PlainFacts
  after turns facts = facts_after policy incoming upstream turns facts

  none : (facts : PlainFacts) → after 0 facts ≡ facts
  unfolding facts_after
  none facts = refl

  one_more : (turns : ℕ) (facts : PlainFacts) (this : Turn) → turn facts ≡ this → after (suc turns) facts ≡ after turns (facts_by upstream facts this)
  unfolding facts_after
  one_more turns facts this e = ap (λ (t : Turn). facts_after policy incoming upstream turns (facts_by upstream facts t)) e

  room : (facts : PlainFacts) (question : Question) → turn facts ≡ Ask question → length facts < FACT_LIMIT
  room facts question e = (subst (λ (t : Turn). AsksAnew facts (question_in t)) e (asks_anew policy incoming facts)).1

  -- once something is said, nothing changes
  stays_by : (turns : ℕ) (facts : PlainFacts) (this : Turn) → turn facts ≡ this → is_said this ≡ true → after turns facts ≡ facts → after (suc turns) facts ≡ facts
  stays_by turns facts (Ask question) e h same = absurd cc
  stays_by turns facts (Said s) e h same = one_more turns facts (Said s) e ∙ same

  stays : (turns : ℕ) (facts : PlainFacts) → is_said (turn facts) ≡ true → after turns facts ≡ facts
  stays zero facts h = none facts
  stays (suc turns) facts h = stays_by turns facts (turn facts) refl h (stays turns facts h)

  -- so many turns said something, or asked as many questions
  abbrev SaidOrAsked : ℕ → PlainFacts → Type 0
  SaidOrAsked turns facts = (is_said (turn (after turns facts)) ≡ true) ⊎ (length (after turns facts) ≡ length facts + turns)

  longer : (turns : ℕ) (facts rest : PlainFacts) (question : Question) → rest ≡ after turns (facts ++ (question, upstream facts question) ∷ []) → SaidOrAsked turns (facts ++ (question, upstream facts question) ∷ []) → (is_said (turn rest) ≡ true) ⊎ (length rest ≡ length facts + suc turns)
  longer turns facts rest question is (inl h) = inl (ap (λ (all : PlainFacts). is_said (turn all)) is ∙ h)
  longer turns facts rest question is (inr h) = inr (omega (arith, ap length is, h, length_push facts (question, upstream facts question)))

  counted_by : (turns : ℕ) (facts : PlainFacts) (this : Turn) → turn facts ≡ this → ((more : PlainFacts) → SaidOrAsked turns more) → SaidOrAsked (suc turns) facts
  counted_by turns facts (Ask question) e ih =
      longer turns facts (after (suc turns) facts) question (one_more turns facts (Ask question) e) (ih (facts ++ (question, upstream facts question) ∷ []))
  counted_by turns facts (Said s) e ih =
      inl (ap (λ (all : PlainFacts). is_said (turn all)) (stays (suc turns) facts (ap is_said e)) ∙ ap is_said e)

  counted : (turns : ℕ) (facts : PlainFacts) → SaidOrAsked turns facts
  counted zero facts = inr (omega (arith, ap length (none facts)))
  counted (suc turns) facts = counted_by turns facts (turn facts) refl (counted turns)

  full_by : (facts : PlainFacts) (this : Turn) → turn facts ≡ this → length facts ≡ FACT_LIMIT → is_said this ≡ true
  full_by facts (Ask question) e h = let lt : length facts < FACT_LIMIT = room facts question e in absurd (omega arith)
  full_by facts (Said s) e h = refl

  said_by : (turns : ℕ) → turns ≡ FACT_LIMIT → SaidOrAsked turns [] → is_said (turn (after turns [])) ≡ true
  said_by turns e (inl h) = h
  said_by turns e (inr h) = full_by (after turns []) (turn (after turns [])) refl (omega arith)

  pub said : is_said (turn (after FACT_LIMIT [])) ≡ true
  said = said_by FACT_LIMIT refl (counted FACT_LIMIT [])

  -- and never more than may be asked
  few_by : (turns : ℕ) (facts : PlainFacts) (this : Turn) → turn facts ≡ this → length facts ≤ FACT_LIMIT → ((more : PlainFacts) → length more ≤ FACT_LIMIT → length (after turns more) ≤ FACT_LIMIT) → length (after (suc turns) facts) ≤ FACT_LIMIT
  few_by turns facts (Ask question) e le ih =
      let lt : length facts < FACT_LIMIT = room facts question e in
      let more : length (facts ++ (question, upstream facts question) ∷ []) ≤ FACT_LIMIT = omega (arith, length_push facts (question, upstream facts question)) in
      omega (arith, ap length (one_more turns facts (Ask question) e), ih (facts ++ (question, upstream facts question) ∷ []) more)
  few_by turns facts (Said s) e le ih = omega (arith, ap length (one_more turns facts (Said s) e), ih facts le)

  few_from : (turns : ℕ) (facts : PlainFacts) → length facts ≤ FACT_LIMIT → length (after turns facts) ≤ FACT_LIMIT
  few_from zero facts le = omega (arith, ap length (none facts))
  few_from (suc turns) facts le = few_by turns facts (turn facts) refl le (few_from turns)

  pub few : (turns : ℕ) → length (after turns []) ≤ FACT_LIMIT
  few turns = few_from turns [] (omega arith)
