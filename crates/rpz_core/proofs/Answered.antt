-- What the turns of a query come to where live entries of the cache answer what it asks.
use Rattle.std.proofs.Common.{◌≡◌, ℕ, zero, suc, ◌+◌, ◌≤◌, ◌<◌, List, [], ◌∷◌, ◌++◌, length, Option, Some, None, Contains, refl, sym, ◌∙◌, subst, arith, length-append}
use Rattle.dns_message.specs.declared.question.Question.{Question}
use Rattle.dns_message.specs.declared.request.Incoming.{Incoming}
use Rattle.upstream_link.specs.declared.facts.TheConstants.{FACT_LIMIT}
use Rattle.upstream_link.specs.Facts.{PlainFacts}
use Rattle.upstream_link.specs.Vouched.{PlainLearned, fact_at}
use Rattle.answer_cache.specs.Recent.{AreApart, HaveSameEntries, live_entry, after_look_up}
use Rattle.answer_cache.proofs.Apart.{apart_looked_up}
use Rattle.answer_cache.proofs.Touched.{found_in, found_touched, touched_same}
use Rattle.reply_build.specs.declared.turn.Turn.{Turn}
use Rattle.reply_build.specs.declared.turn.Turn.TheVariants.{Ask, Said}
use Rattle.policy_snapshot.specs.Policy.{PlainPolicy}
use Rattle.query_session.specs.Session.{AsksAnew, question_in, turn_by}
use Rattle.query_session.proofs.FreshQuestions.{asks_anew}
use Rattle.rpz_core.specs.Answered.{AreAnswered, no_more, one_more}
use Rattle.rpz_core.specs.Resolving.{Resolved, by_entry, by_turn, resolve, resolve_within}

-- ---- the turns

same_same : (a b c : List PlainLearned) → HaveSameEntries a b → HaveSameEntries b c → HaveSameEntries a c
same_same a b c first second x = (λ h. (second x).0 ((first x).0 h), λ h. (first x).1 ((second x).1 h))

module _ (now : ℕ) (policy : PlainPolicy) (incoming : Incoming) where
  answered_among : (a b : List PlainLearned) → ((e : PlainLearned) → Contains a e → Contains b e) → (facts later : PlainFacts) → AreAnswered now policy incoming a facts later → AreAnswered now policy incoming b facts later
  answered_among a b among facts later (no_more _) = no_more facts
  answered_among a b among facts later (one_more _ _ question entry asks is about holds rest) =
      one_more facts later question entry asks (among entry is) about holds (answered_among a b among (facts ++ (question, fact_at now entry) ∷ []) later rest)

  pub record Explains (cached : List PlainLearned) (facts : PlainFacts) (r : Resolved) : Type 0 where
    pub turn : r.turn ≡ turn_by policy incoming r.facts
    pub known : AreAnswered now policy incoming cached facts r.facts
    pub same : HaveSameEntries r.cached cached
    pub apart : AreApart cached → AreApart r.cached

  abbrev GoesOn : Type 0
  GoesOn = List PlainLearned → PlainFacts → Resolved

  by_found : (go_on : GoesOn) → ((cached : List PlainLearned) (facts : PlainFacts) → Explains cached facts (go_on cached facts))
      → (cached : List PlainLearned) (facts : PlainFacts) (question : Question) → turn_by policy incoming facts ≡ Ask question
      → (entry : Option PlainLearned) → live_entry question now cached ≡ entry → Explains cached facts (by_entry go_on now (after_look_up question cached) facts question entry)
  by_found go_on deep cached facts question asks None is = record { turn = sym asks; known = no_more facts; same = touched_same question cached; apart = apart_looked_up question cached }
  by_found go_on deep cached facts question asks (Some entry) is =
      let more = facts ++ (question, fact_at now entry) ∷ [] in
      let one = found_in question now cached entry is in
      let rest = deep (after_look_up question cached) more in
      record {
        turn = rest.turn;
        known = one_more facts (go_on (after_look_up question cached) more).facts question entry asks one.0 one.1 one.2
            (answered_among (after_look_up question cached) cached (λ e c. (touched_same question cached e).0 c) more (go_on (after_look_up question cached) more).facts rest.known);
        same = same_same (go_on (after_look_up question cached) more).cached (after_look_up question cached) cached rest.same (touched_same question cached);
        apart = λ apart. rest.apart (apart_looked_up question cached apart);
      }

  by_kind : (go_on : GoesOn) → ((cached : List PlainLearned) (facts : PlainFacts) → Explains cached facts (go_on cached facts))
      → (cached : List PlainLearned) (facts : PlainFacts) (turn : Turn) → turn_by policy incoming facts ≡ turn → Explains cached facts (by_turn go_on now cached facts turn)
  by_kind go_on deep cached facts (Ask question) is = by_found go_on deep cached facts question is (live_entry question now cached) refl
  by_kind go_on deep cached facts (Said s) is = record { turn = sym is; known = no_more facts; same = λ e. (λ c. c, λ c. c); apart = λ apart. apart }

  explained : (left : ℕ) (cached : List PlainLearned) (facts : PlainFacts) → Explains cached facts (resolve_within left now policy incoming cached facts)
  unfolding resolve_within
  explained zero cached facts = record { turn = refl; known = no_more facts; same = λ e. (λ c. c, λ c. c); apart = λ apart. apart }
  explained (suc left) cached facts = by_kind (resolve_within left now policy incoming) (explained left) cached facts (turn_by policy incoming facts) refl

  pub resolve_explained : (cached : List PlainLearned) (facts : PlainFacts) → Explains cached facts (resolve now policy incoming cached facts)
  resolve_explained cached facts = explained FACT_LIMIT cached facts

  -- ---- what is asked in the end

  room_by : (facts : PlainFacts) (turn : Turn) (question : Question) → turn ≡ Ask question → AsksAnew facts (question_in turn) → length facts < FACT_LIMIT
  room_by facts turn question is room = (subst (λ (t : Turn). AsksAnew facts (question_in t)) is room).1

  room : (facts : PlainFacts) (question : Question) → turn_by policy incoming facts ≡ Ask question → length facts < FACT_LIMIT
  room facts question is = room_by facts (turn_by policy incoming facts) question is (asks_anew policy incoming facts)

  -- what is asked in the end has no live entry, where there is room for so many more facts
  abbrev AsksNone : ℕ → GoesOn → Type 0
  AsksNone left go_on = (cached : List PlainLearned) (facts : PlainFacts) (question : Question) → FACT_LIMIT ≤ left + length facts
      → (go_on cached facts).turn ≡ Ask question → live_entry question now (go_on cached facts).cached ≡ None

  none_by : (left : ℕ) (go_on : GoesOn) → AsksNone left go_on → (cached : List PlainLearned) (facts : PlainFacts) (asked question : Question) (entry : Option PlainLearned) → live_entry asked now cached ≡ entry
      → FACT_LIMIT ≤ suc left + length facts → (by_entry go_on now (after_look_up asked cached) facts asked entry).turn ≡ Ask question
      → live_entry question now (by_entry go_on now (after_look_up asked cached) facts asked entry).cached ≡ None
  none_by left go_on deep cached facts asked question None is many asks =
      let same : asked ≡ question = cc in
      subst (λ (q : Question). live_entry q now (after_look_up asked cached) ≡ None) same (found_touched asked now cached ∙ is)
  none_by left go_on deep cached facts asked question (Some entry) is many asks =
      deep (after_look_up asked cached) (facts ++ (asked, fact_at now entry) ∷ []) question (omega (arith, many, length-append facts ((asked, fact_at now entry) ∷ []))) asks

  none_kind : (left : ℕ) (go_on : GoesOn) → AsksNone left go_on → (cached : List PlainLearned) (facts : PlainFacts) (turn : Turn) (question : Question)
      → FACT_LIMIT ≤ suc left + length facts → (by_turn go_on now cached facts turn).turn ≡ Ask question
      → live_entry question now (by_turn go_on now cached facts turn).cached ≡ None
  none_kind left go_on deep cached facts (Ask asked) question many asks = none_by left go_on deep cached facts asked question (live_entry asked now cached) refl many asks
  none_kind left go_on deep cached facts (Said s) question many asks = absurd cc

  asks_none : (left : ℕ) → AsksNone left (resolve_within left now policy incoming)
  unfolding resolve_within
  asks_none zero cached facts question many asks = absurd (omega (arith, many, room facts question asks))
  asks_none (suc left) cached facts question many asks =
      none_kind left (resolve_within left now policy incoming) (asks_none left) cached facts (turn_by policy incoming facts) question many asks

  pub resolve_asks : (cached : List PlainLearned) (facts : PlainFacts) (question : Question) → (resolve now policy incoming cached facts).turn ≡ Ask question → live_entry question now (resolve now policy incoming cached facts).cached ≡ None
  resolve_asks cached facts question asks = asks_none FACT_LIMIT cached facts question (omega arith) asks
