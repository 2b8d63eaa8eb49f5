-- What comes next stays the same, whatever facts come behind, where it is no question.
use Rattle.std.proofs.Common.{◌≡◌, ℕ, Bool, true, List, [], ◌∷◌, ◌++◌, length, take, drop, Option, Some, None, refl, sym, ap, ◌∙◌, true≢false}
use Rattle.std.specs.Prelude.{IsTrue}
use Rattle.dns_message.specs.declared.question.Question.{Question}
use Rattle.dns_message.specs.declared.request.Query.{Query}
use Rattle.rpz_precedence.specs.Best.{AreHits, IsBest, PlainHit, best}
use Rattle.upstream_link.specs.Chain.{chain}
use Rattle.upstream_link.specs.declared.fact.Fact.{Fact}
use Rattle.upstream_link.specs.Facts.{Extends, PlainFacts, fact_about}
use Rattle.upstream_link.specs.Question.{main_question}
use Rattle.policy_snapshot.specs.Hits.{hits}
use Rattle.policy_snapshot.specs.Next.{Next, next, next_along, next_at, next_behind, next_in_chain, or_next, pending, unless_pending}
use Rattle.policy_snapshot.specs.Policy.{PlainPolicy}
use Rattle.policy_snapshot.specs.Rules.{PlainRule, rules}
use Rattle.policy_snapshot.specs.Stands.{HaveRows}
use Rattle.policy_snapshot.specs.Settled.{is_settled}
use Rattle.policy_snapshot.proofs.NothingPending.{is_ready, none_pending}
use Rattle.policy_snapshot.proofs.RuleRanks.{ZoneLaws, are_hits}
use Rattle.policy_snapshot.proofs.SameHits.{Stays, same_best, still_ready}

-- what the laws of best hits say of the hits of these rules, by these facts
pub record BestHits (all : List PlainRule) (query : Query) (facts : PlainFacts) : Type 0 where
  pub is : (position : ℕ) (name : List (List ℕ)) → IsBest (hits all query facts position name) (best (hits all query facts position name))
  pub only : (position : ℕ) (name : List (List ℕ)) (found : Option PlainHit) → IsBest (hits all query facts position name) found → found ≡ best (hits all query facts position name)

-- no question comes next at a name
abbrev is_settled_at : Option Next → Bool
is_settled_at None = true
is_settled_at (Some next) = is_settled next

unpending : (before : List (List (List ℕ))) (name : List (List ℕ)) (hit : Option PlainHit) (question : Option Question) → is_settled_at (unless_pending before name hit question) ≡ true → question ≡ None
unpending before name hit (Some question) t = absurd (true≢false (sym t))
unpending before name hit None t = refl

same_or : (a other_a : Option Next) (b other_b : Next) → is_settled (or_next a b) ≡ true → (is_settled_at a ≡ true → other_a ≡ a) → (is_settled b ≡ true → other_b ≡ b) → or_next other_a other_b ≡ or_next a b
same_or None other_a b other_b t first rest = let f = first refl in let r = rest t in λ i. or_next (f i) (r i)
same_or (Some next) other_a b other_b t first rest = ap (λ (a : Option Next). or_next a other_b) (first t)

module _ (all : List PlainRule) (query : Query) (facts more : PlainFacts) (stays : Stays facts more) (first : BestHits all query facts) (second : BestHits all query more) where
  -- ---- at one position

  pub best_stays : (position : ℕ) (name : List (List ℕ)) → pending all query facts name (best (hits all query facts position name)) ≡ None → best (hits all query more position name) ≡ best (hits all query facts position name)
  best_stays position name e =
      same_best all query facts more position name stays (first.is position name) (second.only position name) (is_ready all query facts name (best (hits all query facts position name)) e)

  pub none_stays : (position : ℕ) (name : List (List ℕ)) → pending all query facts name (best (hits all query facts position name)) ≡ None → pending all query more name (best (hits all query more position name)) ≡ None
  none_stays position name e =
      let hit = best (hits all query facts position name) in
      ap (λ (h : Option PlainHit). pending all query more name h) (best_stays position name e)
      ∙ none_pending all query more name hit (still_ready all query facts more name hit stays (is_ready all query facts name hit e))

  at_stays : (before : List (List (List ℕ))) (name : List (List ℕ)) → is_settled_at (next_at all query facts before name) ≡ true → next_at all query more before name ≡ next_at all query facts before name
  at_stays before name t =
      let hit = best (hits all query facts (length before) name) in
      let e = unpending before name hit (pending all query facts name hit) t in
      let same = best_stays (length before) name e in
      let none = none_stays (length before) name e in
      (λ i. unless_pending before name (same i) (none i)) ∙ sym (ap (λ (question : Option Question). unless_pending before name hit question) e)

  -- ---- along the chain

  along_stays : (before names : List (List (List ℕ))) → is_settled (next_along all query facts before names) ≡ true → next_along all query more before names ≡ next_along all query facts before names
  along_stays before [] t = refl
  along_stays before (name ∷ names) t =
      same_or (next_at all query facts before name) (next_at all query more before name) (next_along all query facts (before ++ name ∷ []) names) (next_along all query more (before ++ name ∷ []) names) t
      (at_stays before name) (along_stays (before ++ name ∷ []) names)

  chain_stays : (names : Option (List (List (List ℕ)))) → is_settled (next_in_chain all query facts names) ≡ true → next_in_chain all query more names ≡ next_in_chain all query facts names
  chain_stays None t = refl
  chain_stays (Some names) t = along_stays (take 1 names) (drop 1 names) t

  behind_stays : (known other : Option Fact) → ((fact : Fact) → known ≡ Some fact → other ≡ Some fact) → is_settled (next_behind all query facts known) ≡ true → next_behind all query more other ≡ next_behind all query facts known
  behind_stays None other same t = absurd (true≢false (sym t))
  behind_stays (Some fact) other same t = ap (next_behind all query more) (same fact refl) ∙ chain_stays (chain (main_question query) fact) t

  pub next_stays : is_settled (or_next (next_at all query facts [] query.question.name) (next_behind all query facts (fact_about facts (main_question query)))) ≡ true
      → or_next (next_at all query more [] query.question.name) (next_behind all query more (fact_about more (main_question query))) ≡ or_next (next_at all query facts [] query.question.name) (next_behind all query facts (fact_about facts (main_question query)))
  next_stays t =
      same_or (next_at all query facts [] query.question.name) (next_at all query more [] query.question.name)
      (next_behind all query facts (fact_about facts (main_question query))) (next_behind all query more (fact_about more (main_question query))) t
      (at_stays [] query.question.name) (behind_stays (fact_about facts (main_question query)) (fact_about more (main_question query)) (stays.known (main_question query)))

-- ---- by the laws of the crates below

-- the laws of best hits, of facts and of the rules of a zone, as one premise
pub record AllLaws : Type 0 where
  pub zone_laws : ZoneLaws
  pub is : (hits : List PlainHit) → IsBest hits (best hits)
  pub only : (hits : List PlainHit) (found : Option PlainHit) → AreHits hits → IsBest hits found → found ≡ best hits
  pub stays : (facts more : PlainFacts) → Extends facts more → Stays facts more

module _ (laws : AllLaws) (policy : PlainPolicy) (query : Query) where
  best_hits : (facts : PlainFacts) → HaveRows policy.zones → BestHits (rules policy) query facts
  best_hits facts rows = record {
    is = λ position name. laws.is (hits (rules policy) query facts position name);
    only = λ position name found. laws.only (hits (rules policy) query facts position name) found (are_hits laws.zone_laws query facts position name policy rows);
  }

  module _ (facts more : PlainFacts) where
    pub best_by_laws : (position : ℕ) (name : List (List ℕ)) → HaveRows policy.zones → Extends facts more → pending (rules policy) query facts name (best (hits (rules policy) query facts position name)) ≡ None
        → best (hits (rules policy) query more position name) ≡ best (hits (rules policy) query facts position name)
    best_by_laws position name rows extends = best_stays (rules policy) query facts more (laws.stays facts more extends) (best_hits facts rows) (best_hits more rows) position name

    pub none_by_laws : (position : ℕ) (name : List (List ℕ)) → HaveRows policy.zones → Extends facts more → pending (rules policy) query facts name (best (hits (rules policy) query facts position name)) ≡ None
        → pending (rules policy) query more name (best (hits (rules policy) query more position name)) ≡ None
    none_by_laws position name rows extends = none_stays (rules policy) query facts more (laws.stays facts more extends) (best_hits facts rows) (best_hits more rows) position name

    pub next_by_laws : HaveRows policy.zones → Extends facts more → IsTrue (is_settled (next policy query facts)) → next policy query more ≡ next policy query facts
    next_by_laws rows extends = next_stays (rules policy) query facts more (laws.stays facts more extends) (best_hits facts rows) (best_hits more rows)
