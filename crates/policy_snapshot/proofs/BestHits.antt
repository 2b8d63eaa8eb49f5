-- The best of hits by parts of their list.
use Rattle.std.proofs.Common.{◌≡◌, Bool, true, false, cond, Option, Some, None, List, [], ◌∷◌, ◌++◌, ⊎_elim, refl, sym, subst, ◌∙◌, append-nil, append_assoc, true≢false}
use Rattle.std.specs.List.{Contains, flat_map}
use Rattle.std.specs.Prelude.{fold}
use Rattle.std.proofs.lemmas.List.Elements.{Contains-append_left, Contains-append_right, Contains-append_cases}
use Rattle.rpz_precedence.specs.Best.{PlainHit, IsBest}
use Rattle.rpz_precedence.specs.Rank.{PlainRank, precedes}
use Rattle.policy_snapshot.specs.Lookup.{or_hit, better, best_over}
use Rattle.policy_snapshot.proofs.Members.{none, empty}

-- no hit of the second list precedes one of the first
abbrev pub ComesBefore : List PlainHit → List PlainHit → Type 0
ComesBefore first second = (a b : PlainHit) → Contains first a → Contains second b → precedes b.rank a.rank ≡ false

-- the best of two lists of which the first comes before the second
pub best_of_both : (first second : List PlainHit) (a b : Option PlainHit) → IsBest first a → IsBest second b → ComesBefore first second → IsBest (first ++ second) (or_hit a b)
best_of_both first second None b is_a is_b before = subst (λ (l : List PlainHit). IsBest (l ++ second) b) (sym is_a) is_b
best_of_both first second (Some a) b is_a is_b before = (
  Contains-append_left first second a is_a.0,
  λ other at. ⊎_elim (λ l. is_a.1 other l) (λ r. before a other is_a.0 r) (Contains-append_cases first second other at),
)

-- the best depends only on which hits there are
pub best_of_same : (hits others : List PlainHit) (found : Option PlainHit) → ((h : PlainHit) → Contains hits h → Contains others h) → ((h : PlainHit) → Contains others h → Contains hits h) → IsBest hits found → IsBest others found
best_of_same hits others None to from is = empty others (λ h at. none h (subst (λ (l : List PlainHit). Contains l h) is (from h at)))
best_of_same hits others (Some hit) to from is = (to hit is.0, λ other at. is.1 other (from other at))

-- what the laws of ranks say, as one premise
pub record RankLaws : Type 0 where
  pub transitive : (a b c : PlainRank) → precedes a b ≡ true → precedes b c ≡ true → precedes a c ≡ true
  pub not_itself : (a : PlainRank) → precedes a a ≡ false
  pub not_before : (a b c : PlainRank) → precedes b a ≡ false → precedes c b ≡ false → precedes c a ≡ false

module _ (laws : RankLaws) where
  one_way : (a b : PlainRank) (t : Bool) → precedes a b ≡ t → precedes b a ≡ true → t ≡ false
  one_way a b true e h = absurd (true≢false (sym (laws.transitive a b a e h) ∙ laws.not_itself a))
  one_way a b false e h = refl

  chosen : (first second : List PlainHit) (a b : PlainHit) (t : Bool) → precedes b.rank a.rank ≡ t → IsBest first (Some a) → IsBest second (Some b) → IsBest (first ++ second) (cond t (Some b) (Some a))
  chosen first second a b true e is_a is_b =
      let back : precedes a.rank b.rank ≡ false = one_way a.rank b.rank (precedes a.rank b.rank) refl e in (
        Contains-append_right first second b is_b.0,
        λ other at. ⊎_elim (λ l. laws.not_before b.rank a.rank other.rank back (is_a.1 other l)) (λ r. is_b.1 other r) (Contains-append_cases first second other at),
      )
  chosen first second a b false e is_a is_b = (
    Contains-append_left first second a is_a.0,
    λ other at. ⊎_elim (λ l. is_a.1 other l) (λ r. laws.not_before a.rank b.rank other.rank e (is_b.1 other r)) (Contains-append_cases first second other at),
  )

  -- the better of the best of two lists is the best of both
  better_of_both : (first second : List PlainHit) (a b : Option PlainHit) → IsBest first a → IsBest second b → IsBest (first ++ second) (better a b)
  better_of_both first second None b is_a is_b = subst (λ (l : List PlainHit). IsBest (l ++ second) b) (sym is_a) is_b
  better_of_both first second (Some a) None is_a is_b = subst (λ (l : List PlainHit). IsBest (first ++ l) (Some a)) (sym is_b) (subst (λ (l : List PlainHit). IsBest l (Some a)) (sym (append-nil first)) is_a)
  better_of_both first second (Some a) (Some b) is_a is_b = chosen first second a b (precedes b.rank a.rank) refl is_a is_b

  module _ {X : Type 0} (look : X → Option PlainHit) (hits : X → List PlainHit) (each : (x : X) → IsBest (hits x) (look x)) where
    best_from : (done : List PlainHit) (found : Option PlainHit) (xs : List X) → IsBest done found → IsBest (done ++ flat_map hits xs) (fold (λ (f : Option PlainHit) (x : X). better f (look x)) found xs)
    best_from done found [] is = subst (λ (l : List PlainHit). IsBest l found) (sym (append-nil done)) is
    best_from done found (x ∷ xs) is =
        subst (λ (l : List PlainHit). IsBest l (fold (λ (f : Option PlainHit) (y : X). better f (look y)) (better found (look x)) xs)) (append_assoc done (hits x) (flat_map hits xs))
        (best_from (done ++ hits x) (better found (look x)) xs (better_of_both done (hits x) found (look x) is (each x)))

    -- the best of all is that which a loop over the best of each finds
    pub best_of_all : (xs : List X) → IsBest (flat_map hits xs) (best_over look xs)
    best_of_all xs = best_from [] None xs refl
