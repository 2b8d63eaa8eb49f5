-- Of a list of hits there is one that no other precedes.
use Rattle.std.proofs.Common.{◌≡◌, zero, suc, Bool, true, false, ◌&&◌, cond, List, [], ◌∷◌, Option, Some, None, ◌⊎◌, inl, inr, refl, sym, ap, subst, ◌∙◌, arith, true≢false}
use Rattle.std.proofs.lemmas.Bool.{not-true, not_from_false}
use Rattle.std.specs.Cmp.{tied_itself}
use Rattle.std.specs.List.{find, list_all}
use Rattle.std.specs.Ordering.{is_lt}
use Rattle.std.specs.Prelude.{Contains, not}
use Rattle.trigger_codec.specs.Bases.{IsTrigger}
use Rattle.rpz_precedence.specs.Best.{AreHits, IsBest, PlainHit, best, is_first}
use Rattle.rpz_precedence.specs.Rank.{PlainRank, precedes, rank_order}
use Rattle.rpz_precedence.proofs.Orders.{rank_total, less_if, behind}

-- ---- the laws of the order

pub transitive : (a b c : PlainRank) → precedes a b ≡ true → precedes b c ≡ true → precedes a c ≡ true
transitive a b c h k = ap is_lt (rank_total.trans a b c (less_if (rank_order a b) h) (less_if (rank_order b c) k))

pub not_itself : (a : PlainRank) → precedes a a ≡ false
not_itself a = ap is_lt (tied_itself rank_total a)

pub not_before : (a b c : PlainRank) → precedes b a ≡ false → precedes c b ≡ false → precedes c a ≡ false
not_before a b c h k = behind rank_total a b c h k

-- ---- members of a list

In : {X : Type 0} → List X → X → Type 0
In [] x = ⊥
In (y ∷ ys) x = (y ≡ x) ⊎ In ys x

in_if : {X : Type 0} (xs : List X) (x : X) → Contains xs x → In xs x
unfolding In
in_if [] x (k, lt, is) = absurd (omega (arith, lt))
in_if (y ∷ ys) x (zero, lt, is) = inl is
in_if (y ∷ ys) x (suc k, lt, is) = inr (in_if ys x (k, omega (arith, lt), is))

contains_if : {X : Type 0} (xs : List X) (x : X) → In xs x → Contains xs x
unfolding In
contains_if [] x h = absurd h
contains_if (y ∷ ys) x (inl is) = (0, omega arith, is)
contains_if (y ∷ ys) x (inr h) = let c = contains_if ys x h in (suc c.0, omega (arith, c.1), c.2)

-- ---- tests of all members

both : (a b : Bool) → a ≡ true → b ≡ true → (a && b) ≡ true
both true true h k = refl
both true false h k = k
both false b h k = h

pub both_first : (a b : Bool) → (a && b) ≡ true → a ≡ true
both_first true b h = refl
both_first false b h = h

both_second : (a b : Bool) → (a && b) ≡ true → b ≡ true
both_second true b h = h
both_second false b h = absurd (true≢false (sym h))

all_weaker : {X : Type 0} (p q : X → Bool) → ((x : X) → p x ≡ true → q x ≡ true) → (xs : List X) → list_all p xs ≡ true → list_all q xs ≡ true
all_weaker p q weaker [] h = refl
all_weaker p q weaker (x ∷ xs) h = both (q x) (list_all q xs) (weaker x (both_first (p x) (list_all p xs) h)) (all_weaker p q weaker xs (both_second (p x) (list_all p xs) h))

all_in : {X : Type 0} (p : X → Bool) (xs : List X) (x : X) → list_all p xs ≡ true → In xs x → p x ≡ true
unfolding In
all_in p [] x h i = absurd i
all_in p (y ∷ ys) x h (inl is) = ap p (sym is) ∙ both_first (p y) (list_all p ys) h
all_in p (y ∷ ys) x h (inr i) = all_in p ys x (both_second (p y) (list_all p ys) h) i

-- ---- what is found

abbrev IsFound : {X : Type 0} → (X → Bool) → List X → Type 0
IsFound {X} p xs = (x : X) × (find p xs ≡ Some x) × In xs x × (p x ≡ true)

found_next : {X : Type 0} (p : X → Bool) (y : X) (ys : List X) (passes : Bool) → p y ≡ passes → (passes ≡ false → IsFound p ys) → IsFound p (y ∷ ys)
unfolding In
found_next {X} p y ys true is rest = (y, ap (λ (b : Bool). cond b (Some y) (find p ys)) is, inl refl, is)
found_next {X} p y ys false is rest = let f = rest refl in (f.0, ap (λ (b : Bool). cond b (Some y) (find p ys)) is ∙ f.1, inr f.2, f.3)

found : {X : Type 0} (p : X → Bool) (xs : List X) (x : X) → In xs x → p x ≡ true → IsFound p xs
unfolding In
found p [] x i h = absurd i
found p (y ∷ ys) x (inl is) h = found_next p y ys (p y) refl (λ no. absurd (true≢false (sym h ∙ ap p (sym is) ∙ no)))
found p (y ∷ ys) x (inr i) h = found_next p y ys (p y) refl (λ no. found p ys x i h)

-- ---- the first of all

-- the hit does not precede the rank
abbrev is_behind : PlainRank → PlainHit → Bool
is_behind rank other = not (precedes other.rank rank)

-- what does not precede a rank does not precede one before it
behind_before : (a b : PlainRank) → precedes a b ≡ true → (other : PlainHit) → is_behind b other ≡ true → is_behind a other ≡ true
behind_before a b before other behind = by_test (precedes other.rank a) refl
  where
    by_test : (t : Bool) → precedes other.rank a ≡ t → not t ≡ true
    by_test true h = absurd (true≢false (sym (transitive other.rank a b h before) ∙ not-true (precedes other.rank b) behind))
    by_test false h = refl

abbrev HasFirst : List PlainHit → Type 0
HasFirst hits = (hit : PlainHit) × In hits hit × (is_first hits hit ≡ true)

one_more : (x : PlainHit) (xs : List PlainHit) (so : HasFirst xs) (before : Bool) → precedes x.rank so.0.rank ≡ before → HasFirst (x ∷ xs)
unfolding In
one_more x xs so true is = (
  x,
  inl refl,
  both (is_behind x.rank x) (is_first xs x) (not_from_false (precedes x.rank x.rank) (not_itself x.rank)) (all_weaker (is_behind so.0.rank) (is_behind x.rank) (behind_before x.rank so.0.rank is) xs so.2),
)
one_more x xs so false is = (so.0, inr so.1, both (is_behind so.0.rank x) (is_first xs so.0) (not_from_false (precedes x.rank so.0.rank) is) so.2)

has_first : (x : PlainHit) (xs : List PlainHit) → HasFirst (x ∷ xs)
unfolding In
has_first x [] = (x, inl refl, both (is_behind x.rank x) true (not_from_false (precedes x.rank x.rank) (not_itself x.rank)) refl)
has_first x (y ∷ ys) = let so = has_first y ys in one_more x (y ∷ ys) so (precedes x.rank so.0.rank) refl

-- ---- the laws of the best hit

pub best_is : (hits : List PlainHit) → IsBest hits (best hits)
unfolding best
best_is [] = refl
best_is (x ∷ xs) =
    let so = has_first x xs in
    let f = found (is_first (x ∷ xs)) (x ∷ xs) so.0 so.1 so.2 in
    let P : Option PlainHit → Type 0 = IsBest (x ∷ xs) in
    subst P (sym f.1) (
      contains_if (x ∷ xs) f.0 f.2,
      λ other c. not-true (precedes other.rank f.0.rank) (all_in (is_behind f.0.rank) (x ∷ xs) other f.3 (in_if (x ∷ xs) other c)),
    )

abbrev pub AreTotal : Type 0
AreTotal = (a b : PlainRank) → IsTrigger a.trigger → IsTrigger b.trigger → precedes a b ≡ false → precedes b a ≡ false → a ≡ b

empty_has_none : (hits : List PlainHit) (hit : PlainHit) → hits ≡ [] → Contains hits hit → ⊥
empty_has_none [] hit is c = omega (arith, c.1)
empty_has_none (x ∷ xs) hit is c = cc is

pub only : AreTotal → (hits : List PlainHit) → AreHits hits → (a b : Option PlainHit) → IsBest hits a → IsBest hits b → a ≡ b
only total hits are None None h k = refl
only total hits are None (Some b) h k = absurd (empty_has_none hits b h k.0)
only total hits are (Some a) None h k = absurd (empty_has_none hits a k h.0)
only total hits are (Some a) (Some b) h k =
    ap Some (are.apart a b h.0 k.0 (total a.rank b.rank (are.triggers a h.0) (are.triggers b k.0) (k.1 a h.0) (h.1 b k.0)))
