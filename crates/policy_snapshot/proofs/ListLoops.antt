-- Loops over lists that keep the better of what there is and what the next list gives.
use Rattle.std.proofs.Common.{◌≡◌, ℕ, ◌+◌, ◌<◌, Bool, true, false, cond, Option, Some, None, List, [], ◌∷◌, ◌++◌, map, take, length, get_or, fold, refl, sym, ap, subst, ◌∙◌, arith, true≢false}
use Rattle.std.specs.Prelude.{All}
use Rattle.std.proofs.lemmas.List.{get_or-map, length-map, map-append, take_more}
use Rattle.rpz_precedence.specs.Best.{PlainHit}
use Rattle.policy_snapshot.specs.Lookup.{better, best_over, goes_before}

module _ {X Z : Type 0} (f : Z → X → Z) where
  pub fold_behind : (xs : List X) (z : Z) (x : X) → fold f z (xs ++ x ∷ []) ≡ f (fold f z xs) x
  fold_behind [] z x = refl
  fold_behind (y ∷ ys) z x = fold_behind ys (f z y) x

module _ {X Y : Type 0} (g : Y → X) where
  -- the first so many elements and the next one
  pub mapped_more : (ys : List Y) (k : ℕ) (y : Y) → k < length ys → y ≡ get_or ys k y → map g (take (k + 1) ys) ≡ map g (take k ys) ++ g y ∷ []
  mapped_more ys k y lt is = ap (map g) (take_more ys k y lt) ∙ map-append g (take k ys) (get_or ys k y ∷ []) ∙ ap (λ (z : Y). map g (take k ys) ++ g z ∷ []) (sym is)

  pub kept : (look : X → Option PlainHit) (ys : List Y) (k : ℕ) (y : Y) (best next : Option PlainHit) → k < length ys → y ≡ get_or ys k y → best ≡ best_over look (map g (take k ys)) → next ≡ better best (look (g y))
      → next ≡ best_over look (map g (take (k + 1) ys))
  kept look ys k y best next lt is e n =
      n ∙ ap (λ (b : Option PlainHit). better b (look (g y))) e
      ∙ sym (fold_behind (λ (b : Option PlainHit) (x : X). better b (look x)) (map g (take k ys)) None (g y))
      ∙ ap (best_over look) (sym (mapped_more ys k y lt is))

-- what is kept of two hits
pub taken : (best : Option PlainHit) (hit : PlainHit) → goes_before hit best ≡ true → Some hit ≡ better best (Some hit)
taken None hit t = refl
taken (Some b) hit t = ap (λ (c : Bool). cond c (Some hit) (Some b)) (sym t)

pub left : (best : Option PlainHit) (hit : PlainHit) → goes_before hit best ≡ false → best ≡ better best (Some hit)
left None hit t = absurd (true≢false t)
left (Some b) hit t = ap (λ (c : Bool). cond c (Some hit) (Some b)) (sym t)

pub none_taken : (best : Option PlainHit) → best ≡ better best None
none_taken None = refl
none_taken (Some b) = refl

-- what holds of all lists holds of one
pub holds_at : {X Y : Type 0} (g : Y → X) (P : X → Type 0) (ys : List Y) (k : ℕ) (y : Y) → k < length ys → y ≡ get_or ys k y → All P (map g ys) → P (g y)
holds_at g P ys k y lt is all = subst P (get_or-map g ys k y (g y) lt ∙ ap g (sym is)) (all k (g y) (omega (arith, lt, length-map ys g)))
