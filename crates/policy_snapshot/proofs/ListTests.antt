-- Tests of the elements of lists: of all, of any, of the first that passes, of those that are kept.
use Rattle.std.proofs.Common.{◌≡◌, Bool, true, false, ◌&&◌, ◌||◌, cond, List, [], ◌∷◌, Option, Some, None, ⊎_elim, refl, sym, ap, ◌∙◌, true≢false}
use Rattle.std.specs.List.{Contains, find, list_all, list_any}
use Rattle.std.specs.Prelude.{filter}
use Rattle.policy_snapshot.proofs.Members.{none, here, there, cases}

-- ---- tests

pub both : (a b : Bool) → a ≡ true → b ≡ true → (a && b) ≡ true
both true b h k = k
both false b h k = h

pub both_first : (a b : Bool) → (a && b) ≡ true → a ≡ true
both_first true b h = refl
both_first false b h = h

pub both_second : (a b : Bool) → (a && b) ≡ true → b ≡ true
both_second true b h = h
both_second false b h = absurd (true≢false (sym h))

or_first : (a b : Bool) → a ≡ true → (a || b) ≡ true
or_first true b h = refl
or_first false b h = absurd (true≢false (sym h))

or_second : (a b : Bool) → b ≡ true → (a || b) ≡ true
or_second true b h = refl
or_second false b h = h

or_either : (a b c d : Bool) → (a || b) ≡ true → (a ≡ true → c ≡ true) → (b ≡ true → d ≡ true) → (c || d) ≡ true
or_either true b c d h f g = or_first c d (f refl)
or_either false b c d h f g = or_second c d (g h)

module _ {X : Type 0} (p : X → Bool) where
  -- ---- all and any

  pub all_at : (xs : List X) (x : X) → list_all p xs ≡ true → Contains xs x → p x ≡ true
  all_at [] x t h = absurd (none x h)
  all_at (y ∷ ys) x t h =
      ⊎_elim (λ e. ap p (sym e) ∙ both_first (p y) (list_all p ys) t) (λ r. all_at ys x (both_second (p y) (list_all p ys) t) r) (cases y ys x h)

  pub all_if : (xs : List X) → ((x : X) → Contains xs x → p x ≡ true) → list_all p xs ≡ true
  all_if [] h = refl
  all_if (y ∷ ys) h = both (p y) (list_all p ys) (h y (here y ys)) (all_if ys (λ x at. h x (there y ys x at)))

  pub any_at : (xs : List X) (x : X) → Contains xs x → p x ≡ true → list_any p xs ≡ true
  any_at [] x h t = absurd (none x h)
  any_at (y ∷ ys) x h t =
      ⊎_elim (λ e. or_first (p y) (list_any p ys) (ap p e ∙ t)) (λ r. or_second (p y) (list_any p ys) (any_at ys x r t)) (cases y ys x h)

  -- ---- the first that passes, and those that are kept

  absent_by : (b : Bool) (x : X) (rest : Option X) → cond b (Some x) rest ≡ None → (b ≡ false) × (rest ≡ None)
  absent_by true x rest e = absurd cc
  absent_by false x rest e = (refl, e)

  -- where none is found, none passes
  pub none_passes : (xs : List X) (x : X) → find p xs ≡ None → Contains xs x → p x ≡ false
  none_passes [] x e h = absurd (none x h)
  none_passes (y ∷ ys) x e h =
      let a = absent_by (p y) y (find p ys) e in
      ⊎_elim (λ s. ap p (sym s) ∙ a.0) (λ r. none_passes ys x a.1 r) (cases y ys x h)

  dropped_if : (b : Bool) (x : X) (rest : List X) → b ≡ false → rest ≡ [] → cond b (x ∷ rest) rest ≡ []
  dropped_if true x rest b e = absurd (true≢false b)
  dropped_if false x rest b e = e

  pub none_kept : (xs : List X) → ((x : X) → Contains xs x → p x ≡ false) → filter p xs ≡ []
  none_kept [] h = refl
  none_kept (y ∷ ys) h = dropped_if (p y) y (filter p ys) (h y (here y ys)) (none_kept ys (λ x at. h x (there y ys x at)))

module _ {X : Type 0} (p q : X → Bool) where
  pub any_weaker : (xs : List X) → ((x : X) → p x ≡ true → q x ≡ true) → list_any p xs ≡ true → list_any q xs ≡ true
  any_weaker [] weaker h = h
  any_weaker (x ∷ xs) weaker h = or_either (p x) (list_any p xs) (q x) (list_any q xs) h (weaker x) (any_weaker xs weaker)

  pub any_same : (xs : List X) → ((x : X) → Contains xs x → p x ≡ q x) → list_any p xs ≡ list_any q xs
  any_same [] same = refl
  any_same (x ∷ xs) same =
      let first = same x (here x xs) in
      let rest = any_same xs (λ y at. same y (there x xs y at)) in
      λ i. first i || rest i
