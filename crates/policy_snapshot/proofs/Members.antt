-- The elements of lists that are made of others.
use Rattle.std.proofs.Common.{◌≡◌, ℕ, zero, suc, ◌<◌, Bool, true, false, List, [], ◌∷◌, map, length, get_or, ◌⊎◌, ⊎_elim, inl, inr, refl, sym, ap, ◌∙◌, arith, true≢false}
use Rattle.std.specs.Prelude.{cond, filter}
use Rattle.std.specs.List.{Contains}

module _ {X : Type 0} where
  pub none : (x : X) → Contains [] x → ⊥
  none x h = omega (arith, h.1)

  pub here : (x : X) (xs : List X) → Contains (x ∷ xs) x
  here x xs = (0, omega arith, refl)

  pub there : (x : X) (xs : List X) (y : X) → Contains xs y → Contains (x ∷ xs) y
  there x xs y h = (suc h.0, omega (arith, h.1), h.2)

  cases_at : (x : X) (xs : List X) (y : X) (k : ℕ) → k < length (x ∷ xs) → get_or (x ∷ xs) k y ≡ y → (x ≡ y) ⊎ Contains xs y
  cases_at x xs y zero lt e = inl e
  cases_at x xs y (suc k) lt e = inr (k, omega (arith, lt), e)

  pub cases : (x : X) (xs : List X) (y : X) → Contains (x ∷ xs) y → (x ≡ y) ⊎ Contains xs y
  cases x xs y h = cases_at x xs y h.0 h.1 h.2

  -- a list without elements is empty
  pub empty : (xs : List X) → ((x : X) → Contains xs x → ⊥) → xs ≡ []
  empty [] h = refl
  empty (x ∷ xs) h = absurd (h x (here x xs))

-- an element of a list that gives this one
pub record MapsTo {X Y : Type 0} (f : X → Y) (xs : List X) (y : Y) : Type 0 where
  pub x : X
  pub within : Contains xs x
  pub is : f x ≡ y

module _ {X Y : Type 0} (f : X → Y) where
  pub from_map : (xs : List X) (y : Y) → Contains (map f xs) y → MapsTo f xs y
  from_map [] y h = absurd (none y h)
  from_map (x ∷ xs) y h =
      ⊎_elim (λ e. record { x = x; within = here x xs; is = e })
      (λ t. let m = from_map xs y t in record { x = m.x; within = there x xs m.x m.within; is = m.is })
      (cases (f x) (map f xs) y h)

  pub to_map : (xs : List X) (x : X) → Contains xs x → Contains (map f xs) (f x)
  to_map [] x h = absurd (none x h)
  to_map (first ∷ xs) x h =
      ⊎_elim (λ e. (0, omega arith, ap f e))
      (λ t. there (f first) (map f xs) (f x) (to_map xs x t))
      (cases first xs x h)

module _ {X : Type 0} (p : X → Bool) where
  first_if : (b : Bool) (x : X) (xs : List X) (y : X) → p x ≡ b → Contains (cond b (x ∷ xs) xs) y → ((x ≡ y) × (p y ≡ true)) ⊎ Contains xs y
  first_if true x xs y e h = ⊎_elim (λ s. inl (s, ap p (sym s) ∙ e)) (λ t. inr t) (cases x xs y h)
  first_if false x xs y e h = inr h

  pub from_filter : (xs : List X) (y : X) → Contains (filter p xs) y → Contains xs y × (p y ≡ true)
  from_filter [] y h = absurd (none y h)
  from_filter (x ∷ xs) y h =
      ⊎_elim (λ s. ((0, omega arith, s.0), s.1))
      (λ t. let m = from_filter xs y t in (there x xs y m.0, m.1))
      (first_if (p x) x (filter p xs) y refl h)

  kept_if : (b : Bool) (x : X) (xs : List X) (y : X) → p x ≡ b → p y ≡ true → (x ≡ y) ⊎ Contains xs y → Contains (cond b (x ∷ xs) xs) y
  kept_if true x xs y e t (inl s) = (0, omega arith, s)
  kept_if true x xs y e t (inr h) = there x xs y h
  kept_if false x xs y e t (inl s) = absurd (true≢false (sym t ∙ ap p (sym s) ∙ e))
  kept_if false x xs y e t (inr h) = h

  pub to_filter : (xs : List X) (y : X) → Contains xs y → p y ≡ true → Contains (filter p xs) y
  to_filter [] y h t = absurd (none y h)
  to_filter (x ∷ xs) y h t =
      kept_if (p x) x (filter p xs) y refl t (⊎_elim (λ s. inl s) (λ r. inr (to_filter xs y r t)) (cases x xs y h))
