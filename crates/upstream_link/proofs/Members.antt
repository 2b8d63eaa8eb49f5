-- Elements of lists, and of lists that are joined.
use Rattle.std.proofs.Common.{◌≡◌, List, [], ◌∷◌, ◌++◌, ◌⊎◌, inl, inr, sym, arith, subst}
use Rattle.std.proofs.lemmas.List.Elements.{Contains-append_left, Contains-append_right, Contains-append_cases, Contains-push, Contains-push_cases}
use Rattle.std.specs.List.{Contains, flat_map}

module _ {X : Type 0} where
  pub none : (x : X) → Contains [] x → ⊥
  none x c = omega (arith, c.1)

  pub here : (x : X) (xs : List X) → Contains (x ∷ xs) x
  here x xs = Contains-append_left (x ∷ []) xs x (Contains-push [] x)

  pub there : (x : X) (xs : List X) (y : X) → Contains xs y → Contains (x ∷ xs) y
  there x xs y c = Contains-append_right (x ∷ []) xs y c

  alone : (x y : X) → Contains [] y ⊎ (x ≡ y) → x ≡ y
  alone x y (inl c) = absurd (none y c)
  alone x y (inr e) = e

  first_or : (x : X) (xs : List X) (y : X) → Contains (x ∷ []) y ⊎ Contains xs y → (x ≡ y) ⊎ Contains xs y
  first_or x xs y (inl c) = inl (alone x y (Contains-push_cases [] x y c))
  first_or x xs y (inr c) = inr c

  pub split : (x : X) (xs : List X) (y : X) → Contains (x ∷ xs) y → (x ≡ y) ⊎ Contains xs y
  split x xs y c = first_or x xs y (Contains-append_cases (x ∷ []) xs y c)

-- an element of the joined lists comes from one of them
abbrev pub Comes : {X A : Type 0} → (X → List A) → List X → A → Type 0
Comes {X} f xs y = (x : X) × Contains xs x × Contains (f x) y

module _ {X A : Type 0} (f : X → List A) where
  from_either : (x : X) (xs : List X) (y : A) → Contains (f x) y ⊎ Comes f xs y → Comes f (x ∷ xs) y
  from_either x xs y (inl c) = (x, here x xs, c)
  from_either x xs y (inr c) = (c.0, there x xs c.0 c.1, c.2)

  apart : (x : X) (xs : List X) (y : A) → (Contains (flat_map f xs) y → Comes f xs y) → Contains (f x) y ⊎ Contains (flat_map f xs) y → Comes f (x ∷ xs) y
  apart x xs y go (inl c) = from_either x xs y (inl c)
  apart x xs y go (inr c) = from_either x xs y (inr (go c))

  pub from_joined : (xs : List X) (y : A) → Contains (flat_map f xs) y → Comes f xs y
  from_joined [] y c = absurd (none y c)
  from_joined (x ∷ xs) y c = apart x xs y (from_joined xs y) (Contains-append_cases (f x) (flat_map f xs) y c)

  into_either : (x : X) (xs : List X) (z : X) (y : A) → (Contains xs z → Contains (flat_map f xs) y) → Contains (f z) y → (x ≡ z) ⊎ Contains xs z → Contains (f x ++ flat_map f xs) y
  into_either x xs z y go c (inl e) = Contains-append_left (f x) (flat_map f xs) y (subst (λ (w : X). Contains (f w) y) (sym e) c)
  into_either x xs z y go c (inr m) = Contains-append_right (f x) (flat_map f xs) y (go m)

  pub into_joined : (xs : List X) (z : X) (y : A) → Contains xs z → Contains (f z) y → Contains (flat_map f xs) y
  into_joined [] z y m c = absurd (none z m)
  into_joined (x ∷ xs) z y m c = into_either x xs z y (λ k. into_joined xs z y k c) c (split x xs z m)
