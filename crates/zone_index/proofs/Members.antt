-- The elements of a list by recursion, which are those that it contains.
use Rattle.std.proofs.Common.{◌≡◌, ◌⊎◌, inl, inr, ℕ, ◌<◌, zero, suc, List, [], ◌∷◌, ◌++◌, map, length, get_or, refl, sym, ap, subst, arith}
use Rattle.std.specs.Prelude.{flat_map}
use Rattle.std.specs.List.{Contains}

-- the element is one of the list
abbrev pub IsIn : {X : Type 0} → X → List X → Type 0
IsIn x [] = ⊥
IsIn x (y ∷ ys) = (y ≡ x) ⊎ IsIn x ys

in_at : {X : Type 0} (x : X) (xs : List X) (k : ℕ) → k < length xs → get_or xs k x ≡ x → IsIn x xs
in_at x [] k lt e = absurd (omega arith)
in_at x (y ∷ ys) zero lt e = inl e
in_at x (y ∷ ys) (suc k) lt e = inr (in_at x ys k (omega arith) e)

pub in_contained : {X : Type 0} (x : X) (xs : List X) → Contains xs x → IsIn x xs
in_contained x xs h = in_at x xs h.0 h.1 h.2

pub contained_in : {X : Type 0} (x : X) (xs : List X) → IsIn x xs → Contains xs x
contained_in x [] h = absurd h
contained_in x (y ∷ ys) (inl e) = (0, omega arith, e)
contained_in x (y ∷ ys) (inr h) = let rest = contained_in x ys h in let lt : rest.0 < length ys = rest.1 in (suc rest.0, omega arith, rest.2)

pub in_left : {X : Type 0} (x : X) (xs ys : List X) → IsIn x xs → IsIn x (xs ++ ys)
in_left x [] ys h = absurd h
in_left x (z ∷ zs) ys (inl e) = inl e
in_left x (z ∷ zs) ys (inr h) = inr (in_left x zs ys h)

pub in_right : {X : Type 0} (x : X) (xs ys : List X) → IsIn x ys → IsIn x (xs ++ ys)
in_right x [] ys h = h
in_right x (z ∷ zs) ys h = inr (in_right x zs ys h)

pub in_either : {X : Type 0} (x : X) (xs ys : List X) → IsIn x (xs ++ ys) → IsIn x xs ⊎ IsIn x ys
in_either x [] ys h = inr h
in_either x (z ∷ zs) ys (inl e) = inl (inl e)
in_either x (z ∷ zs) ys (inr h) = elim (in_either x zs ys h) [ inl k ↦ inl (inr k) | inr k ↦ inr k ]

-- ---- elements of elements

module _ {X Y : Type 0} (f : X → List Y) where
  -- an element of the list whose own list has this element
  pub record HasSource (y : Y) (xs : List X) : Type 0 where
    pub source : X
    pub is_in : IsIn source xs
    pub has : IsIn y (f source)

  pub in_flat_map : (y : Y) (x : X) (xs : List X) → IsIn x xs → IsIn y (f x) → IsIn y (flat_map f xs)
  in_flat_map y x [] h k = absurd h
  in_flat_map y x (z ∷ zs) (inl e) k = in_left y (f z) (flat_map f zs) (subst (λ (w : X). IsIn y (f w)) (sym e) k)
  in_flat_map y x (z ∷ zs) (inr h) k = in_right y (f z) (flat_map f zs) (in_flat_map y x zs h k)

  further : (y : Y) (z : X) (zs : List X) → HasSource y zs → HasSource y (z ∷ zs)
  further y z zs s = record { source = s.source; is_in = inr s.is_in; has = s.has }

  pub source_of : (y : Y) (xs : List X) → IsIn y (flat_map f xs) → HasSource y xs
  source_of y [] h = absurd h
  source_of y (z ∷ zs) h =
      elim (in_either y (f z) (flat_map f zs) h) [
        | inl k ↦ record { source = z; is_in = inl refl; has = k }
        | inr k ↦ further y z zs (source_of y zs k)
      ]

module _ {X Y : Type 0} (f : X → Y) where
  pub record HasOrigin (y : Y) (xs : List X) : Type 0 where
    pub source : X
    pub is_in : IsIn source xs
    pub gives : f source ≡ y

  pub in_map : (x : X) (xs : List X) → IsIn x xs → IsIn (f x) (map f xs)
  in_map x [] h = absurd h
  in_map x (z ∷ zs) (inl e) = inl (ap f e)
  in_map x (z ∷ zs) (inr h) = inr (in_map x zs h)

  further_mapped : (y : Y) (z : X) (zs : List X) → HasOrigin y zs → HasOrigin y (z ∷ zs)
  further_mapped y z zs s = record { source = s.source; is_in = inr s.is_in; gives = s.gives }

  pub origin_of : (y : Y) (xs : List X) → IsIn y (map f xs) → HasOrigin y xs
  origin_of y [] h = absurd h
  origin_of y (z ∷ zs) (inl e) = record { source = z; is_in = inl refl; gives = e }
  origin_of y (z ∷ zs) (inr h) = further_mapped y z zs (origin_of y zs h)
