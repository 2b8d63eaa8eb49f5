-- The elements of lists that are put together.
use Rattle.std.proofs.Common.{List, [], ◌∷◌, ⊎_elim, sym, subst}
use Rattle.std.specs.List.{Contains, flat_map}
use Rattle.std.proofs.lemmas.List.Elements.{Contains-append_left, Contains-append_right, Contains-append_cases}
use Rattle.policy_snapshot.proofs.Members.{none, here, there, cases}

-- an element that gives a list with this one
pub record GivesOne {X Y : Type 0} (f : X → List Y) (xs : List X) (y : Y) : Type 0 where
  pub x : X
  pub within : Contains xs x
  pub gives : Contains (f x) y

module _ {X Y : Type 0} (f : X → List Y) where
  pub from_flat : (xs : List X) (y : Y) → Contains (flat_map f xs) y → GivesOne f xs y
  from_flat [] y at = absurd (none y at)
  from_flat (x ∷ xs) y at =
      ⊎_elim (λ l. record { x = x; within = here x xs; gives = l })
      (λ r. let m = from_flat xs y r in record { x = m.x; within = there x xs m.x m.within; gives = m.gives })
      (Contains-append_cases (f x) (flat_map f xs) y at)

  pub to_flat : (xs : List X) (x : X) (y : Y) → Contains xs x → Contains (f x) y → Contains (flat_map f xs) y
  to_flat [] x y at gives = absurd (none x at)
  to_flat (first ∷ xs) x y at gives =
      ⊎_elim (λ s. Contains-append_left (f first) (flat_map f xs) y (subst (λ (z : X). Contains (f z) y) (sym s) gives))
      (λ r. Contains-append_right (f first) (flat_map f xs) y (to_flat xs x y r gives))
      (cases first xs x at)
