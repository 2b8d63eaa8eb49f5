-- A policy in which one zone is another, by the numbers of its zones.
use Rattle.std.proofs.Common.{◌≡◌, ℕ, zero, suc, ◌+◌, ◌-◌, ◌≤◌, ◌<◌, ◌==◌, Bool, true, false, cond, List, [], ◌∷◌, length, map, get_or, Option, Some, None, refl, sym, ap, ◌∙◌, true≢false, arith}
use Rattle.std.specs.Prelude.{slice_get, slice_set}
use Rattle.std.specs.Option.{option_map}
use Rattle.std.proofs.lemmas.Bool.{eqb-true}
use Rattle.std.proofs.lemmas.Bool.Decides.{nat_tests}
use Rattle.std.proofs.lemmas.Option.{slice_get-map, slice_get_read, slice_get_within}
use Rattle.zone_rows.specs.declared.zone.PlainZone.{PlainZone}
use Rattle.policy_snapshot.specs.Policy.{PlainZones, zone_at}

module _ {X : Type 0} where
  some_is : (x y : X) → Some x ≡ Some y → x ≡ y
  some_is x y e = cc e

  set_there : (xs : List X) (k : ℕ) (y : X) → k < length xs → slice_get (slice_set xs k y) k ≡ Some y
  set_there [] k y lt = absurd (omega (arith, lt))
  set_there (z ∷ xs) zero y lt = refl
  set_there (z ∷ xs) (suc k) y lt = set_there xs k y (omega (arith, lt))

  set_same : (xs : List X) (k : ℕ) (x y : X) → slice_get (slice_set xs k y) k ≡ Some x → y ≡ x
  set_same [] k x y e = absurd cc
  set_same (z ∷ xs) zero x y e = some_is y x e
  set_same (z ∷ xs) (suc k) x y e = set_same xs k x y e

  set_other : (xs : List X) (k m : ℕ) (y : X) → (m ≡ k → ⊥) → slice_get (slice_set xs k y) m ≡ slice_get xs m
  set_other [] k m y apart = refl
  set_other (z ∷ xs) zero zero y apart = absurd (apart refl)
  set_other (z ∷ xs) zero (suc m) y apart = refl
  set_other (z ∷ xs) (suc k) zero y apart = refl
  set_other (z ∷ xs) (suc k) (suc m) y apart = set_other xs k m y (λ e. apart (ap suc e))

  get_there : (xs : List X) (k : ℕ) → k < length xs → (x : X) × (slice_get xs k ≡ Some x)
  get_there [] k lt = absurd (omega (arith, lt))
  get_there (x ∷ xs) zero lt = (x, refl)
  get_there (x ∷ xs) (suc k) lt = get_there xs k (omega (arith, lt))

at_by : (b : Bool) (found : Option PlainZone) → b ≡ false → cond b None found ≡ found
at_by true found e = absurd (true≢false e)
at_by false found e = refl

pub at_place : (zones : PlainZones) (n : ℕ) → 1 ≤ n → zone_at zones n ≡ slice_get zones (n - 1)
at_place zones n some = at_by (n == 0) (slice_get zones (n - 1)) (grind (arith, nat_tests, some))

apart_by : (n number : ℕ) → (n == number) ≡ false → 1 ≤ n → 1 ≤ number → n - 1 ≡ number - 1 → ⊥
apart_by n number e some low same = grind (arith, e, some, low, same)

-- the zone that a loop looks at
pub zone_here : {Y : Type 0} (g : Y → PlainZone) (ys : List Y) (k n : ℕ) (y : Y) → k < length ys → y ≡ get_or ys k y → n ≡ k + 1 → zone_at (map g ys) n ≡ Some (g y)
zone_here g ys k n y lt is e =
    let place : n - 1 ≡ k = omega (arith, e) in
    at_place (map g ys) n (omega (arith, e))
    ∙ ap (slice_get (map g ys)) place
    ∙ slice_get-map g ys k
    ∙ ap (option_map g) (slice_get_read ys (length ys) k y refl lt is)

-- a zone has each number up to that of the last
pub some_there : (zones : PlainZones) (n : ℕ) → 1 ≤ n → n ≤ length zones → (zone : PlainZone) × (zone_at zones n ≡ Some zone)
some_there zones n some within =
    let found = get_there zones (n - 1) (omega (arith, some, within)) in
    (found.0, at_place zones n some ∙ found.1)

-- and none has one behind
pub number_within : (zones : PlainZones) (n : ℕ) (zone : PlainZone) → 1 ≤ n → zone_at zones n ≡ Some zone → n ≤ length zones
number_within zones n zone some e =
    let lt : n - 1 < length zones = slice_get_within zones (n - 1) zone (sym (at_place zones n some) ∙ e) in
    omega (arith, lt, some)

module _ (zones : PlainZones) (number n : ℕ) (new : PlainZone) (low : 1 ≤ number) (some : 1 ≤ n) where
  -- the new zone has its number
  pub is_new : (n == number) ≡ true → number ≤ length zones → zone_at (slice_set zones (number - 1) new) n ≡ Some new
  is_new at within =
      at_place (slice_set zones (number - 1) new) n some
      ∙ ap (λ (k : ℕ). slice_get (slice_set zones (number - 1) new) (k - 1)) (eqb-true n number at)
      ∙ set_there zones (number - 1) new (omega (arith, low, within))

  -- each other zone stays
  pub stays : (n == number) ≡ false → zone_at (slice_set zones (number - 1) new) n ≡ zone_at zones n
  stays at =
      at_place (slice_set zones (number - 1) new) n some
      ∙ set_other zones (number - 1) (n - 1) new (apart_by n number at some low)
      ∙ sym (at_place zones n some)

  -- the zone of its number is the new one
  pub new_is : (zone : PlainZone) → (n == number) ≡ true → zone_at (slice_set zones (number - 1) new) n ≡ Some zone → new ≡ zone
  new_is zone at e =
      set_same zones (number - 1) zone new
      (ap (λ (k : ℕ). slice_get (slice_set zones (number - 1) new) (k - 1)) (sym (eqb-true n number at)) ∙ sym (at_place (slice_set zones (number - 1) new) n some) ∙ e)
