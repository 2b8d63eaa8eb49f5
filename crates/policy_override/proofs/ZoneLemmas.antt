-- Policy zones, and the lists of their origins and overrides.
use Rattle.std.proofs.Common.{◌≡◌, ℕ, zero, suc, ◌-◌, ◌==◌, ◌||◌, Bool, true, false, if◌then◌else◌, List, [], ◌∷◌, Option, None, refl, ap}
use Rattle.std.specs.List.{list_any, slice_get}
use Rattle.dns_name.specs.Alike.{same_name}
use Rattle.dns_name.specs.Labels.{Name}
use Rattle.policy_override.specs.declared.overrides.Override.{Override}
use Rattle.policy_override.specs.declared.overrides.Override.TheVariants.{Given}
use Rattle.policy_override.specs.declared.zone_set.ZoneSet.{ZoneSet}
use Rattle.policy_override.specs.Overrides.{given_or, over_at}
use Rattle.policy_override.specs.ZoneSet.{given_zones, has_zone_name, origins_in, overrides_in}

-- a zone has this origin where it is one of the origins
pub any_origin : (zones : List ZoneSet) (origin : Name) → list_any (λ (zone : ZoneSet). same_name zone.origin origin) zones ≡ has_zone_name (origins_in zones) origin
any_origin [] origin = refl
any_origin (zone ∷ zones) origin = ap (λ (b : Bool). same_name zone.origin origin || b) (any_origin zones origin)

-- zones as they are given have the origins that they were made of
pub given_origins : (origins : List Name) → origins_in (given_zones origins) ≡ origins
given_origins [] = refl
given_origins (origin ∷ origins) = ap (λ (others : List Name). origin ∷ others) (given_origins origins)

-- each of them is as it is given, at each place and past the last
given_place : (origins : List Name) (place : ℕ) → given_or (slice_get (overrides_in (given_zones origins)) place) ≡ Given
given_place [] place = refl
given_place (origin ∷ origins) zero = refl
given_place (origin ∷ origins) (suc place) = given_place origins place

given_where : (none : Bool) (found : Option Override) → given_or found ≡ Given → given_or (if none then None else found) ≡ Given
given_where true found given = refl
given_where false found given = given

-- and of each number
pub given_number : (origins : List Name) (number : ℕ) → over_at (overrides_in (given_zones origins)) number ≡ Given
given_number origins number =
    given_where (number == 0) (slice_get (overrides_in (given_zones origins)) (number - 1)) (given_place origins (number - 1))
