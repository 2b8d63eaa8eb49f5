-- How the rows of many places are put in order at once: they are sorted by the octets of their places, and those of one place are
-- taken together.
use Rattle.std.specs.Prelude.{◌≡◌, ℕ, ◌<◌, List, [], ◌∷◌, length, map}
use Rattle.std.specs.List.{AllByRecursion}
use Rattle.dns_name.specs.Labels.{Name}
use Rattle.packed_lists.specs.Keyed.{AreInOrder, PlainKeyed, numbers_with}
use Rattle.packed_lists.specs.Stored.{PlainStored}
use Rattle.zone_index.specs.PlaceOctets.{IsSized, place_octets}
use Rattle.zone_index.specs.Placed.{IsPlace, entry_for, row_place, rows_by, stored_at}
use Rattle.zone_index.specs.Places.{PlainPlaces, entry_at}
use Rattle.zone_index.specs.declared.place.Place.{Place}
use Rattle.zone_rows.specs.Distinct.{AreDistinct}
use Rattle.zone_rows.specs.Stored.{plain_row}

-- the numbers of rows, by the octets of their places
abbrev pub keyed_rows : Name → List PlainStored → List PlainKeyed
keyed_rows origin rows = map (λ s. record { key = place_octets (row_place origin (plain_row s)); number = s.number }) rows

abbrev pub AreSized : Name → List PlainStored → Type 0
AreSized origin rows = AllByRecursion (λ s. IsSized (row_place origin (plain_row s))) rows

-- the list has the numbers of these rows
pub record IsListed (origin : Name) (rows : List PlainStored) (list : List PlainKeyed) : Type 0 where
  pub listed : list ≡ keyed_rows origin rows
  pub sized : AreSized origin rows

-- keys in order, which have the numbers of these rows
pub record AreKeysOf (origin : Name) (rows : List PlainStored) (keys : List PlainKeyed) : Type 0 where
  pub in_order : AreInOrder keys
  pub numbers : (key : List ℕ) → numbers_with key keys ≡ numbers_with key (keyed_rows origin rows)
  pub sized : AreSized origin rows

-- some keys of one place, each with the number of a row
pub record IsRunOf (place : Place) (rows : List PlainStored) (run : List PlainKeyed) : Type 0 where
  pub some : 0 < length run
  pub octets : AllByRecursion (λ k. k.key ≡ place_octets place) run
  pub found : map (λ k. k.number) run ≡ map (λ s. s.number) (rows_by (map (λ k. k.number) run) rows)

-- the rows of a place, if none of their numbers is left
abbrev pub if_taken : List ℕ → List PlainStored → List PlainStored
if_taken [] rows = rows
if_taken (n ∷ ns) rows = []

-- where a number of a key is left, all of that key are
abbrev pub AreWhole : Name → List PlainStored → List PlainKeyed → Type 0
AreWhole origin rows left = (key : List ℕ) → (numbers_with key left ≡ [] → ⊥) → numbers_with key left ≡ numbers_with key (keyed_rows origin rows)

-- no two rows have one identity at the places of which no key is left
pub record AreApart (origin : Name) (rows : List PlainStored) (left : List PlainKeyed) : Type 0 where
  pub in_order : AreInOrder left
  pub whole : AreWhole origin rows left
  pub at : (place : Place) → IsPlace place → AreDistinct (map plain_row (if_taken (numbers_with (place_octets place) left) (stored_at origin rows place)))

-- all rows stand at the places of which no key is left
pub record AreGathered (origin : Name) (rows : List PlainStored) (places : PlainPlaces) (left : List PlainKeyed) : Type 0 where
  pub in_order : AreInOrder left
  pub whole : AreWhole origin rows left
  pub at : (place : Place) → IsPlace place → entry_at places place ≡ entry_for place (if_taken (numbers_with (place_octets place) left) (stored_at origin rows place))
