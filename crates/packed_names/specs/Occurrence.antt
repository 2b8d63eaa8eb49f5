-- Places at which their names stand in a message.
use Rattle.std.specs.Prelude.{◌≡◌, ◌≢◌, ℕ, ◌<◌, List, [], ◌++◌, length, None}
use Rattle.std.specs.List.{AllByRecursion}
use Rattle.dns_name.specs.Labels.{IsName, Name}
use Rattle.dns_name.specs.Tails.{IsNameAt}
use Rattle.packed_names.specs.Places.{Place, first_offset}

-- the message has the place's name at its offset
pub record IsOccurrence (message : List ℕ) (place : Place) : Type 0 where
  pub inside : place.offset < length message
  pub stands : IsNameAt message place.offset place.labels

-- The message has the name of each place at the offset of that place.
abbrev pub AreOccurrences : List ℕ → List Place → Type 0
AreOccurrences message places = AllByRecursion (IsOccurrence message) places

-- the places are of names, and each of another than this one
abbrev pub HaveOtherNames : List Place → Name → Type 0
HaveOtherNames places name = AllByRecursion (λ p. IsName p.labels × (p.labels ≢ name)) places

-- no suffix of the name `front ++ suffix` that is longer than `suffix` has a place
abbrev pub HasNoLongerMatch : List Place → Name → Name → Type 0
HasNoLongerMatch places front suffix =
    (a b : Name) → front ≡ a ++ b → b ≢ [] → first_offset places (b ++ suffix) ≡ None
