-- What is known of the names that stand at places of a message: their octets.
use Rattle.std.specs.Prelude.{◌≡◌, ℕ, ◌+◌, List, [], ◌∷◌, ◌++◌, length, Ok}
use Rattle.dns_name.specs.declared.name_reader.Span.{Span}
use Rattle.dns_name.specs.declared.name_reader.Walked.{Walked}
use Rattle.dns_name.specs.Labels.{name_octets, Name}
use Rattle.dns_name.specs.Reading.{name_at}

-- this name stands at the place
abbrev pub IsNameAt : List ℕ → ℕ → Name → Type 0
IsNameAt message place name = (after : ℕ) × (name_at message place ≡ Ok (name, after))

-- these are the octets of the name at the place
abbrev pub IsTailAt : List ℕ → ℕ → List ℕ → Type 0
IsTailAt message place tail =
    (name : Name) × IsNameAt message place name × (tail ≡ name_octets name)

-- the octets have between `from` and `to` those of the name at the place
pub record IsTail (message octets : List ℕ) (place from to : ℕ) : Type 0 where
  pub name : Name
  pub stands : IsNameAt message place name
  pub before : List ℕ
  pub behind : List ℕ
  pub begins : from ≡ length before
  pub ends : to ≡ length before + length (name_octets name)
  pub are : octets ≡ before ++ (name_octets name ++ behind)

-- each span has the octets of the name at its place
abbrev pub AreTails : List ℕ → List ℕ → List Span → Type 0
AreTails message octets [] = Unit {0}
AreTails message octets (span ∷ spans) =
    IsTail message octets span.place span.from span.to × AreTails message octets spans

-- a name that was read, and the place after it
abbrev pub name_and_after : Walked → Name × ℕ
name_and_after w = (w.name, w.after)
