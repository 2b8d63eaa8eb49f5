-- A name is a list of labels, each a list of bytes (RFC 1034, section 3.1).
use Rattle.std.specs.Prelude.{◌≡◌, ℕ, ◌≤◌, List, [], ◌∷◌, ◌++◌, length, map}
use Rattle.std.specs.List.{flat_map, AllByRecursion}
use Rattle.std.specs.Char.{to_ascii_lowercase}
use Rattle.dns_name.specs.declared.limits.TheConstants.{NAME_LIMIT, LABEL_LIMIT}

-- a label: its bytes
abbrev pub Label : Type 0
Label = List ℕ

-- a name: its labels, the root's empty one not counted
abbrev pub Name : Type 0
Name = List Label

-- a label has 1 to 63 bytes (RFC 1035, section 2.3.4)
pub record IsLabel (label : Label) : Type 0 where
  pub not_empty : 1 ≤ length label
  pub short : length label ≤ LABEL_LIMIT

-- a label as it is written: its length and its bytes
abbrev pub label_octets : Label → List ℕ
label_octets label = length label ∷ label

-- a name as it is written: its labels, and a zero
abbrev pub name_octets : Name → List ℕ
name_octets labels = flat_map label_octets labels ++ 0 ∷ []

-- a name is written in at most 255 bytes, its zero counted
pub record IsName (name : Name) : Type 0 where
  pub labels : AllByRecursion IsLabel name
  pub short : length (name_octets name) ≤ NAME_LIMIT

-- the name in lower case: the capitals of ASCII alone are changed (RFC 4343, section 3)
abbrev pub lowered : Name → Name
lowered name = map (λ label. map to_ascii_lowercase label) name

-- the name is the zone, with labels before it or none; the case of ASCII letters doesn't count
abbrev pub EndsWith : Name → Name → Type 0
EndsWith name zone = (front : List Label) × (lowered name ≡ front ++ lowered zone)
