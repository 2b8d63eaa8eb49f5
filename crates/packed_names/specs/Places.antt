-- Names that are compressed: a suffix that was written before is replaced with a pointer to it (RFC 1035, section 4.1.4).
use Rattle.std.specs.Prelude.{ℕ, ◌+◌, ◌/◌, ◌%◌, nat_lt, Bool, if◌then◌else◌, List, [], ◌∷◌, ◌++◌, length, Option, Some, None}
use Rattle.std.specs.Str.{bytes_eq}
use Rattle.dns_name.specs.Labels.{label_octets, name_octets, Name}
use Rattle.packed_names.specs.declared.pointing.TheConstants.{POINTED_PLACES}

-- an offset from the start of the message where a label begins, and the labels of the name that stands there
pub record Place : Type 0 where
  pub offset : ℕ
  pub labels : Name

-- the names are written with the same octets: the case of letters counts
abbrev pub same_octets : Name → Name → Bool
same_octets a b = bytes_eq (name_octets a) (name_octets b)

-- the offset of the first place, in the order in which they were written, that has this name
unfoldable pub first_offset : List Place → Name → Option ℕ
first_offset [] name = None
first_offset (place ∷ places) name =
    if same_octets place.labels name then Some place.offset else first_offset places name

-- a pointer: two octets, of which the first two bits are ones and the 14 others are the offset
abbrev pub pointer_octets : ℕ → List ℕ
pointer_octets offset = (192 + offset / 256) ∷ offset % 256 ∷ []

-- a pointer to the offset, or these octets where there is none
abbrev pub pointer_or : Option ℕ → List ℕ → List ℕ
pointer_or (Some offset) octets = pointer_octets offset
pointer_or None octets = octets

-- A compressed name (RFC 1035, section 4.1.4): its labels up to the first suffix that has a place, and a pointer to the first
-- such place. A name of which no suffix has a place is all labels and a zero.
unfoldable pub compressed_octets : List Place → Name → List ℕ
compressed_octets places [] = 0 ∷ []
compressed_octets places (label ∷ others) =
    pointer_or (first_offset places (label ∷ others)) (label_octets label ++ compressed_octets places others)

-- the place, if a pointer can lead to it: the offset has 14 bits at most
abbrev pub reachable_place : ℕ → Name → List Place
reachable_place at name =
    if nat_lt at POINTED_PLACES then record { offset = at; labels = name } ∷ [] else []

-- no places where an offset was found, otherwise these
abbrev pub unless_found : Option ℕ → List Place → List Place
unless_found (Some offset) places = []
unless_found None places = places

-- the places that a compressed name adds, which is written at an offset: one for each label that is written
unfoldable pub new_places : List Place → ℕ → Name → List Place
new_places places at [] = []
new_places places at (label ∷ others) =
    unless_found (first_offset places (label ∷ others))
    (reachable_place at (label ∷ others) ++ new_places places (at + length label + 1) others)

-- The places that a name in full adds at an offset: one for each label, except for a suffix that has one.
unfoldable pub new_places_in_full : List Place → ℕ → Name → List Place
new_places_in_full places at [] = []
new_places_in_full places at (label ∷ others) =
    unless_found (first_offset places (label ∷ others)) (reachable_place at (label ∷ others))
    ++ new_places_in_full places (at + length label + 1) others
