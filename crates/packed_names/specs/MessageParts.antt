-- A message as parts that are written one after another.
use Rattle.std.specs.Prelude.{◌≡◌, ℕ, ◌+◌, List, [], ◌∷◌, ◌++◌, length, Ok}
use Rattle.dns_name.specs.Labels.{IsName, name_octets, Name}
use Rattle.dns_name.specs.Reading.{name_at}
use Rattle.packed_names.specs.Places.{Place, compressed_octets, new_places, new_places_in_full}

-- A part of a message as a writer makes it.
pub data MessagePart : Type 0 where
  -- octets to which no pointer leads, among them names in the data of SRV (RFC 2782) and DNAME (RFC 6672), which are not compressed
  octets : List ℕ → MessagePart
  -- a name in full, as the question's
  full_name : Name → MessagePart
  -- a compressed name
  compressed_name : Name → MessagePart

-- what is written of a part, if these places are known
abbrev pub part_octets : List Place → MessagePart → List ℕ
part_octets places (octets bytes) = bytes
part_octets places (full_name name) = name_octets name
part_octets places (compressed_name name) = compressed_octets places name

-- the places that a part adds, which is written at an offset
abbrev pub part_places : List Place → ℕ → MessagePart → List Place
part_places places at (octets bytes) = []
part_places places at (full_name name) = new_places_in_full places at name
part_places places at (compressed_name name) = new_places places at name

-- what is written of parts from an offset on
unfoldable pub compressed_parts : List Place → ℕ → List MessagePart → List ℕ
compressed_parts places at [] = []
compressed_parts places at (part ∷ parts) =
    part_octets places part
    ++ compressed_parts (places ++ part_places places at part) (at + length (part_octets places part)) parts

-- A part that is a name is a valid name.
abbrev pub IsValidPart : MessagePart → Type 0
IsValidPart (octets bytes) = Unit {0}
IsValidPart (full_name name) = IsName name
IsValidPart (compressed_name name) = IsName name

-- the part's name, if it has one, is read at an offset, and ends at another
abbrev pub IsReadAt : List ℕ → ℕ → ℕ → MessagePart → Type 0
IsReadAt message at after (octets bytes) = Unit {0}
IsReadAt message at after (full_name name) = name_at message at ≡ Ok (name, after)
IsReadAt message at after (compressed_name name) = name_at message at ≡ Ok (name, after)

-- from an offset on each name is read where it stands, and ends where the next part begins
unfoldable pub AreReadFrom : List ℕ → List Place → ℕ → List MessagePart → Type 0
AreReadFrom message places at [] = Unit {0}
AreReadFrom message places at (part ∷ parts) =
    IsReadAt message at (at + length (part_octets places part)) part
    × AreReadFrom message (places ++ part_places places at part) (at + length (part_octets places part)) parts
