-- The names whose suffixes are not in the table, while there are few.
use Rattle.std.specs.Prelude.{◌≡◌, ℕ, ◌+◌, ◌≤◌, nat_lt, if◌then◌else◌, List, [], ◌∷◌, ◌++◌, length, Option, Some, None}
use Rattle.std.specs.List.{flat_map}
use Rattle.dns_name.specs.Labels.{label_octets, Name}
use Rattle.dns_name.specs.Wire.{labels_in, IsWire}
use Rattle.packed_names.specs.declared.table.SuffixEntry.{SuffixEntry}
use Rattle.packed_names.specs.declared.recent.RecentName.{RecentName}
use Rattle.packed_names.specs.declared.pointing.TheConstants.{POINTED_PLACES}
use Rattle.packed_names.specs.Places.{Place, first_offset, unless_found}
use Rattle.packed_names.specs.Table.{suffix_places}

-- the places that a name adds whose labels stand in the message from `at` on, as far as they begin before `end`: one for each,
-- except for a suffix that has a place already
unfoldable pub added_places : List Place → ℕ → ℕ → Name → List Place
added_places places at end [] = []
added_places places at end (label ∷ others) =
    if nat_lt at end
    then (unless_found (first_offset places (label ∷ others)) (record { offset = at; labels = label ∷ others } ∷ [])
    ++ added_places places (at + length label + 1) end others)
    else []

-- the places that are known behind such names, if these were known before them
abbrev pub known_after : List Place → List RecentName → List Place
known_after places [] = places
known_after places (name ∷ names) =
    known_after (places ++ added_places places name.start name.end (labels_in name.octets.now)) names

-- the places of the table, and those that the names add
abbrev pub known_places : List SuffixEntry → List RecentName → List Place
known_places suffixes names = known_after (suffix_places suffixes) names

-- it is a name as it is written in full, and pointers can lead to its labels
pub record IsRecentName (name : RecentName) : Type 0 where
  pub wire : IsWire name.octets.now
  pub near : name.end ≤ POINTED_PLACES

-- a count, or 0 where an offset was found
abbrev pub count_unless_found : Option ℕ → ℕ → ℕ
count_unless_found (Some offset) count = 0
count_unless_found None count = count

-- how many octets of a name stand before its longest suffix that has a place; without one, all before the zero
unfoldable pub count_before_match : List Place → Name → ℕ
count_before_match places [] = 0
count_before_match places (label ∷ others) =
    count_unless_found (first_offset places (label ∷ others)) (length label + 1 + count_before_match places others)

-- the first offset, or the second where there is none
abbrev pub or_offset : Option ℕ → Option ℕ → Option ℕ
or_offset (Some offset) other = Some offset
or_offset None other = other

-- the offset of the longest suffix that has a place
unfoldable pub match_offset : List Place → Name → Option ℕ
match_offset places [] = None
match_offset places (label ∷ others) = or_offset (first_offset places (label ∷ others)) (match_offset places others)

-- a label of the name that is written so begins at the index, or its zero stands there
pub record BeginsLabel (octets : List ℕ) (index : ℕ) : Type 0 where
  pub front : Name
  pub back : Name
  pub labels : labels_in octets ≡ front ++ back
  pub index_is : index ≡ length (flat_map label_octets front)
