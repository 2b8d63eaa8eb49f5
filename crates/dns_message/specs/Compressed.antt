-- A message with its names compressed (RFC 1035, section 4.1.4).
use Rattle.std.specs.Prelude.{ℕ, ◌+◌, ◌==◌, Bool, ◌||◌, if◌then◌else◌, List, [], ◌∷◌, ◌++◌, length, take, drop, Option, Some, None, Ok, Err}
use Rattle.dns_name.specs.Labels.{Name}
use Rattle.dns_name.specs.Reading.{NameOutcome, name_at}
use Rattle.packed_names.specs.Places.{Place, compressed_octets, new_places, new_places_in_full}
use Rattle.dns_record.specs.declared.part.Part.{Part}
use Rattle.dns_record.specs.declared.part.Part.TheVariants.{Name as NamePart, Fixed}
use Rattle.dns_record.specs.declared.rtype.TheConstants.{CNAME, MB, MD, MF, MG, MINFO, MR, MX, NS, PTR, SOA}
use Rattle.dns_record.specs.Number.{number_octets}
use Rattle.dns_record.specs.Part.{layout_of}
use Rattle.dns_record.specs.Record.{PlainRecord}
use Rattle.dns_message.specs.declared.header.Header.{Header}
use Rattle.dns_message.specs.declared.message.Message.{Message}
use Rattle.dns_message.specs.declared.question.Question.{Question}
use Rattle.dns_message.specs.Limit.{truncated_form, within_limit}
use Rattle.dns_message.specs.Spelling.{header_octets, opt_count, opt_octets, question_count, question_octets, spelling}

-- a part of a message as it is written, and the places that pointers can lead to behind it
pub record WrittenPart : Type 0 where
  pub octets : List ℕ
  pub places : List Place

-- octets to which no pointer leads
abbrev pub plain_part : List Place → List ℕ → WrittenPart
plain_part places octets = record { octets = octets; places = places }

-- a name at an offset
abbrev pub name_part : List Place → ℕ → Name → WrittenPart
name_part places at name =
    record { octets = compressed_octets places name; places = places ++ new_places places at name }

-- the name that the octets begin with, and how many octets it takes
abbrev pub first_name : NameOutcome → Name × ℕ
first_name (Ok (name, after)) = (name, after)
first_name (Err fault) = ([], 0)

-- the first part of data at an offset
abbrev pub data_part : List Place → ℕ → Part → List ℕ → WrittenPart
data_part places at NamePart rdata = name_part places at (first_name (name_at rdata 0)).0
data_part places at (Fixed count) rdata = plain_part places (take count rdata)

-- how many octets the first part of data takes in full
abbrev pub part_length : Part → List ℕ → ℕ
part_length NamePart rdata = (first_name (name_at rdata 0)).1
part_length (Fixed count) rdata = count

-- data of these parts at an offset
unfoldable pub data_parts : List Place → ℕ → List Part → List ℕ → WrittenPart
data_parts places at [] rdata = plain_part places rdata
data_parts places at (part ∷ parts) rdata =
    let first = data_part places at part rdata in
    let others =
    data_parts first.places (at + length first.octets) parts (drop (part_length part rdata) rdata)
    in
    record { octets = first.octets ++ others.octets; places = others.places }

-- The types of RFC 1035 whose data have names (section 3.3): these names are compressed. Names in data of other types, as SRV and DNAME,
-- are not (RFC 3597, section 4): they stand in full, and no pointer leads to them.
abbrev pub has_compressed_names : ℕ → Bool
has_compressed_names rtype =
    rtype == NS
    || (rtype == MD
    || (rtype == MF
    || (rtype == CNAME
    || (rtype == SOA
    || (rtype == MB
    || (rtype == MG
    || (rtype == MR || (rtype == PTR || (rtype == MINFO || rtype == MX)))))))))

-- the parts of data whose names are compressed
abbrev pub compressed_layout : ℕ → ℕ → Option (List Part)
compressed_layout rtype class =
    if has_compressed_names rtype then layout_of rtype class else None

-- data at an offset, whose names are compressed where it has such a layout
abbrev pub data_by : Option (List Part) → List Place → ℕ → List ℕ → WrittenPart
data_by None places at rdata = plain_part places rdata
data_by (Some layout) places at rdata = data_parts places at layout rdata

-- what stands between the owner and the data of a record, where the data have so many octets
abbrev pub field_octets : PlainRecord → ℕ → List ℕ
field_octets r size =
    number_octets 2 r.rtype ++ number_octets 2 r.class ++ number_octets 4 r.ttl
    ++ number_octets 2 size

-- what is written once the owner of a record is, and the places that pointers can lead to then
abbrev pub owner_written : List Place → List ℕ → PlainRecord → List ℕ
owner_written places octets r = octets ++ compressed_octets places r.owner

abbrev pub places_behind_owner : List Place → List ℕ → PlainRecord → List Place
places_behind_owner places octets r = places ++ new_places places (length octets) r.owner

-- a message that is being written: its octets so far, and the places that pointers can lead to
pub record Draft : Type 0 where
  pub octets : List ℕ
  pub places : List Place

-- A record behind what is written (RFC 1035, section 3.2.1). The length is that of the data as they are written.
unfoldable pub with_record : Draft → PlainRecord → Draft
with_record d r =
    let owner = name_part d.places (length d.octets) r.owner in
    let data_place = length d.octets + length owner.octets + 10 in
    let rdata = data_by (compressed_layout r.rtype r.class) owner.places data_place r.rdata in
    record {
      octets =
          d.octets ++ owner.octets ++ number_octets 2 r.rtype ++ number_octets 2 r.class
          ++ number_octets 4 r.ttl ++ number_octets 2 (length rdata.octets) ++ rdata.octets;
      places = rdata.places;
    }

-- records one after another behind what is written
unfoldable pub with_records : Draft → List PlainRecord → Draft
with_records d [] = d
with_records d (r ∷ rs) = with_records (with_record d r) rs

-- the question's name stands in full, and pointers lead to its labels
abbrev pub question_places : Option Question → List Place
question_places None = []
question_places (Some question) = new_places_in_full [] 12 question.name

-- the header, with these bits Z, and the question of a message, where so many records are to follow in each section
abbrev pub draft_start : ℕ → Header → Option Question → ℕ → ℕ → ℕ → Draft
draft_start z h question answers authorities additionals =
    record {
      octets =
          header_octets z h (question_count question) answers authorities additionals
          ++ question_octets question;
      places = question_places question;
    }

-- the header and the question of this message
abbrev pub message_start : ℕ → Message → Draft
message_start z m =
    draft_start z m.header m.question (length m.answer) (length m.authority)
    (length m.additional + opt_count m.edns)

-- A message with its names compressed and these bits Z; the OPT record stands last.
unfoldable pub compressed_message : ℕ → Message → List ℕ
compressed_message z m =
    (with_records (message_start z m) (m.answer ++ m.authority ++ m.additional)).octets
    ++ opt_octets m.edns

-- A message as it is written within a limit: it, or its truncated form, which has no names but the question's.
abbrev pub compressed_within : ℕ → Message → List ℕ
compressed_within limit m =
    within_limit limit (compressed_message 0 m) (spelling (truncated_form m))
