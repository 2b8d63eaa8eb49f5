-- Records as they are written, their names in full and their TTLs apart.
use Rattle.std.specs.Prelude.{◌≡◌, ℕ, ◌+◌, ◌-◌, ◌≤◌, List, [], ◌∷◌, ◌++◌, length, map, take, drop}
use Rattle.std.specs.List.{AllByRecursion, flat_map}
use Rattle.dns_name.specs.Labels.{name_octets}
use Rattle.dns_name.specs.Wire.{IsWire, labels_in}
use Rattle.dns_record.specs.Number.{number_at, number_octets}
use Rattle.dns_record.specs.Record.{IsData, IsRecord, PlainRecord}
use Rattle.dns_message.specs.declared.record_refs.RecordSpan.{RecordSpan}

-- what stands before the TTL of a record: the owner, the type and the class
unfoldable pub front_octets : PlainRecord → List ℕ
front_octets r = name_octets r.owner ++ number_octets 2 r.rtype ++ number_octets 2 r.class

-- what stands behind the TTL of a record: the length of the data, and the data
unfoldable pub back_octets : PlainRecord → List ℕ
back_octets r = number_octets 2 (length r.rdata) ++ r.rdata

-- a record as it is written, but for its TTL
abbrev pub lasting_octets : PlainRecord → List ℕ
lasting_octets r = front_octets r ++ back_octets r

abbrev pub span_of : PlainRecord → RecordSpan
span_of r = record { front = length (front_octets r); ttl = r.ttl; back = length (back_octets r) }

-- the record that stands first in these octets
abbrev pub first_in : List ℕ → RecordSpan → PlainRecord
first_in octets span =
    record {
      owner = labels_in (take (span.front - 4) octets);
      rtype = number_at 2 octets (span.front - 4);
      class = number_at 2 octets (span.front - 2);
      ttl = span.ttl;
      rdata = take (span.back - 2) (drop (span.front + 2) octets);
    }

-- These octets begin with the record of this span.
pub record BeginsRecord (octets : List ℕ) (span : RecordSpan) : Type 0 where
  pub front : 4 ≤ span.front
  pub back : 2 ≤ span.back
  pub room : span.front + span.back ≤ length octets
  pub is_owner : IsWire (take (span.front - 4) octets)
  pub is_data : IsData (number_at 2 octets (span.front - 4))
      (number_at 2 octets (span.front - 2)) (take (span.back - 2) (drop (span.front + 2) octets))

-- the records in these octets
unfoldable pub records_in : List ℕ → List RecordSpan → List PlainRecord
records_in octets [] = []
records_in octets (span ∷ spans) =
    first_in octets span ∷ records_in (drop (span.front + span.back) octets) spans

-- These records stand there, and nothing else.
pub record AreWritten (octets : List ℕ) (spans : List RecordSpan)
    (records : List PlainRecord) : Type 0 where
  pub are_records : AllByRecursion IsRecord records
  pub octets_are : octets ≡ flat_map lasting_octets records
  pub spans_are : spans ≡ map span_of records
