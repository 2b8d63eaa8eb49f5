-- Which record stands at a place of a message, or which fault does (RFC 1035, section 3.2.1).
use Rattle.std.specs.Prelude.{◌≡◌, ℕ, ◌+◌, ◌-◌, ◌==◌, nat_lt, if◌then◌else◌, List, [], ◌∷◌, ◌++◌, length, take, drop, Option, Some, None, Result, Ok, Err}
use Rattle.dns_name.specs.Labels.{name_octets}
use Rattle.dns_name.specs.Reading.{◌>>=◌, name_at}
use Rattle.dns_record.specs.declared.fault.RecordFault.{RecordFault}
use Rattle.dns_record.specs.declared.fault.RecordFault.TheVariants.{Short, Data}
use Rattle.dns_record.specs.declared.fault.RecordError.{RecordError}
use Rattle.dns_record.specs.declared.fault.RecordError.TheVariants as errors
use Rattle.dns_record.specs.declared.part.Part.{Part}
use Rattle.dns_record.specs.declared.part.Part.TheVariants.{Name, Fixed}
use Rattle.dns_record.specs.Becomes.{as_owner, as_data}
use Rattle.dns_record.specs.Number.{number_at}
use Rattle.dns_record.specs.Part.{layout_of}
use Rattle.dns_record.specs.Record.{PlainRecord}

-- the place after so many octets, which the message must have
abbrev pub end_at : List ℕ → ℕ → ℕ → Result ℕ RecordFault
end_at message place count =
    if nat_lt (length message) (place + count) then Err Short else Ok (place + count)

-- octets before what is read
abbrev pub with_octets : List ℕ → Result (List ℕ × ℕ) RecordFault → Result (List ℕ × ℕ) RecordFault
with_octets front (Ok x) = Ok (front ++ x.0, x.1)
with_octets front (Err fault) = Err fault

-- so many octets of a message, from a place on, and the place after them
abbrev pub octets_at : ℕ → List ℕ → ℕ → Result (List ℕ × ℕ) RecordFault
octets_at count message place =
    if nat_lt (length message) (place + count) then Err Data
    else Ok (take count (drop place message), place + count)

-- one part of the data, its name in full, and the place after it
abbrev pub part_at : Part → List ℕ → ℕ → Result (List ℕ × ℕ) RecordFault
part_at Name message place =
    as_data (name_at message place) >>= λ name. Ok (name_octets name.0, name.1)
part_at (Fixed count) message place = octets_at count message place

-- the parts of the data, their names in full, and the place after them
unfoldable pub parts_at : List Part → List ℕ → ℕ → Result (List ℕ × ℕ) RecordFault
parts_at [] message place = Ok ([], place)
parts_at (part ∷ parts) message place =
    part_at part message place >>= λ first. with_octets first.0 (parts_at parts message first.1)

-- what is read ends where the data ends
abbrev pub data_that_fills : ℕ → List ℕ × ℕ → Result (List ℕ) RecordFault
data_that_fills after read = if read.1 == after then Ok read.0 else Err Data

-- the data of this layout between two places, or any octets where there is none
abbrev pub data_by_layout : Option (List Part) → List ℕ → ℕ → ℕ → Result (List ℕ) RecordFault
data_by_layout None message place after = Ok (take (after - place) (drop place message))
data_by_layout (Some layout) message place after =
    parts_at layout message place >>= data_that_fills after

-- the data of a record of the type and class, between two places, with names in full
unfoldable pub data_at : ℕ → ℕ → List ℕ → ℕ → ℕ → Result (List ℕ) RecordFault
data_at rtype class message place after = data_by_layout (layout_of rtype class) message place after

-- The record at a place of a message and the place after it, or the first fault.
unfoldable pub record_at : List ℕ → ℕ → Result (PlainRecord × ℕ) RecordFault
record_at message at = do
  owner ← as_owner (name_at message at)
  fixed ← end_at message owner.1 10
  after ← end_at message fixed (number_at 2 message (owner.1 + 8))
  rdata ← data_at (number_at 2 message owner.1) (number_at 2 message (owner.1 + 2)) message fixed
      after
  Ok (
    record {
      owner = owner.0;
      rtype = number_at 2 message owner.1;
      class = number_at 2 message (owner.1 + 2);
      ttl = number_at 4 message (owner.1 + 4);
      rdata = rdata;
    },
    after,
  )

-- What a function returned, seen by view, is what reading gives, unless memory ran out.
abbrev pub Fails : {Y : Type 0} → RecordError → Result Y RecordFault → Type 0
Fails errors.OutOfMemory read = Unit {0}
Fails (errors.Fault f) read = read ≡ Err f

abbrev pub Gives : {X Y : Type 0} → (X → Y) → Result X RecordError → Result Y RecordFault → Type 0
Gives view (Ok x) read = read ≡ Ok (view x)
Gives view (Err e) read = Fails e read

-- a part was added to what stands before it, and that is the place after it
abbrev pub AddsPart : Result ℕ RecordError → List ℕ → List ℕ → Result (List ℕ × ℕ) RecordFault →
    Type 0
AddsPart (Ok after) old new read = with_octets old read ≡ Ok (new, after)
AddsPart (Err e) old new read = Fails e read
