-- Records in messages, by rules (RFC 1035, section 3.2.1): what a record is, apart from how it is read.
use Rattle.std.specs.Prelude.{◌≡◌, ℕ, ◌+◌, ◌<◌, ◌≤◌, ◌^◌, List, [], ◌∷◌, ◌++◌, length, MatchOption, Ok}
use Rattle.dns_name.specs.Grammar.{NameAt}
use Rattle.dns_name.specs.Labels.{name_octets, Name}
use Rattle.dns_name.specs.Standing.{Stands}
use Rattle.dns_record.specs.declared.part.Part.{Part}
use Rattle.dns_record.specs.declared.part.Part.TheVariants.{Name as NamePart, Fixed}
use Rattle.dns_record.specs.Number.{number_octets}
use Rattle.dns_record.specs.Part.{layout_of}
use Rattle.dns_record.specs.Record.{PlainRecord}

-- The parts stand in a message between two places, and these are their octets, with names in full. A name
-- may be compressed where it stands (RFC 1035, section 4.1.4).
abbrev pub PartsAt : List Part → List ℕ → ℕ → List ℕ → ℕ → Type 0
PartsAt [] message place octets after = (octets ≡ []) × (after ≡ place)
PartsAt (NamePart ∷ parts) message place octets after =
    (name : Name) × (middle : ℕ) × (rest : List ℕ)
    × NameAt message place (Ok (name, middle)) × (octets ≡ name_octets name ++ rest)
    × PartsAt parts message middle rest after
PartsAt (Fixed count ∷ parts) message place octets after =
    (first : List ℕ) × (rest : List ℕ) × (length first ≡ count)
    × Stands first message place (place + count) × (place + count ≤ length message)
    × (octets ≡ first ++ rest)
    × PartsAt parts message (place + count) rest after

-- The data of a record of the type and class stands in a message between two places: the parts of their
-- layout, or any octets.
abbrev pub DataAt : ℕ → ℕ → List ℕ → ℕ → List ℕ → ℕ → Type 0
DataAt rtype class message place rdata after =
    MatchOption (layout_of rtype class) (Stands rdata message place after)
    (λ layout. PartsAt layout message place rdata after)

-- This record stands at a place of a message, and that is the place after it.
pub record RecordAt (message : List ℕ) (at : ℕ) (r : PlainRecord) (after : ℕ) : Type 0 where
  pub owner_end : ℕ
  pub size : ℕ
  pub owner : NameAt message at (Ok (r.owner, owner_end))
  pub fields : Stands (number_octets 2 r.rtype ++ number_octets 2 r.class ++ number_octets 4 r.ttl
      ++ number_octets 2 size) message owner_end (owner_end + 10)
  pub type_fits : r.rtype < 2 ^ 16
  pub class_fits : r.class < 2 ^ 16
  pub ttl_fits : r.ttl < 2 ^ 32
  pub size_fits : size < 2 ^ 16
  pub ends : after ≡ owner_end + 10 + size
  pub inside : after ≤ length message
  pub rdata : DataAt r.rtype r.class message (owner_end + 10) r.rdata after
