-- A resource record (RFC 1035, section 3.2.1).
use Rattle.std.specs.Prelude.{ℕ, ◌<◌, ◌^◌, List, ◌++◌, length, MatchOption, ⊤}
use Rattle.dns_name.specs.Labels.{IsName, name_octets, Name}
use Rattle.dns_record.specs.Number.{number_octets}
use Rattle.dns_record.specs.Part.{layout_of, HasParts}

-- A resource record (RFC 1035, section 3.2.1), its data with names in full.
pub record PlainRecord : Type 0 where
  pub owner : Name
  pub rtype : ℕ
  pub class : ℕ
  pub ttl : ℕ
  pub rdata : List ℕ

-- The data is such as the type and class have: the parts of their layout with names in full, or any octets.
pub record IsData (rtype class : ℕ) (rdata : List ℕ) : Type 0 where
  pub parts : MatchOption (layout_of rtype class) ⊤ (λ layout. HasParts layout rdata)
  pub short : length rdata < 2 ^ 16

-- The fields fit their octets, and the data is such as the type and class have.
pub record IsRecord (r : PlainRecord) : Type 0 where
  pub is_owner : IsName r.owner
  pub type_fits : r.rtype < 2 ^ 16
  pub class_fits : r.class < 2 ^ 16
  pub ttl_fits : r.ttl < 2 ^ 32
  pub is_data : IsData r.rtype r.class r.rdata

-- a record as it is written, its names in full
unfoldable pub record_octets : PlainRecord → List ℕ
record_octets r =
    name_octets r.owner ++ number_octets 2 r.rtype ++ number_octets 2 r.class
    ++ number_octets 4 r.ttl ++ number_octets 2 (length r.rdata) ++ r.rdata
