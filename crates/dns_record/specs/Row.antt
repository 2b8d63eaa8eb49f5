-- A row of a zone: a record of class IN with its owner and the names of its data in lower case. Names compare without case
-- (RFC 1035, section 2.3.3), so that rows that say the same are alike.
use Rattle.std.specs.Prelude.{◌≡◌, ℕ, ◌<◌, ◌^◌, List, [], ◌∷◌, ◌++◌, length, take, drop, Option, Some, None, Ok, Err}
use Rattle.dns_name.specs.Labels.{IsName, name_octets, lowered, Name}
use Rattle.dns_name.specs.Reading.{NameOutcome, name_at}
use Rattle.dns_record.specs.declared.part.Part.{Part}
use Rattle.dns_record.specs.declared.part.Part.TheVariants.{Name as NamePart, Fixed}
use Rattle.dns_record.specs.Number.{number_octets}
use Rattle.dns_record.specs.Part.{layout_of}
use Rattle.dns_record.specs.Record.{PlainRecord, IsData}
use Rattle.dns_record.specs.declared.class.TheConstants.{IN}

-- A record of class IN as a policy zone keeps it: its owner and the names of its data in lower case.
pub record PlainRow : Type 0 where
  pub owner : Name
  pub rtype : ℕ
  pub ttl : ℕ
  pub rdata : List ℕ

-- a name as it is written, in lower case, and how many octets it takes
abbrev pub lower_case_name : NameOutcome → List ℕ × ℕ
lower_case_name (Ok (name, after)) = (name_octets (lowered name), after)
lower_case_name (Err fault) = ([], 0)

-- the part that the octets begin with, a name in lower case, and how many octets it takes
abbrev pub lower_case_part : Part → List ℕ → List ℕ × ℕ
lower_case_part NamePart octets = lower_case_name (name_at octets 0)
lower_case_part (Fixed count) octets = (take count octets, count)

-- the parts with their names in lower case
unfoldable pub lowered_parts : List Part → List ℕ → List ℕ
lowered_parts [] octets = []
lowered_parts (part ∷ parts) octets =
    let first = lower_case_part part octets in
    first.0 ++ lowered_parts parts (drop first.1 octets)

-- the data of this layout with its names in lower case; as it is where there is none
abbrev pub lowered_layout : Option (List Part) → List ℕ → List ℕ
lowered_layout None rdata = rdata
lowered_layout (Some parts) rdata = lowered_parts parts rdata

-- the data of a record of the type, in class IN, with its names in lower case
unfoldable pub lowered_data : ℕ → List ℕ → List ℕ
lowered_data rtype rdata = lowered_layout (layout_of rtype IN) rdata

-- The second octets are the first with their names in lower case: the same parts, of which each fixed one is as it was.
abbrev pub AreLowered : List Part → List ℕ → List ℕ → Type 0
AreLowered [] octets low = (octets ≡ []) × (low ≡ [])
AreLowered (NamePart ∷ parts) octets low =
    (name : Name) × (rest : List ℕ) × (low_rest : List ℕ) × IsName name
    × (octets ≡ name_octets name ++ rest) × (low ≡ name_octets (lowered name) ++ low_rest)
    × AreLowered parts rest low_rest
AreLowered (Fixed count ∷ parts) octets low =
    (first : List ℕ) × (rest : List ℕ) × (low_rest : List ℕ) × (length first ≡ count)
    × (octets ≡ first ++ rest) × (low ≡ first ++ low_rest) × AreLowered parts rest low_rest

-- the same of data of this layout; data without a layout stays as it is
abbrev pub IsLoweredBy : Option (List Part) → List ℕ → List ℕ → Type 0
IsLoweredBy None rdata low = low ≡ rdata
IsLoweredBy (Some parts) rdata low = AreLowered parts rdata low

-- the second data are those of a record of the type, in class IN, with their names in lower case
abbrev pub IsLoweredData : ℕ → List ℕ → List ℕ → Type 0
IsLoweredData rtype rdata low = IsLoweredBy (layout_of rtype IN) rdata low

-- A record as a row: its owner and the names of its data in lower case.
abbrev pub row_of : PlainRecord → PlainRow
row_of r =
    record {
      owner = lowered r.owner;
      rtype = r.rtype;
      ttl = r.ttl;
      rdata = lowered_data r.rtype r.rdata;
    }

-- The fields fit their octets, and owner and data are in lower case.
pub record IsRow (row : PlainRow) : Type 0 where
  pub is_owner : IsName row.owner
  pub type_fits : row.rtype < 2 ^ 16
  pub ttl_fits : row.ttl < 2 ^ 32
  pub is_data : IsData row.rtype IN row.rdata
  pub owner_is_lower_case : lowered row.owner ≡ row.owner
  pub data_is_lower_case : lowered_data row.rtype row.rdata ≡ row.rdata

-- A row's identity: its owner, type and data, as they are written. The TTL doesn't count.
unfoldable pub identity : PlainRow → List ℕ
identity row = name_octets row.owner ++ number_octets 2 row.rtype ++ row.rdata

-- the rows differ in the TTL at most
pub record AreAlike (row other : PlainRow) : Type 0 where
  pub owner : row.owner ≡ other.owner
  pub rtype : row.rtype ≡ other.rtype
  pub rdata : row.rdata ≡ other.rdata
