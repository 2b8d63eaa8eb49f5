-- The faults of records in messages, by rules (RFC 1035, section 3.2.1): what is wrong, apart from how a record is read.
use Rattle.std.specs.Prelude.{ℕ, ◌+◌, ◌<◌, ◌≤◌, ◌^◌, ◌⊎◌, List, length, Ok, Err}
use Rattle.dns_name.specs.Labels.{Name}
use Rattle.dns_name.specs.Grammar.{NameAt}
use Rattle.dns_name.specs.Standing.{Stands}
use Rattle.dns_record.specs.declared.fault.RecordFault.{RecordFault}
use Rattle.dns_record.specs.declared.fault.RecordFault.TheVariants.{Name as InName, Short, Data}
use Rattle.dns_record.specs.Grammar.{DataAt}
use Rattle.dns_record.specs.Number.{number_octets}

-- an owner stands there, and the message ends within the ten octets behind it
pub record EndsInFields (message : List ℕ) (at : ℕ) : Type 0 where
  pub owner : Name
  pub place : ℕ
  pub named : NameAt message at (Ok (owner, place))
  pub cut : length message < place + 10

-- An owner stands there, and behind it, whole, the ten octets that tell the type, the class and the size of the data.
pub record FieldsAt (message : List ℕ) (at place rtype class size : ℕ) : Type 0 where
  pub owner : Name
  pub named : NameAt message at (Ok (owner, place))
  pub type_stands : Stands (number_octets 2 rtype) message place (place + 2)
  pub class_stands : Stands (number_octets 2 class) message (place + 2) (place + 4)
  pub size_stands : Stands (number_octets 2 size) message (place + 8) (place + 10)
  pub type_fits : rtype < 2 ^ 16
  pub class_fits : class < 2 ^ 16
  pub size_fits : size < 2 ^ 16
  pub inside : place + 10 ≤ length message

-- the message ends within the data
pub record EndsInData (message : List ℕ) (at : ℕ) : Type 0 where
  pub place : ℕ
  pub rtype : ℕ
  pub class : ℕ
  pub size : ℕ
  pub fields : FieldsAt message at place rtype class size
  pub cut : length message < place + 10 + size

-- the data is whole, and it is none of the type and class
pub record HasNoData (message : List ℕ) (at : ℕ) : Type 0 where
  pub place : ℕ
  pub rtype : ℕ
  pub class : ℕ
  pub size : ℕ
  pub fields : FieldsAt message at place rtype class size
  pub inside : place + 10 + size ≤ length message
  pub no_data : (rdata : List ℕ) →
      ¬ DataAt rtype class message (place + 10) rdata (place + 10 + size)

-- the record at a place shows this fault
abbrev pub RecordShows : List ℕ → ℕ → RecordFault → Type 0
RecordShows message at (InName fault) = NameAt message at (Err fault)
RecordShows message at Short = EndsInFields message at ⊎ EndsInData message at
RecordShows message at Data = HasNoData message at
