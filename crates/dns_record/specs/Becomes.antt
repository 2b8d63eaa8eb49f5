-- The faults of a name, as faults of a record.
use Rattle.std.specs.Prelude.{◌≡◌, Result, Ok, Err}
use Rattle.dns_name.specs.declared.fault.NameFault.{NameFault}
use Rattle.dns_name.specs.declared.fault.NameError.{NameError}
use Rattle.dns_name.specs.declared.fault.NameError.TheVariants as of_name
use Rattle.dns_record.specs.declared.fault.RecordFault.{RecordFault}
use Rattle.dns_record.specs.declared.fault.RecordFault.TheVariants.{Name, Data}
use Rattle.dns_record.specs.declared.fault.RecordError.{RecordError}
use Rattle.dns_record.specs.declared.fault.RecordError.TheVariants as errors

-- The `?` of code that reads a record: an owner that can't be read is the record's fault `Name`, with the name's own fault in it. Out
-- of memory stays out of memory.
abbrev pub BecomesRecordError : NameError → RecordError → Type 0
BecomesRecordError of_name.OutOfMemory e = e ≡ errors.OutOfMemory
BecomesRecordError (of_name.Fault fault) e = e ≡ errors.Fault (Name fault)

-- what is read as the owner
abbrev pub as_owner : {A : Type 0} → Result A NameFault → Result A RecordFault
as_owner (Ok x) = Ok x
as_owner (Err fault) = Err (Name fault)

-- what is read in the data
abbrev pub as_data : {A : Type 0} → Result A NameFault → Result A RecordFault
as_data (Ok x) = Ok x
as_data (Err fault) = Err Data
