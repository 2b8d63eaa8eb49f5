-- The faults of names and records, as faults of a message.
use Rattle.std.specs.Prelude.{◌≡◌, Result, Ok, Err}
use Rattle.dns_name.specs.declared.fault.NameFault.{NameFault}
use Rattle.dns_record.specs.declared.fault.RecordFault.{RecordFault}
use Rattle.dns_record.specs.declared.fault.RecordError.{RecordError}
use Rattle.dns_record.specs.declared.fault.RecordError.TheVariants as of_record
use Rattle.dns_message.specs.declared.fault.MessageFault.{MessageFault}
use Rattle.dns_message.specs.declared.fault.MessageFault.TheVariants.{Short, Record}
use Rattle.dns_message.specs.declared.fault.MessageError.{MessageError}
use Rattle.dns_message.specs.declared.fault.MessageError.TheVariants as errors

-- The `?` of code that reads a message: a record that can't be read is the message's fault `Record`, with the record's own fault in
-- it. Out of memory stays out of memory.
abbrev pub BecomesMessageError : RecordError → MessageError → Type 0
BecomesMessageError of_record.OutOfMemory e = e ≡ errors.OutOfMemory
BecomesMessageError (of_record.Fault fault) e = e ≡ errors.Fault (Record fault)

-- what is read as a record
abbrev pub as_record : {A : Type 0} → Result A RecordFault → Result A MessageFault
as_record (Ok x) = Ok x
as_record (Err fault) = Err (Record fault)

-- what is read as the name of the question
abbrev pub as_question : {A : Type 0} → Result A NameFault → Result A MessageFault
as_question (Ok x) = Ok x
as_question (Err fault) = Err Short
