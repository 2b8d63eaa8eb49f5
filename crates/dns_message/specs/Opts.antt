-- What OPT records say one after another.
use Rattle.std.specs.Prelude.{if◌then◌else◌, Option, Some, None, Result, Ok, Err}
use Rattle.dns_record.specs.Record.{PlainRecord}
use Rattle.dns_message.specs.declared.edns.Edns.{Edns}
use Rattle.dns_message.specs.declared.fault.MessageFault.{MessageFault}
use Rattle.dns_message.specs.declared.fault.MessageFault.TheVariants.{TwoOpts}
use Rattle.dns_message.specs.Reading.{is_opt, edns_of}

-- an OPT record after what was said before
abbrev pub only_opt : Option Edns → PlainRecord → Result (Option Edns) MessageFault
only_opt None r = Ok (Some (edns_of r))
only_opt (Some before) r = Err TwoOpts

-- what was said before, and is said by this record if it is an OPT record
abbrev pub edns_with : Option Edns → PlainRecord → Result (Option Edns) MessageFault
edns_with edns r = if is_opt r then only_opt edns r else Ok edns
