-- How results stand for outcomes, and the checks of a message's head.
use Rattle.std.specs.Prelude.{◌≡◌, ℕ, Bool, true, false, List, Option, Some, None, Result, Ok, Err}
use Rattle.dns_message.specs.declared.fault.MessageFault.{MessageFault}
use Rattle.dns_message.specs.declared.message.Message.{Message}
use Rattle.dns_message.specs.Reading.{message_of}
use Rattle.axfr_apply.specs.declared.transfer_request.TransferRequest.{TransferRequest}
use Rattle.axfr_apply.specs.declared.fault.TransferError.{TransferError}
use Rattle.axfr_apply.specs.declared.fault.TransferError.TheVariants as errors
use Rattle.axfr_apply.specs.declared.fault.TransferFault.{TransferFault}
use Rattle.axfr_apply.specs.declared.fault.TransferFault.TheVariants.{BadMessage}
use Rattle.axfr_apply.specs.Reading.{End, head_fault}

-- What a function returned is this, unless memory ran out.
abbrev pub Fails : {X : Type 0} → TransferError → Result X TransferFault → Type 0
Fails errors.OutOfMemory outcome = Unit {0}
Fails (errors.Fault f) outcome = outcome ≡ Err f

abbrev pub Gives : {X : Type 0} → Result X TransferError → Result X TransferFault → Type 0
Gives (Ok x) outcome = outcome ≡ Ok x
Gives (Err e) outcome = Fails e outcome

-- the value, unless there is a fault
abbrev pub unless : {X : Type 0} → Option TransferFault → X → Result X TransferFault
unless None x = Ok x
unless (Some fault) x = Err fault

-- the fault, if there is one, else the result
abbrev pub fault_or : {X : Type 0} → Option TransferFault → Result X TransferFault →
    Result X TransferFault
fault_or None x = x
fault_or (Some fault) x = Err fault

-- the message, if nothing is wrong with its head
abbrev pub checked_head : TransferRequest → Bool → Result Message MessageFault →
    Result Message TransferFault
checked_head asked is_first (Ok m) = unless (head_fault asked is_first m) m
checked_head asked is_first (Err fault) = Err BadMessage

-- the message that the octets are, if nothing is wrong with it or its head
abbrev pub checked_message : TransferRequest → Bool → List ℕ → Result Message TransferFault
checked_message asked is_first octets = checked_head asked is_first (message_of octets)

-- what the first SOA, of this serial, does: it ends the transfer as current, doesn't end it, or shows a fault
abbrev pub IsCurrentAt : ℕ → Result Bool TransferFault → Option End → Type 0
IsCurrentAt theirs (Ok true) gives = gives ≡ Some (Ok theirs)
IsCurrentAt theirs (Ok false) gives = gives ≡ None
IsCurrentAt theirs (Err fault) gives = gives ≡ Some (Err fault)
