-- What a list of messages is as a transfer: of the whole zone (RFC 5936, section 2.2), of what changed in it, or neither where
-- we are current (RFC 1995, section 4). It is read off the one list of all items.
use Rattle.std.specs.Prelude.{ℕ, ◌+◌, ◌==◌, nat_le, Bool, not, ◌&&◌, ◌||◌, if◌then◌else◌, List, [], ◌∷◌, ◌++◌, length, Option, Some, None, option_map, is_some, Result, Ok, Err}
use Rattle.std.specs.Option.{option_or}
use Rattle.dns_name.specs.Labels.{Name}
use Rattle.dns_name.specs.Alike.{same_name, ends_with}
use Rattle.dns_record.specs.declared.soa.Soa.{Soa}
use Rattle.dns_record.specs.Record.{PlainRecord}
use Rattle.dns_record.specs.Serial.{is_newer}
use Rattle.dns_record.specs.declared.rtype.TheConstants.{AXFR, IXFR}
use Rattle.dns_record.specs.declared.class.TheConstants.{IN}
use Rattle.dns_message.specs.declared.fault.MessageFault.{MessageFault}
use Rattle.dns_message.specs.declared.message.Message.{Message}
use Rattle.dns_message.specs.declared.question.Question.{Question}
use Rattle.dns_message.specs.Reading.{message_of}
use Rattle.zone_rows.specs.declared.transfer.Transfer.{Transfer}
use Rattle.axfr_apply.specs.declared.transfer_request.TransferRequest.{TransferRequest}
use Rattle.axfr_apply.specs.declared.transfer_request.Wanted.{Wanted}
use Rattle.axfr_apply.specs.declared.transfer_request.Wanted.TheVariants as wants
use Rattle.axfr_apply.specs.declared.fault.TransferFault.{TransferFault}
use Rattle.axfr_apply.specs.declared.fault.TransferFault.TheVariants.{BadMessage, WrongId, NotResponse, Truncated, Rcode, WrongQuestion, NoLeadingSoa, WrongClass, OutOfZone, WrongSoaOwner, SoaDiffers, Gap, SerialNotNewer, TrailingRecord, TooManyRecords}
use Rattle.axfr_apply.specs.declared.taken.Taken.{Taken}
use Rattle.axfr_apply.specs.declared.taken.Taken.TheVariants.{Current, New}
use Rattle.axfr_apply.specs.Block.{Block, blocks, is_empty, is_incremental, holds_soa, soa_held, transfer_of}
use Rattle.axfr_apply.specs.Item.{TransferItem, items, records}
use Rattle.axfr_apply.specs.Item as item

-- how a transfer ends
abbrev pub TransferOutcome : Type 0
TransferOutcome = Result Taken TransferFault

-- how an item ends a transfer: we are current, at this serial; or a fault
abbrev pub End : Type 0
End = Result ℕ TransferFault

-- The types of the question: the whole zone is asked for by AXFR; what is newer by IXFR, and may come as an answer to AXFR
-- too.
abbrev pub asks_type : Wanted → ℕ → Bool
asks_type (wants.Whole have) qtype = qtype == AXFR
asks_type (wants.Newer have) qtype = qtype == IXFR || qtype == AXFR

-- the question for the zone
abbrev pub asks_for : TransferRequest → Question → Bool
asks_for asked q =
    same_name q.name asked.origin && (q.qclass == IN && asks_type asked.wanted q.qtype)

-- the first message has the question, later ones have it or none
abbrev pub question_fits : TransferRequest → Bool → Option Question → Bool
question_fits asked is_first None = not is_first
question_fits asked is_first (Some q) = asks_for asked q

-- the first thing that is wrong with the head of a message
abbrev pub head_fault : TransferRequest → Bool → Message → Option TransferFault
head_fault asked is_first m =
    if not (m.header.id == asked.id) then Some WrongId
    else (if not (m.header.qr && m.header.opcode == 0) then Some NotResponse
    else (if m.header.tc then Some Truncated
    else (if not (m.header.rcode == 0) then Some (Rcode m.header.rcode)
    else (if not (question_fits asked is_first m.question) then Some WrongQuestion
    else None))))

abbrev pub message_fault : TransferRequest → Bool → Result Message MessageFault →
    Option TransferFault
message_fault asked is_first (Ok m) = head_fault asked is_first m
message_fault asked is_first (Err fault) = Some BadMessage

-- What is wrong with the class or the owner of a record. Its class is IN; a SOA record belongs to the zone's name, and another
-- one to that name or to one below it.
abbrev pub place_fault : Name → Bool → PlainRecord → Option TransferFault
place_fault origin holds_soa r =
    if not (r.class == IN) then Some WrongClass
    else (if holds_soa then (if same_name r.owner origin then None else Some WrongSoaOwner)
    else (if ends_with r.owner origin then None else Some OutOfZone))

-- a serial is to be newer than the one before it (RFC 1982, section 3.2)
abbrev pub forward_fault : ℕ → ℕ → Option TransferFault
forward_fault ours theirs = if is_newer ours theirs then None else Some (SerialNotNewer ours theirs)

-- The first SOA tells the newest serial. We are current where it is ours; and, where what is newer was asked for, where it isn't
-- newer and the SOA stands alone in its message. Any other serial is to be newer than ours.
abbrev pub first_soa_end : Wanted → Bool → ℕ → Option End
first_soa_end (wants.Whole None) alone theirs = None
first_soa_end (wants.Whole (Some ours)) alone theirs =
    if theirs == ours then Some (Ok theirs) else option_map Err (forward_fault ours theirs)
first_soa_end (wants.Newer ours) alone theirs =
    if theirs == ours || (alone && not (is_newer ours theirs)) then Some (Ok theirs)
    else option_map Err (forward_fault ours theirs)

-- the SOA that closes a transfer has the serial of the first
abbrev pub close_fault : ℕ → ℕ → Option TransferFault
close_fault newest found = if found == newest then None else Some (SoaDiffers newest found)

-- the SOA that begins a step has this serial
abbrev pub begin_fault : ℕ → ℕ → Option TransferFault
begin_fault expected found = if found == expected then None else Some (Gap expected found)

-- a SOA behind a step to the version `new` closes the transfer where that is the newest, and begins the next step otherwise
abbrev pub behind_step_fault : ℕ → ℕ → ℕ → Option TransferFault
behind_step_fault newest new found =
    if new == newest then close_fault newest found else begin_fault new found

-- the first step begins at our version, where what is newer was asked for; else there is none, and the SOA closes the transfer
abbrev pub first_step_fault : Wanted → ℕ → ℕ → Option TransferFault
first_step_fault (wants.Whole have) newest found = close_fault newest found
first_step_fault (wants.Newer have) newest found = begin_fault have found

-- What is wrong with a SOA of an incremental transfer, behind the first SOA and these blocks: the first step begins at our
-- version; each step goes forward; and each but the first begins where the one before it ended.
abbrev pub step_soa_fault : Wanted → ℕ → List Block → ℕ → Option TransferFault
step_soa_fault wanted newest [] found = first_step_fault wanted newest found
step_soa_fault wanted newest (old ∷ []) found = forward_fault old.soa.serial found
step_soa_fault wanted newest (old ∷ new ∷ []) found = behind_step_fault newest new.soa.serial found
step_soa_fault wanted newest (old ∷ new ∷ next ∷ others) found =
    step_soa_fault wanted newest (next ∷ others) found

abbrev pub soa_block : Soa → Block
soa_block soa = record { soa = soa; rows = [] }

-- what is wrong with a SOA behind others: it may be one of an incremental transfer
abbrev pub later_soa_fault : Wanted → Block → List Block → Soa → Option TransferFault
later_soa_fault wanted first others soa =
    if is_incremental (first ∷ (others ++ soa_block soa ∷ []))
    then step_soa_fault wanted first.soa.serial others soa.serial
    else close_fault first.soa.serial soa.serial

-- How a SOA record ends the transfer, by the blocks before it.
abbrev pub soa_end : Wanted → Bool → List Block → Soa → Option End
soa_end wanted alone [] soa = first_soa_end wanted alone soa.serial
soa_end wanted alone (first ∷ others) soa = option_map Err (later_soa_fault wanted first others soa)

-- a fault of the record's class or owner, and else what follows
abbrev pub place_or : Option TransferFault → Option End → Option End
place_or None other = other
place_or (Some fault) other = Some (Err fault)

-- how a record ends an open transfer, by the SOA that it holds and what is wrong with its class and owner: the first holds one
abbrev pub open_end : Wanted → Bool → List Block → Option Soa → Option TransferFault → Option End
open_end wanted alone bs None fault =
    if is_empty bs then Some (Err NoLeadingSoa) else place_or fault None
open_end wanted alone bs (Some soa) fault = place_or fault (soa_end wanted alone bs soa)

-- how a record ends the transfer, behind these blocks: behind the SOA that closes it there is none
abbrev pub record_end : Wanted → Bool → List Block → Option Soa → Option TransferFault → Option End
record_end wanted alone bs soa fault =
    if is_some (transfer_of bs) then Some (Err TrailingRecord)
    else open_end wanted alone bs soa fault

-- how an answer record ends the transfer, behind these blocks
abbrev pub answer_end : TransferRequest → Bool → List Block → PlainRecord → Option End
answer_end asked alone bs r =
    record_end asked.wanted alone bs (soa_held r) (place_fault asked.origin (holds_soa r) r)

abbrev pub item_end : TransferRequest → List TransferItem → TransferItem → Option End
item_end asked before (item.head octets) =
    option_map Err (message_fault asked (length before == 0) (message_of octets))
item_end asked before (item.answer alone r) = answer_end asked alone (blocks (records before)) r

-- How an item ends the transfer, behind these items; None where it doesn't. The item of the number `most` is one too many.
abbrev pub end_by : TransferRequest → List TransferItem → TransferItem → Option End
end_by asked before it =
    if nat_le asked.most (length before + 1) then Some (Err (TooManyRecords asked.most))
    else item_end asked before it

-- how the first of the items that ends the transfer does so, where they stand behind those before
unfoldable pub first_end : TransferRequest → List TransferItem → List TransferItem → Option End
first_end asked before [] = None
first_end asked before (it ∷ others) =
    option_or (end_by asked before it) (first_end asked (before ++ it ∷ []) others)

abbrev pub end_outcome : End → TransferOutcome
end_outcome (Ok theirs) = Ok (Current theirs)
end_outcome (Err fault) = Err fault

abbrev pub new_outcome : Transfer → TransferOutcome
new_outcome transfer = Ok (New transfer)

-- how these messages end the transfer: by the first item that does, else by the SOA that closes it; None where they don't
unfoldable pub outcome_of : TransferRequest → List (List ℕ) → Option TransferOutcome
outcome_of asked messages =
    option_or (option_map end_outcome (first_end asked [] (items messages)))
    (option_map new_outcome (transfer_of (blocks (records (items messages)))))
