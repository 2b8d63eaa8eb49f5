-- What a zone does with a stream that comes as its transfer, and what is asked for next.
use Rattle.std.specs.Prelude.{ℕ, Bool, true, false, ◌||◌, if◌then◌else◌, List, length, Option, Some, None, Result, Ok, Err}
use Rattle.zone_rows.specs.declared.fault.ApplyFault.{ApplyFault}
use Rattle.zone_rows.specs.declared.transfer.Transfer.{Transfer}
use Rattle.zone_rows.specs.declared.zone.Content.{Content}
use Rattle.zone_rows.specs.declared.zone.PlainZone.{PlainZone}
use Rattle.zone_rows.specs.Content.{content_serial}
use Rattle.zone_rows.specs.Zone.{apply_outcome}
use Rattle.axfr_apply.specs.declared.transfer_request.TheConstants.{MOST}
use Rattle.axfr_apply.specs.declared.transfer_request.TransferRequest.{TransferRequest}
use Rattle.axfr_apply.specs.declared.transfer_request.Wanted.{Wanted}
use Rattle.axfr_apply.specs.declared.transfer_request.Wanted.TheVariants.{Whole, Newer}
use Rattle.axfr_apply.specs.declared.taken.Taken.TheVariants as taken
use Rattle.axfr_apply.specs.Reading.{TransferOutcome}
use Rattle.ixfr_apply.specs.declared.refusal.Refusal.{Refusal}
use Rattle.ixfr_apply.specs.declared.refusal.Refusal.TheVariants as refusal
use Rattle.ixfr_apply.specs.Stream.{reading}

-- What a zone does with a stream: it takes a transfer, is current, or refuses it. After a transfer the zone is this; else it
-- stays as it is.
pub data Offer : Type 0 where
  takes : Transfer → PlainZone → Offer
  is_current : ℕ → Offer
  refuses : Refusal → Offer

-- what becomes of a transfer that was read
abbrev pub offer_by_outcome : Transfer → Result PlainZone ApplyFault → Offer
offer_by_outcome transfer (Ok next) = takes transfer next
offer_by_outcome transfer (Err fault) = refuses (refusal.Apply fault)

abbrev pub offer_by_reading : PlainZone → TransferOutcome → Offer
offer_by_reading zone (Ok (taken.Current theirs)) = is_current theirs
offer_by_reading zone (Ok (taken.New transfer)) =
    offer_by_outcome transfer (apply_outcome zone transfer)
offer_by_reading zone (Err fault) = refuses (refusal.Transfer fault)

-- What is asked for: what is newer than this serial, or all of a zone that has nothing loaded or is marked.
abbrev pub wanted_by : Bool → Option ℕ → Wanted
wanted_by marked None = Whole None
wanted_by marked (Some serial) = if marked then Whole (Some serial) else Newer serial

-- what is asked for of a zone that is marked or not and holds this
abbrev pub wanted_of : Bool → Option Content → Wanted
wanted_of marked content = wanted_by marked (content_serial content)

-- the request of an ID for a zone that is marked or not
abbrev pub request_of : ℕ → Bool → PlainZone → TransferRequest
request_of id marked zone =
    record { id = id; origin = zone.origin; wanted = wanted_of marked zone.content; most = MOST }

-- what a zone that is marked or not does with a stream, which comes for a request of this ID
abbrev pub offer : ℕ → Bool → PlainZone → List ℕ → Offer
offer id marked zone stream = offer_by_reading zone (reading (request_of id marked zone) stream).0

-- Only what is newer was asked for.
abbrev pub asks_newer : Wanted → Bool
asks_newer (Whole have) = false
asks_newer (Newer have) = true

-- Whether a zone is marked afterwards, so that all of it is asked for next. It isn't once it took a transfer or is current; it
-- is once what is newer was refused.
abbrev pub mark_after : Bool → Wanted → Offer → Bool
mark_after marked wanted (takes transfer next) = false
mark_after marked wanted (is_current theirs) = false
mark_after marked wanted (refuses why) = marked || asks_newer wanted

-- the serial of what a zone holds, and how many rows; 0 where it holds nothing
abbrev pub content_size : Option Content → ℕ × ℕ
content_size None = (0, 0)
content_size (Some content) = (content.soa.serial, length content.rows)
