-- A reader of a transfer, which takes message after message, and what it stands for: the list of messages that it took.
use Rattle.std.specs.Prelude.{◌≡◌, ℕ, ◌-◌, ◌<◌, List, [], length, Option, Some, None, Result, Ok, Err, ⊤}
use Rattle.dns_name.specs.Reading.{◌>>=◌}
use Rattle.zone_rows.specs.declared.transfer.Transfer.{Transfer}
use Rattle.axfr_apply.specs.declared.transfer_request.TransferRequest.{TransferRequest}
use Rattle.axfr_apply.specs.declared.fault.TransferError.{TransferError}
use Rattle.axfr_apply.specs.declared.fault.TransferError.TheVariants as errors
use Rattle.axfr_apply.specs.declared.fault.TransferFault.{TransferFault}
use Rattle.axfr_apply.specs.declared.fault.TransferFault.TheVariants.{ReadFault, Cut, EndedEarly, Finished}
use Rattle.axfr_apply.specs.declared.taken.Taken.TheVariants.{Current, New}
use Rattle.axfr_apply.specs.Block.{blocks, transfer_of}
use Rattle.axfr_apply.specs.Item.{TransferItem, items, records}
use Rattle.axfr_apply.specs.Reading.{TransferOutcome, first_end}
use Rattle.ixfr_apply.specs.declared.progress.Progress.{Progress}
use Rattle.ixfr_apply.specs.declared.reader.Fed.{Fed}
use Rattle.ixfr_apply.specs.declared.reader.Fed.TheVariants as fed
use Rattle.ixfr_apply.specs.Progress.{Next, on, current, message_run, new_progress}

-- a reader: what was asked for, and how far the transfer has come, unless it has ended
pub record Reader : Type 0 where
  pub asked : TransferRequest
  pub progress : Option Progress

abbrev pub new_reader : TransferRequest → Reader
new_reader asked = record { asked = asked; progress = Some new_progress }

-- the transfer has ended
abbrev pub IsFinished : Reader → Type 0
IsFinished reader = reader.progress ≡ None

-- this is how far the items have brought the transfer, which none of them ends
pub record Stands (asked : TransferRequest) (p : Progress) (its : List TransferItem) : Type 0 where
  pub count : p.count ≡ length its
  pub no_end : first_end asked [] its ≡ None
  pub gathered : p.gathered ≡ blocks (records its)

-- the same, and the SOA that closes it didn't come
abbrev pub WaitsBehind : TransferRequest → Option Progress → List (List ℕ) → Type 0
WaitsBehind asked None messages = ⊥
WaitsBehind asked (Some p) messages =
    Stands asked p (items messages) × (transfer_of p.gathered ≡ None)

-- the reader has taken these messages, which don't end the transfer
abbrev pub Waits : Reader → List (List ℕ) → Type 0
Waits reader messages = WaitsBehind reader.asked reader.progress messages

-- what a message did to a reader, by how all messages up to this one end the transfer, or that they don't
abbrev pub Feeds : Result Fed TransferError → Reader → List (List ℕ) → Option TransferOutcome →
    Type 0
Feeds (Ok fed.More) new messages outcome = (outcome ≡ None) × Waits new messages
Feeds (Ok (fed.Current theirs)) new messages outcome =
    (outcome ≡ Some (Ok (Current theirs))) × IsFinished new
Feeds (Ok (fed.Done transfer)) new messages outcome =
    (outcome ≡ Some (Ok (New transfer))) × IsFinished new
Feeds (Err errors.OutOfMemory) new messages outcome = IsFinished new
Feeds (Err (errors.Fault fault)) new messages outcome =
    (outcome ≡ Some (Err fault)) × IsFinished new

-- a fault that a message shows, not the stream or the reader
abbrev pub IsOfMessage : TransferFault → Type 0
IsOfMessage ReadFault = ⊥
IsOfMessage Cut = ⊥
IsOfMessage EndedEarly = ⊥
IsOfMessage Finished = ⊥
IsOfMessage fault = Unit {0}

abbrev pub IsOfReader : TransferError → Type 0
IsOfReader errors.OutOfMemory = Unit {0}
IsOfReader (errors.Fault fault) = IsOfMessage fault

-- how many more messages and records there may be
abbrev pub progress_left : TransferRequest → Option Progress → ℕ
progress_left asked None = 0
progress_left asked (Some p) = asked.most - p.count

abbrev pub left_of : Reader → ℕ
left_of reader = progress_left reader.asked reader.progress

-- where more messages are to come, fewer may
abbrev pub Falls : Result Fed TransferError → ℕ → ℕ → Type 0
Falls (Ok fed.More) before now = now < before
Falls result before now = ⊤

-- what a message does to a reader, by how far the transfer has come
pub data FeedOutcome : Type 0 where
  more : Progress → FeedOutcome
  current_at : ℕ → FeedOutcome
  done : Transfer → FeedOutcome

abbrev pub transfer_outcome : Option Transfer → Progress → FeedOutcome
transfer_outcome None p = more p
transfer_outcome (Some transfer) p = done transfer

abbrev pub next_outcome : Next → Result FeedOutcome TransferFault
next_outcome (on p) = Ok (transfer_outcome (transfer_of p.gathered) p)
next_outcome (current theirs) = Ok (current_at theirs)

abbrev pub feed_outcome : TransferRequest → Option Progress → List ℕ →
    Result FeedOutcome TransferFault
feed_outcome asked None octets = Err Finished
feed_outcome asked (Some p) octets = message_run asked p octets >>= next_outcome

abbrev pub GoesOn : Option Progress → Result FeedOutcome TransferFault → Type 0
GoesOn None gives = ⊥
GoesOn (Some p) gives = gives ≡ Ok (more p)

abbrev pub Meets : Result Fed TransferError → Option Progress → Result FeedOutcome TransferFault →
    Type 0
Meets (Ok fed.More) new gives = GoesOn new gives
Meets (Ok (fed.Current theirs)) new gives = (gives ≡ Ok (current_at theirs)) × (new ≡ None)
Meets (Ok (fed.Done transfer)) new gives = (gives ≡ Ok (done transfer)) × (new ≡ None)
Meets (Err errors.OutOfMemory) new gives = new ≡ None
Meets (Err (errors.Fault fault)) new gives = (gives ≡ Err fault) × (new ≡ None)
