-- What a stream of bytes is as a transfer.
use Rattle.std.specs.Prelude.{◌≡◌, ℕ, zero, suc, ◌+◌, List, [], ◌∷◌, ◌++◌, length, Option, Some, None, Result, Ok, Err, IfSome, ⊤}
use Rattle.edge_io.specs.Frame.{Frame, none, cut, whole, frame_at, TakesSome, TakesFrame, TakesNone, TakesCut}
use Rattle.axfr_apply.specs.declared.fault.TransferError.{TransferError}
use Rattle.axfr_apply.specs.declared.fault.TransferError.TheVariants as errors
use Rattle.axfr_apply.specs.declared.transfer_request.TransferRequest.{TransferRequest}
use Rattle.axfr_apply.specs.declared.fault.TransferFault.{TransferFault}
use Rattle.axfr_apply.specs.declared.fault.TransferFault.TheVariants.{ReadFault, Cut, EndedEarly}
use Rattle.axfr_apply.specs.declared.taken.Taken.{Taken}
use Rattle.axfr_apply.specs.Reading.{TransferOutcome, outcome_of}

-- how a stream ends a transfer, and the bytes behind the message that ends it
abbrev pub Read : Type 0
Read = TransferOutcome × List ℕ

abbrev pub read_end : (List (List ℕ) → List ℕ → Read) → List (List ℕ) → List ℕ →
    Option TransferOutcome → Read
read_end go messages rest (Some outcome) = (outcome, rest)
read_end go messages rest None = go messages rest

abbrev pub read_of_frame : (List (List ℕ) → List ℕ → Read) → TransferRequest → List (List ℕ) →
    Frame → Read
read_of_frame go asked before none = (Err EndedEarly, [])
read_of_frame go asked before cut = (Err Cut, [])
read_of_frame go asked before (whole message rest) =
    let messages : List (List ℕ) =
    before ++ message ∷ [] in read_end go messages rest (outcome_of asked messages)

-- behind these messages, in at most so many frames
unfoldable pub read_from : ℕ → TransferRequest → List (List ℕ) → List ℕ → Read
read_from zero asked before bytes = (Err EndedEarly, [])
read_from (suc frames) asked before bytes =
    read_of_frame (read_from frames asked) asked before (frame_at bytes)

-- What a stream is: how the first of its messages, so many that they end the transfer, do so; or that it ends before, in a frame
-- or between frames. Each frame has two bytes at least, so the number of frames never ends the reading: by the law
-- `a_stream_is_read_by_its_frames` it is `StreamReads`, which knows no such number.
unfoldable pub reading : TransferRequest → List ℕ → Read
reading asked bytes = read_from (length bytes + 1) asked [] bytes

-- where the bytes of the source are known: it is read as the stream that they are, and the bytes after the transfer are left
abbrev pub ReadsAs : TransferRequest → TransferOutcome → Option (List ℕ) → Option (List ℕ) → Type 0
ReadsAs asked outcome before after =
    IfSome before
    (λ bytes. ((reading asked bytes).0 ≡ outcome) × (after ≡ Some (reading asked bytes).1))

-- what a result of reading says of the bytes
abbrev pub Faults : TransferRequest → TransferFault → Option (List ℕ) → Option (List ℕ) → Type 0
Faults asked ReadFault before after = TakesSome before after
Faults asked fault before after = ReadsAs asked (Err fault) before after

abbrev pub Reads : TransferRequest → Result Taken TransferError → Option (List ℕ) →
    Option (List ℕ) → Type 0
Reads asked (Ok taken) before after = ReadsAs asked (Ok taken) before after
Reads asked (Err errors.OutOfMemory) before after = TakesSome before after
Reads asked (Err (errors.Fault fault)) before after = Faults asked fault before after

-- which bytes were taken where no message was read
abbrev pub TakesOnFault : TransferFault → Option (List ℕ) → Option (List ℕ) → Type 0
TakesOnFault ReadFault before after = TakesSome before after
TakesOnFault Cut before after = TakesCut before after
TakesOnFault EndedEarly before after = TakesNone before after
TakesOnFault fault before after = ⊥

abbrev pub TakesMessage : Result (List ℕ) TransferError → Option (List ℕ) → Option (List ℕ) → Type 0
TakesMessage (Ok message) before after = TakesFrame message before after
TakesMessage (Err errors.OutOfMemory) before after = TakesSome before after
TakesMessage (Err (errors.Fault fault)) before after = TakesOnFault fault before after

-- a fault of reading comes only where this holds
abbrev pub BlamesSource : TransferError → Type 0 → Type 0
BlamesSource (errors.Fault ReadFault) blame = blame
BlamesSource e blame = ⊤
