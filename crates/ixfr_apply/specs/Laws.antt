-- What a stream is as a transfer, by the frames in it.
use Rattle.std.specs.Prelude.{◌≡◌, ◌≤◌, ℕ, List, [], ◌∷◌, ◌++◌, length, take, Some, None, Err}
use Rattle.std.specs.List.{All, flat_map}
use Rattle.edge_io.specs.declared.frame.TheConstants.{FRAME_MAX}
use Rattle.edge_io.specs.Frame.{frame_octets, IsCut}
use Rattle.axfr_apply.specs.declared.transfer_request.TransferRequest.{TransferRequest}
use Rattle.axfr_apply.specs.declared.fault.TransferFault.TheVariants.{Cut, EndedEarly}
use Rattle.axfr_apply.specs.Reading.{TransferOutcome, outcome_of}
use Rattle.ixfr_apply.specs.Stream.{Read}

-- the frames of messages, one behind another
abbrev pub frames_of : List (List ℕ) → List ℕ
frames_of messages = flat_map frame_octets messages

-- each message fits a frame: it has at most 65,535 bytes
abbrev pub FitFrames : List (List ℕ) → Type 0
FitFrames messages = All (λ message. length message ≤ FRAME_MAX) messages

-- the transfer goes on behind each of these messages: the first n of them don't end it, for every n from none to all
abbrev pub NoneEnds : TransferRequest → List (List ℕ) → Type 0
NoneEnds asked messages =
    (n : ℕ) → n ≤ length messages → outcome_of asked (take n messages) ≡ None

-- How a stream ends the transfer, and which of its bytes are left: by the first message that ends it, or by its own end.
pub data StreamReads (asked : TransferRequest) : List ℕ → Read → Type 0 where
  -- behind messages of which none ends the transfer stands one that does: what is behind its frame is left, whatever it is
  ends : (before : List (List ℕ)) (message rest : List ℕ) (outcome : TransferOutcome) →
      FitFrames (before ++ message ∷ []) → NoneEnds asked before →
      outcome_of asked (before ++ message ∷ []) ≡ Some outcome →
      StreamReads asked (frames_of (before ++ message ∷ []) ++ rest) (outcome, rest)
  -- behind messages of which none ends the transfer stands a part of a frame
  is_cut : (before : List (List ℕ)) (part : List ℕ) → FitFrames before → NoneEnds asked before →
      IsCut part → StreamReads asked (frames_of before ++ part) (Err Cut, [])
  -- behind messages of which none ends the transfer stands nothing
  ends_early : (before : List (List ℕ)) → FitFrames before → NoneEnds asked before →
      StreamReads asked (frames_of before) (Err EndedEarly, [])
