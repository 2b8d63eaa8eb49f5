-- What a message does to a transfer that is under way: see src/under_way.rt.
use Rattle.std.specs.Prelude.{◌≡◌, ℕ, List, [], ◌∷◌, ◌++◌, Option, Some, None, Ok, Err, ⊤}
use Rattle.axfr_apply.specs.declared.fault.TransferError.TheVariants as errors
use Rattle.axfr_apply.specs.Reading.{TransferOutcome, outcome_of}
use Rattle.policy_feed.specs.Feed.{PlainPoll}
use Rattle.policy_feed.specs.declared.under_way.Heard.{Heard}
use Rattle.policy_feed.specs.declared.under_way.Heard.TheVariants.{More, Ended}

abbrev pub heard_by : PlainPoll → List ℕ → Option TransferOutcome
heard_by poll message = outcome_of poll.asked (poll.messages ++ message ∷ [])

abbrev pub HearsMessage : PlainPoll → List ℕ → Heard → Type 0
HearsMessage poll message (More next) =
    (heard_by poll message ≡ None)
    × (next ≡ record poll { messages = poll.messages ++ message ∷ [] })
HearsMessage poll message (Ended (Ok taken)) = heard_by poll message ≡ Some (Ok taken)
HearsMessage poll message (Ended (Err (errors.Fault fault))) =
    heard_by poll message ≡ Some (Err fault)
HearsMessage poll message (Ended (Err errors.OutOfMemory)) = ⊤
