-- What a poll of a zone gave, and the line of it.
use Rattle.std.specs.Prelude.{ℕ, List, Option, Some, None, Result, Ok, Err}
use Rattle.policy_feed.specs.declared.fault.FeedError.{FeedError}
use Rattle.policy_feed.specs.declared.fault.FeedError.TheVariants as feed_error
use Rattle.policy_feed.specs.declared.fault.FeedFault.{FeedFault}
use Rattle.policy_feed.specs.declared.fault.FeedFault.TheVariants as feed_fault
use Rattle.policy_feed.specs.declared.polling.Polled.{Polled}
use Rattle.policy_feed.specs.declared.polling.Polled.TheVariants as polled
use Rattle.script_codec.specs.Shown.{shown_line}
use Rattle.script_codec.specs.declared.shown.Shown.{Shown}
use Rattle.script_codec.specs.declared.shown.Shown.TheVariants as shown
use Rattle.script_codec.specs.declared.zone_fault.ZoneFault.{ZoneFault}
use Rattle.script_codec.specs.declared.zone_fault.ZoneFault.TheVariants as zone_fault

abbrev pub poll_fault_of : FeedFault → ZoneFault
poll_fault_of (feed_fault.Transfer fault) = zone_fault.Transfer fault
poll_fault_of (feed_fault.Apply fault) = zone_fault.Apply fault

-- what a poll gave: that the zone is current, what was published, or why nothing was
abbrev pub PollOutcome : Type 0
PollOutcome = Result Polled ZoneFault

-- the same where memory may have run out, which is None
abbrev pub poll_outcome : Result Polled FeedError → Option PollOutcome
poll_outcome (Ok told) = Some (Ok told)
poll_outcome (Err (feed_error.Fault fault)) = Some (Err (poll_fault_of fault))
poll_outcome (Err feed_error.OutOfMemory) = None

-- what is shown of a poll of the zone of a number
abbrev pub shown_poll : ℕ → PollOutcome → Shown
shown_poll number (Ok (polled.Current theirs)) = shown.Current number theirs
shown_poll number (Ok (polled.New publication)) =
    shown.Taken number publication.serial publication.rows
shown_poll number (Err fault) = shown.Refused number fault

-- the line of a poll, which is that of a transfer in a transcript
unfoldable pub poll_line : ℕ → PollOutcome → List ℕ
poll_line number outcome = shown_line (shown_poll number outcome)
