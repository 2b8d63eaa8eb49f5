-- How a poll ends.
use Rattle.std.specs.Prelude.{◌≡◌, ◌-◌, ℕ, List, Option, Some, None, Result, Ok, Err, slice_set}
use Rattle.zone_rows.specs.declared.zone.Content.{Content}
use Rattle.zone_rows.specs.declared.zone.PlainZone.{PlainZone}
use Rattle.axfr_apply.specs.declared.fault.TransferError.{TransferError}
use Rattle.axfr_apply.specs.declared.fault.TransferError.TheVariants as transfer_errors
use Rattle.axfr_apply.specs.declared.taken.Taken.{Taken}
use Rattle.axfr_apply.specs.Reading.{TransferOutcome}
use Rattle.notify_poll.specs.Notifying.{changed_at}
use Rattle.notify_poll.specs.Timers.{after_poll}
use Rattle.notify_poll.specs.declared.timer.Polling.{Polling}
use Rattle.notify_poll.specs.declared.timer.Polling.TheVariants.{Done, Faulty}
use Rattle.policy_snapshot.specs.Policy.{zone_at}
use Rattle.policy_publish.specs.Lists.{Published}
use Rattle.policy_feed.specs.Taking.{Ends}
use Rattle.policy_feed.specs.declared.fault.FeedError.{FeedError}
use Rattle.policy_feed.specs.declared.polling.Polled.{Polled}
use Rattle.script_codec.specs.declared.zone_fault.ZoneFault.TheVariants as zone_fault
use Rattle.policy_feed.specs.Feed.{PlainFeeder}
use Rattle.policy_feed.specs.Lines.{PollOutcome, poll_line, poll_outcome}

-- what ends a poll: what was read of the primary; or the request could not be written; or there was no connection
pub data PollEnd : Type 0 where
  read : TransferOutcome → PollEnd
  unwritten : PollEnd
  unfetched : PollEnd

abbrev pub read_result : TransferOutcome → Result Taken TransferError
read_result (Ok taken) = Ok taken
read_result (Err fault) = Err (transfer_errors.Fault fault)

-- what an end gives, and what is published then: a transfer that was read is published, if the zone takes it
abbrev pub EndGives : ℕ → PlainZone → PollEnd → PollOutcome → Published → Published → Type 0
EndGives number zone (read outcome) gives old new =
    (told : Result Polled FeedError) × (poll_outcome told ≡ Some gives)
    × Ends number zone (read_result outcome) told old new
EndGives number zone unwritten gives old new = (gives ≡ Err zone_fault.Write) × (new ≡ old)
EndGives number zone unfetched gives old new = (gives ≡ Err zone_fault.Fetch) × (new ≡ old)

-- the times of what a zone holds (RFC 1035, section 3.3.13)
abbrev pub times_of : Option Content → Polling
times_of None = Faulty
times_of (Some content) = Done content.soa.refresh content.soa.retry

abbrev pub zone_times : Option PlainZone → Polling
zone_times None = Faulty
zone_times (Some zone) = times_of zone.content

-- How a poll ended behind which the zone is this: it is done where a transfer was taken or the zone is current, else it has failed.
abbrev pub polling_behind : PollOutcome → Option PlainZone → Polling
polling_behind (Ok _) found = zone_times found
polling_behind (Err _) _ = Faulty

-- the transfer of this place is under way no more
abbrev pub poll_taken : PlainFeeder → ℕ → PlainFeeder
poll_taken feeder place = record feeder { polls = slice_set feeder.polls place None }

-- the poll of the zone of this number has ended at this second, and this is published
abbrev pub poll_ends : ℕ → PlainFeeder → ℕ → PollOutcome → Published → PlainFeeder
poll_ends second feeder number gives published =
    record feeder {
      published = published;
      timers = changed_at
          (after_poll (polling_behind gives (zone_at published.version.zones number)) second)
          feeder.timers (number - 1);
    }

-- The poll of this zone ends at this second, with its line. Its transfer is under way no more.
pub record EndsPoll (second number : ℕ) (by : PollEnd) (before : PlainFeeder) (lines : List ℕ)
    (after : PlainFeeder) : Type 0 where
  pub zone : PlainZone
  pub is_zone : zone_at before.published.version.zones number ≡ Some zone
  pub gives : PollOutcome
  pub published : Published
  pub ends : EndGives number zone by gives before.published published
  pub lines_are : lines ≡ poll_line number gives
  pub after_is : after ≡ poll_ends second before number gives published

-- the same of a poll of whose transfer this was read; out of memory it doesn't end
abbrev pub EndsReading : ℕ → ℕ → Result Taken TransferError → PlainFeeder → List ℕ → PlainFeeder →
    Type 0
EndsReading second number (Ok taken) before lines after =
    EndsPoll second number (read (Ok taken)) before lines after
EndsReading second number (Err (transfer_errors.Fault fault)) before lines after =
    EndsPoll second number (read (Err fault)) before lines after
EndsReading second number (Err transfer_errors.OutOfMemory) before lines after = ⊥
