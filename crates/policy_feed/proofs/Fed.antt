-- Each zone keeps its primary, its timer and its place for a transfer.
use Rattle.std.proofs.Common.{◌≡◌, ◌≤◌, ◌-◌, ℕ, List, Option, Some, None, Result, length, length-set, ◌∙◌, subst, sym}
use Rattle.std.specs.Prelude.{IfSome}
use Rattle.zone_rows.specs.declared.zone.TheConstants.{ZONE_LIMIT}
use Rattle.axfr_apply.specs.declared.fault.TransferError.{TransferError}
use Rattle.axfr_apply.specs.declared.taken.Taken.{Taken}
use Rattle.notify_poll.specs.Notifying.{brought_forward}
use Rattle.notify_poll.specs.Timers.{after_poll, begun}
use Rattle.notify_poll.specs.declared.timer.Polling.TheVariants.{Faulty}
use Rattle.policy_publish.specs.Lists.{Published}
use Rattle.policy_feed.specs.Ending.{poll_taken}
use Rattle.policy_feed.specs.Feed.{IsFed, PlainFeeder, PlainPoll}
use Rattle.policy_feed.specs.Taking.{Ends}
use Rattle.policy_feed.specs.declared.fault.FeedError.{FeedError}
use Rattle.policy_feed.specs.declared.polling.Polled.{Polled}
use Rattle.policy_feed.specs.Ordering.{poll_begins, poll_fails}
use Rattle.policy_feed.specs.Waking.{poll_goes_on}
use Rattle.policy_snapshot.specs.Policy.{zone_at}
use Rattle.policy_feed.proofs.Kept.{brought_length, changed_length, zone_there, zones_stay}

pub begins_fed : (f : PlainFeeder) (number : ℕ) (poll : PlainPoll) → IsFed f → IsFed (poll_begins f number poll)
begins_fed f number poll fed =
    record { primaries = fed.primaries; timers = changed_length begun f.timers (number - 1) ∙ fed.timers; polls = length-set f.polls (number - 1) (Some poll) ∙ fed.polls; limit = fed.limit }

pub fails_fed : (second : ℕ) (f : PlainFeeder) (number : ℕ) → IsFed f → IsFed (poll_fails second f number)
fails_fed second f number fed =
    record { primaries = fed.primaries; timers = changed_length (after_poll Faulty second) f.timers (number - 1) ∙ fed.timers; polls = fed.polls; limit = fed.limit }

pub taken_fed : (f : PlainFeeder) (place : ℕ) → IsFed f → IsFed (poll_taken f place)
taken_fed f place fed = record { primaries = fed.primaries; timers = fed.timers; polls = length-set f.polls place None ∙ fed.polls; limit = fed.limit }

pub goes_on_fed : (f : PlainFeeder) (place : ℕ) (poll : PlainPoll) (message : List ℕ) → IsFed f → IsFed (poll_goes_on f place poll message)
goes_on_fed f place poll message fed = record { primaries = fed.primaries; timers = fed.timers; polls = length-set f.polls place _ ∙ fed.polls; limit = fed.limit }

pub brought_fed : (second : ℕ) (f : PlainFeeder) (place : Option ℕ) → IsFed f → IsFed (record f { timers = brought_forward second f.timers place })
brought_fed second f place fed = record { primaries = fed.primaries; timers = brought_length second f.timers place ∙ fed.timers; polls = fed.polls; limit = fed.limit }

-- the end of a poll opens no zone
pub end_fed : (f : PlainFeeder) (number : ℕ) (read : Result Taken TransferError) (told : Result Polled FeedError) (new : Published) → 1 ≤ number → number ≤ length f.timers
    → IfSome (zone_at f.published.version.zones number) (λ zone. Ends number zone read told f.published new) → IsFed f → IsFed (record f { published = new })
end_fed f number read told new low high ends fed =
    let within : number ≤ length f.published.version.zones = subst (λ (n : ℕ). number ≤ n) fed.timers high in
    let same : length new.version.zones ≡ length f.published.version.zones =
    zones_stay number (zone_at f.published.version.zones number) read told f.published new (zone_there f.published.version.zones number low within) ends in
    record { primaries = fed.primaries ∙ sym same; timers = fed.timers ∙ sym same; polls = fed.polls ∙ sym same; limit = subst (λ (n : ℕ). n ≤ ZONE_LIMIT) (sym same) fed.limit }
