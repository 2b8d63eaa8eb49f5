-- What a wake does.
use Rattle.std.specs.Prelude.{◌≡◌, ◌==◌, ◌+◌, ◌⊎◌, ℕ, Bool, false, List, [], ◌∷◌, ◌++◌, Option, Some, None, Result, Ok, Err, position, slice_get, slice_set}
use Rattle.server_io.specs.declared.peer.Peer.{Peer}
use Rattle.server_io.specs.Wired.{PlainWires, after_send}
use Rattle.server_io.specs.declared.replies.SendError.{SendError}
use Rattle.server_io.specs.declared.replies.SendError.TheVariants as send_error
use Rattle.server_io.specs.declared.wake.Order.{Order}
use Rattle.server_io.specs.declared.wake.OrderEnd.{OrderEnd}
use Rattle.server_io.specs.declared.wake.OrderEnd.TheVariants as order_end
use Rattle.server_io.specs.declared.wake.Wake.{Wake}
use Rattle.server_io.specs.declared.wake.Wake.TheVariants as wake
use Rattle.ip_prefix.specs.declared.Transport.{Transport}
use Rattle.axfr_apply.specs.declared.fault.TransferFault.TheVariants.{Cut, EndedEarly, ReadFault}
use Rattle.axfr_apply.specs.Reading.{TransferOutcome, outcome_of}
use Rattle.networks.specs.Allowed.{is_allowed}
use Rattle.notify_poll.specs.Notifying.{Answer, answer_to, as_notified, brought_forward}
use Rattle.notify_poll.specs.declared.notifying.Notified.{Notified}
use Rattle.notify_poll.specs.declared.notifying.Notified.TheVariants.{Reply, Silent}
use Rattle.policy_feed.specs.Ending.{EndsPoll, PollEnd, poll_taken, read, unfetched, unwritten}
use Rattle.policy_feed.specs.Feed.{AsksNothing, Feed, PlainFeeder, PlainPoll}
use Rattle.policy_feed.specs.Hastening.{hastened_when}
use Rattle.policy_feed.specs.Ordering.{OrdersDue}
use Rattle.policy_feed.specs.declared.notice.Notice.{Notice}
use Rattle.policy_feed.specs.declared.notice.Notice.TheVariants as notice

-- the transfer has this order
abbrev pub is_by_order : Order → Option PlainPoll → Bool
is_by_order order None = false
is_by_order order (Some poll) = poll.order.number == order.number

-- the place of the zone whose transfer has this order, if there is one
abbrev pub place_with : Order → PlainFeeder → Option ℕ
place_with order feeder = position (is_by_order order) feeder.polls

-- the transfer of this place has come this far: one message more came of it, which doesn't end it
abbrev pub poll_goes_on : PlainFeeder → ℕ → PlainPoll → List ℕ → PlainFeeder
poll_goes_on feeder place poll message =
    record feeder {
      polls = slice_set feeder.polls place
          (Some (record poll { messages = poll.messages ++ message ∷ [] }));
    }

-- A message came of a transfer. By all messages so far the transfer goes on, or they end it and the poll.
abbrev pub HearsBy : ℕ → ℕ → PlainPoll → List ℕ → PlainFeeder → Option TransferOutcome → List ℕ →
    PlainFeeder → Type 0
HearsBy second place poll message before None lines after =
    (lines ≡ []) × (after ≡ poll_goes_on before place poll message)
HearsBy second place poll message before (Some outcome) lines after =
    EndsPoll second (place + 1) (read outcome) (poll_taken before place) lines after

-- the same of the transfer of a place
abbrev pub HearsAt : ℕ → Option ℕ → List ℕ → PlainFeeder → List ℕ → PlainFeeder → Type 0
HearsAt second None message before lines after = (lines ≡ []) × (after ≡ before)
HearsAt second (Some place) message before lines after =
    (poll : PlainPoll) × (slice_get before.polls place ≡ Some (Some poll))
    × HearsBy second place poll message before
    (outcome_of poll.asked (poll.messages ++ message ∷ [])) lines after

-- how a transfer has ended of which nothing more comes; out of memory nothing is said
abbrev pub end_of : OrderEnd → Option PollEnd
end_of order_end.End = Some (read (Err EndedEarly))
end_of order_end.Cut = Some (read (Err Cut))
end_of order_end.ReadFault = Some (read (Err ReadFault))
end_of order_end.WriteFault = Some unwritten
end_of order_end.FetchFault = Some unfetched
end_of order_end.OutOfMemory = None

-- nothing more comes of the transfer of a place
abbrev pub EndsAt : ℕ → Option ℕ → OrderEnd → PlainFeeder → List ℕ → PlainFeeder → Type 0
EndsAt second None why before lines after = (lines ≡ []) × (after ≡ before)
EndsAt second (Some place) why before lines after =
    (by : PollEnd) × (end_of why ≡ Some by)
    × EndsPoll second (place + 1) by (poll_taken before place) lines after

-- what became of a NOTIFY whose reply is this, and was to be sent
abbrev pub notice_by : Notified → Result (Unit {0}) SendError → Notice
notice_by Silent tried = notice.Silent
notice_by (Reply bytes) (Ok done) = notice.Replied
notice_by (Reply bytes) (Err send_error.Failed) = notice.Failed
notice_by (Reply bytes) (Err send_error.OutOfMemory) = notice.Memory

-- what the wires tell after a reply to a NOTIFY was to be sent
abbrev pub told_by : Notified → Peer → Transport → Result (Unit {0}) SendError →
    Option PlainWires → Option PlainWires
told_by Silent peer transport tried told = told
told_by (Reply bytes) peer transport tried told =
    after_send (record { peer = peer; transport = transport; bytes = bytes }) tried told

-- what a NOTIFY of a peer is answered, which may ask where the list allows it, and the zone that it brings forward
abbrev pub answer_of : Peer → List ℕ → PlainFeeder → Answer
answer_of peer bytes feeder =
    answer_to (is_allowed feeder.allowed peer.addr) bytes peer.addr feeder.zones.origins
    feeder.timers

-- A NOTIFY is answered over its transport, and its zone brought forward, where it comes from the zone's own primary (RFC 1996).
pub record AnswersNotify (second : ℕ) (peer : Peer) (transport : Transport) (bytes : List ℕ)
    (before : Feed) (what : Notice) (after : Feed) : Type 0 where
  pub tried : Result (Unit {0}) SendError
  pub what_is : what ≡ notice_by (as_notified (answer_of peer bytes before.feeder).0) tried
  pub told : after.told
      ≡ told_by (as_notified (answer_of peer bytes before.feeder).0) peer transport tried
      before.told
  pub feeder : after.feeder
      ≡ record before.feeder {
        timers = brought_forward second before.feeder.timers
            (answer_of peer bytes before.feeder).1;
      }
  pub faults : after.faults ≡ before.faults
  pub ids : after.ids ≡ before.ids

-- A NOTIFY is answered; or memory ran out for it, and it does nothing.
abbrev pub TakesNotify : ℕ → Peer → Transport → List ℕ → Feed → Notice → Feed → Type 0
TakesNotify second peer transport bytes before what after =
    ((what ≡ notice.Memory) × (after ≡ before))
    ⊎ AnswersNotify second peer transport bytes before what after

-- What a wake does at this second, the lines that it writes, and what became of a NOTIFY.
abbrev pub WakeDoes : ℕ → Feed → Wake → List ℕ → Option Notice → Feed → Type 0
WakeDoes second before wake.Due lines what after = (lines ≡ []) × (what ≡ None) × (after ≡ before)
WakeDoes second before (wake.Frame order bytes) lines what after =
    HearsAt second (place_with order before.feeder) bytes before.feeder lines after.feeder
    × (what ≡ None) × AsksNothing before after
WakeDoes second before (wake.Over order why) lines what after =
    EndsAt second (place_with order before.feeder) why before.feeder lines after.feeder
    × (what ≡ None) × AsksNothing before after
WakeDoes second before (wake.Notify peer transport bytes) lines what after =
    (lines ≡ [])
    × ((told : Notice) × (what ≡ Some told)
    × TakesNotify second peer transport bytes before told after)
WakeDoes second before (wake.Ended dropped) lines what after =
    (lines ≡ []) × (what ≡ None) × (after ≡ before)

-- with zones of which nothing was loaded due again, where polls are to be tried anew
abbrev pub feed_hastened : Bool → ℕ → Feed → Feed
feed_hastened is_anew second feed =
    record feed { feeder = hastened_when is_anew second feed.feeder }

-- A turn at this second: a wake does what it does, and then all that is due is ordered. If polls are to be tried anew, each
-- zone of which nothing was loaded yet is due, too.
pub record TakesWake (second : ℕ) (is_anew : Bool) (before : Feed) (woken : Wake)
    (lines : List ℕ) (what : Option Notice) (after : Feed) : Type 0 where
  pub middle : Feed
  pub first : List ℕ
  pub takes : WakeDoes second before woken first what middle
  pub next : List ℕ
  pub orders : OrdersDue second (feed_hastened is_anew second middle) next after
  pub lines_are : lines ≡ first ++ next
