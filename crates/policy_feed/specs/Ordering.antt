-- Transfers that are due are ordered, each of its zone's own primary.
use Rattle.std.specs.Prelude.{◌≡◌, ◌≤◌, ◌-◌, ℕ, List, [], ◌∷◌, ◌++◌, Some, None, Result, Ok, Err, slice_get, slice_set}
use Rattle.dns_message.specs.Spelling.{spelling}
use Rattle.edge_io.specs.Chain.{Chain, Stage}
use Rattle.edge_io.specs.Edge.{Rose}
use Rattle.edge_io.specs.Told.{ComesNext}
use Rattle.edge_io.specs.declared.endpoint.Endpoint.{Endpoint}
use Rattle.server_io.specs.Wired.{IsNextOrder, after_call, plain_order, with_ordered}
use Rattle.server_io.specs.declared.wake.Order.{Order}
use Rattle.server_io.specs.declared.wires.WireError.{WireError}
use Rattle.server_io.specs.declared.wires.WireError.TheVariants as wire
use Rattle.zone_rows.specs.declared.zone.PlainZone.{PlainZone}
use Rattle.axfr_apply.specs.declared.transfer_request.TransferRequest.{TransferRequest}
use Rattle.ixfr_apply.specs.Marks.{mark_at}
use Rattle.ixfr_apply.specs.Offer.{request_of}
use Rattle.notify_poll.specs.Notifying.{changed_at}
use Rattle.notify_poll.specs.Timers.{after_poll, begun, due_zone}
use Rattle.notify_poll.specs.declared.timer.Polling.TheVariants.{Faulty}
use Rattle.policy_snapshot.specs.Policy.{zone_at}
use Rattle.policy_feed.specs.Poll.{request_for}
use Rattle.script_codec.specs.declared.zone_fault.ZoneFault.TheVariants as zone_fault
use Rattle.policy_feed.specs.Feed.{Feed, PlainFeeder, PlainPoll}
use Rattle.policy_feed.specs.Lines.{poll_line}

-- the transfer of the zone of this number is under way
abbrev pub poll_begins : PlainFeeder → ℕ → PlainPoll → PlainFeeder
poll_begins feeder number poll =
    record feeder {
      timers = changed_at begun feeder.timers (number - 1);
      polls = slice_set feeder.polls (number - 1) (Some poll);
    }

-- a poll of the zone of this number has failed at this second, before it was under way
abbrev pub poll_fails : ℕ → PlainFeeder → ℕ → PlainFeeder
poll_fails second feeder number =
    record feeder { timers = changed_at (after_poll Faulty second) feeder.timers (number - 1) }

-- what comes of an order: the transfer is under way; or it could not be begun, which its line says
abbrev pub Begins : ℕ → PlainFeeder → ℕ → TransferRequest → Result Order WireError → List ℕ →
    PlainFeeder → Type 0
Begins second before number asked (Ok order) lines after =
    (lines ≡ [])
    × (after ≡ poll_begins before number (record { order = order; asked = asked; messages = [] }))
Begins second before number asked (Err wire.Failed) lines after =
    (lines ≡ poll_line number (Err zone_fault.Fetch)) × (after ≡ poll_fails second before number)
Begins second before number asked (Err wire.OutOfMemory) lines after = ⊥

-- A transfer of the zone of this number is ordered at this second, of the zone's own primary, by a request of the ID that comes
-- next: for what is newer, or for all of it where nothing is loaded or the zone is marked. These lines are written.
pub record OrdersZone (second : ℕ) (before : Feed) (number : ℕ) (lines : List ℕ)
    (after : Feed) : Type 0 where
  pub zone : PlainZone
  pub is_zone : zone_at before.feeder.published.version.zones number ≡ Some zone
  pub primary : Endpoint
  pub is_primary : slice_get before.feeder.zones.primaries (number - 1) ≡ Some primary
  pub id : ℕ
  pub next : ComesNext before.ids id after.ids
  pub result : Result Order WireError
  pub ordered : after.told
      ≡ after_call
      (with_ordered (plain_order primary
      (spelling (request_for id (mark_at before.feeder.published.marks number) zone.origin
      zone.content))
      result))
      result before.told
  pub numbered : IsNextOrder before.told result
  pub fault_count : before.faults ≤ after.faults
  pub failed : result ≡ Err wire.Failed → Rose before.faults after.faults
  pub begins : Begins second before.feeder number
      (request_of id (mark_at before.feeder.published.marks number) zone) result lines after.feeder

-- the zone that is due, by its number, and the lines that are written of its order
pub record DueOrder : Type 0 where
  pub number : ℕ
  pub lines : List ℕ

-- The first zone that is due is ordered.
abbrev pub OrdersFirst : ℕ → Feed → DueOrder → Feed → Type 0
OrdersFirst second before due after =
    (due_zone before.feeder.timers second ≡ Some due.number)
    × OrdersZone second before due.number due.lines after

-- the lines of these orders; the last stands first among them
abbrev pub order_lines : List (Stage Feed DueOrder) → List ℕ
order_lines [] = []
order_lines (stage ∷ stages) = order_lines stages ++ stage.turn.lines

-- All zones that are due at this second are ordered, one after another, until none is due.
pub record OrdersDue (second : ℕ) (before : Feed) (lines : List ℕ) (after : Feed) : Type 0 where
  pub stages : List (Stage Feed DueOrder)
  pub chain : Chain (OrdersFirst second) before stages after
  pub lines_are : lines ≡ order_lines stages
  pub none_left : due_zone after.feeder.timers second ≡ None
