-- What an order and the end of a poll come to.
use Rattle.std.proofs.Common.{◌≡◌, ◌≤◌, ◌-◌, ℕ, List, Option, Some, None, Result, Ok, Err, refl, subst}
use Rattle.std.specs.Prelude.{IfSome, IsSome, OnOk, slice_get}
use Rattle.dns_message.specs.Spelling.{spelling}
use Rattle.edge_io.specs.Edge.{Rose}
use Rattle.edge_io.specs.Told.{ComesNext}
use Rattle.edge_io.specs.declared.endpoint.Endpoint.{Endpoint}
use Rattle.server_io.specs.Wired.{IsNextOrder, after_call, plain_order, with_ordered}
use Rattle.server_io.specs.declared.wake.Order.{Order}
use Rattle.server_io.specs.declared.wires.WireError.{WireError}
use Rattle.server_io.specs.declared.wires.WireError.TheVariants as wire
use Rattle.zone_rows.specs.declared.zone.PlainZone.{PlainZone}
use Rattle.axfr_apply.specs.declared.fault.TransferError.{TransferError}
use Rattle.axfr_apply.specs.declared.fault.TransferError.TheVariants as errors
use Rattle.axfr_apply.specs.declared.taken.Taken.{Taken}
use Rattle.axfr_apply.specs.declared.transfer_request.TransferRequest.{TransferRequest}
use Rattle.ixfr_apply.specs.Marks.{mark_at}
use Rattle.ixfr_apply.specs.Offer.{request_of}
use Rattle.policy_snapshot.specs.Policy.{zone_at}
use Rattle.policy_publish.specs.Lists.{Published}
use Rattle.policy_feed.specs.Ending.{EndsReading, poll_ends}
use Rattle.policy_feed.specs.Feed.{Feed, PlainFeeder}
use Rattle.policy_feed.specs.Lines.{PollOutcome, poll_line, poll_outcome}
use Rattle.policy_feed.specs.Ordering.{Begins, OrdersZone}
use Rattle.policy_feed.specs.Poll.{request_for}
use Rattle.policy_feed.specs.Taking.{Ends}
use Rattle.policy_feed.specs.declared.fault.FeedError.{FeedError}
use Rattle.policy_feed.specs.declared.fault.FeedError.TheVariants as feed_error
use Rattle.policy_feed.specs.declared.fault.FeedFault.TheVariants as feed_fault
use Rattle.policy_feed.specs.declared.polling.Polled.{Polled}
use Rattle.policy_feed.specs.declared.polling.Polled.TheVariants as polled

-- what follows where there is no error
pub on_ok : {X E P Q : Type 0} (result : Result X E) → (P → Q) → OnOk result P → OnOk result Q
on_ok (Ok x) more h = more h
on_ok (Err e) more h = h

-- a transfer of a zone that is there was ordered
pub ordered : (second number : ℕ) (before after : Feed) (found : Option PlainZone) (primary : Endpoint) (id : ℕ) (result : Result Order WireError) (request : List ℕ) (asked : TransferRequest) (lines : List ℕ) → zone_at before.feeder.published.version.zones number ≡ found → IsSome found
    → slice_get before.feeder.zones.primaries (number - 1) ≡ Some primary → ComesNext before.ids id after.ids
    → ((zone : PlainZone) → found ≡ Some zone → request ≡ spelling (request_for id (mark_at before.feeder.published.marks number) zone.origin zone.content)) → ((zone : PlainZone) → found ≡ Some zone → asked ≡ request_of id (mark_at before.feeder.published.marks number) zone)
    → after.told ≡ after_call (with_ordered (plain_order primary request result)) result before.told → IsNextOrder before.told result → before.faults ≤ after.faults → (result ≡ Err wire.Failed → Rose before.faults after.faults) → Begins second before.feeder number asked result lines after.feeder
    → OrdersZone second before number lines after
ordered second number before after None primary id result request asked lines at some primary_is next request_is asked_is told numbered count failed begins = cc
ordered second number before after (Some zone) primary id result request asked lines at some primary_is next request_is asked_is told numbered count failed begins =
    record {
      zone = zone;
      is_zone = at;
      primary = primary;
      is_primary = primary_is;
      id = id;
      next = next;
      result = result;
      ordered = subst (λ (r : List ℕ). after.told ≡ after_call (with_ordered (plain_order primary r result)) result before.told) (request_is zone refl) told;
      numbered = numbered;
      fault_count = count;
      failed = failed;
      begins = subst (λ (a : TransferRequest). Begins second before.feeder number a result lines after.feeder) (asked_is zone refl) begins;
    }

-- without memory nothing was given
no_end : (number : ℕ) (zone : PlainZone) (told : Result Polled FeedError) (gives : PollOutcome) (old new : Published) → Ends number zone (Err errors.OutOfMemory) told old new → poll_outcome told ≡ Some gives → ⊥
no_end number zone (Ok (polled.Current theirs)) gives old new ends e = let h = ends.0 in cc
no_end number zone (Ok (polled.New publication)) gives old new ends e = let h = ends.1 in cc
no_end number zone (Err feed_error.OutOfMemory) gives old new ends e = cc
no_end number zone (Err (feed_error.Fault (feed_fault.Transfer fault))) gives old new ends e = let h = ends.0 in cc
no_end number zone (Err (feed_error.Fault (feed_fault.Apply fault))) gives old new ends e = let h = ends.1 in cc

ended_of : (second number : ℕ) (f : PlainFeeder) (zone : PlainZone) (read : Result Taken TransferError) (told : Result Polled FeedError) (gives : PollOutcome) (new : Published) (after : PlainFeeder) → zone_at f.published.version.zones number ≡ Some zone → Ends number zone read told f.published new
    → poll_outcome told ≡ Some gives → after ≡ poll_ends second f number gives new → EndsReading second number read f (poll_line number gives) after
ended_of second number f zone (Ok taken) told gives new after at ends outcome is =
    record { zone = zone; is_zone = at; gives = gives; published = new; ends = (told, outcome, ends); lines_are = refl; after_is = is }
ended_of second number f zone (Err (errors.Fault fault)) told gives new after at ends outcome is =
    record { zone = zone; is_zone = at; gives = gives; published = new; ends = (told, outcome, ends); lines_are = refl; after_is = is }
ended_of second number f zone (Err errors.OutOfMemory) told gives new after at ends outcome is = absurd (no_end number zone told gives f.published new ends outcome)

-- the poll of a zone that is there has ended
pub ended : (second number : ℕ) (f : PlainFeeder) (found : Option PlainZone) (read : Result Taken TransferError) (told : Result Polled FeedError) (gives : PollOutcome) (new : Published) (after : PlainFeeder) → zone_at f.published.version.zones number ≡ found → IsSome found
    → IfSome found (λ zone. Ends number zone read told f.published new) → poll_outcome told ≡ Some gives → after ≡ poll_ends second f number gives new → EndsReading second number read f (poll_line number gives) after
ended second number f None read told gives new after at some ends outcome is = cc
ended second number f (Some zone) read told gives new after at some ends outcome is = ended_of second number f zone read told gives new after at ends outcome is
