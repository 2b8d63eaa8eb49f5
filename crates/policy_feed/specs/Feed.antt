-- The zones of a server while they are polled.
use Rattle.std.specs.Prelude.{◌≡◌, ◌≤◌, ℕ, List, Option, Some, None, length, map}
use Rattle.dns_name.specs.Labels.{Name}
use Rattle.edge_io.specs.declared.endpoint.Endpoint.{Endpoint}
use Rattle.server_io.specs.Wired.{PlainWires}
use Rattle.server_io.specs.declared.wake.Order.{Order}
use Rattle.zone_rows.specs.declared.zone.TheConstants.{ZONE_LIMIT}
use Rattle.axfr_apply.specs.declared.transfer_request.TransferRequest.{TransferRequest}
use Rattle.ip_prefix.specs.declared.Addr.{Addr}
use Rattle.ip_prefix.specs.Prefix.{PlainPrefix}
use Rattle.notify_poll.specs.Timers.{first_timers}
use Rattle.notify_poll.specs.declared.timer.Timer.{Timer}
use Rattle.policy_publish.specs.Lists.{Published}

-- the origins of the zones and their primaries, zone 1 first
pub record FedZones : Type 0 where
  pub origins : List Name
  pub primaries : List Endpoint

-- A transfer that was ordered and has not ended: its order, what was asked for, and the messages that came of it so far.
pub record PlainPoll : Type 0 where
  pub order : Order
  pub asked : TransferRequest
  pub messages : List (List ℕ)

-- What contracts see of a feeder. These are the networks whose clients may ask, the zones, what is published of them, the timer
-- of each, and the transfer of each that is under way, if one is.
pub record PlainFeeder : Type 0 where
  pub allowed : List PlainPrefix
  pub zones : FedZones
  pub published : Published
  pub timers : List Timer
  pub polls : List (Option PlainPoll)

-- A feeder, and what its wires and IDs tell. These are what was asked of the wires and the wakes that they are still to give,
-- if they tell it; how often a connection to a primary has failed; and the IDs that are still to come, if they are known.
pub record Feed : Type 0 where
  pub feeder : PlainFeeder
  pub told : Option PlainWires
  pub faults : ℕ
  pub ids : Option (List ℕ)

-- A feed by its parts.
abbrev pub feed_of : PlainFeeder → Option PlainWires → ℕ → Option (List ℕ) → Feed
feed_of feeder told faults ids =
    record { feeder = feeder; told = told; faults = faults; ids = ids }

-- nothing was asked of the wires, and no ID was taken
pub record AsksNothing (before after : Feed) : Type 0 where
  pub told : after.told ≡ before.told
  pub faults : after.faults ≡ before.faults
  pub ids : after.ids ≡ before.ids

-- each zone has a primary, a timer and a place for a transfer
pub record IsFed (feeder : PlainFeeder) : Type 0 where
  pub primaries : length feeder.zones.primaries ≡ length feeder.published.version.zones
  pub timers : length feeder.timers ≡ length feeder.published.version.zones
  pub polls : length feeder.polls ≡ length feeder.published.version.zones
  pub limit : length feeder.published.version.zones ≤ ZONE_LIMIT

-- who may send a NOTIFY of a zone of this primary
abbrev pub address_of : Endpoint → Option Addr
address_of at = Some at.addr

-- no transfer of a zone is under way
abbrev pub no_poll : Endpoint → Option PlainPoll
no_poll at = None

-- A feeder at its beginning: all zones are due from this second on.
abbrev pub first_feeder : List PlainPrefix → List Name → List Endpoint → Published → ℕ →
    PlainFeeder
first_feeder allowed origins primaries published second =
    record {
      allowed = allowed;
      zones = record { origins = origins; primaries = primaries };
      published = published;
      timers = first_timers (map address_of primaries) second;
      polls = map no_poll primaries;
    }
