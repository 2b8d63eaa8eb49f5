-- Zones of which nothing was loaded yet, and when they are polled again.
use Rattle.std.specs.Prelude.{◌≡◌, ◌+◌, ◌&&◌, ℕ, zero, suc, Bool, true, false, List, Option, Some, None, IsSome, is_none, length, slice_get}
use Rattle.zone_rows.specs.declared.zone.PlainZone.{PlainZone}
use Rattle.notify_poll.specs.Notifying.{changed_at}
use Rattle.notify_poll.specs.Timers.{noted}
use Rattle.notify_poll.specs.declared.timer.Timer.{Timer}
use Rattle.policy_snapshot.specs.Policy.{zone_at}
use Rattle.policy_feed.specs.Feed.{PlainFeeder, PlainPoll}

-- there is a zone, of which nothing is loaded
abbrev pub is_empty_zone : Option PlainZone → Bool
is_empty_zone None = false
is_empty_zone (Some zone) = is_none zone.content

-- there is a place, and no transfer of its zone is under way
abbrev pub is_idle : Option (Option PlainPoll) → Bool
is_idle None = false
is_idle (Some poll) = is_none poll

-- nothing of the zone of this place was loaded yet, and no transfer of it is under way
abbrev pub is_missing_at : PlainFeeder → ℕ → Bool
is_missing_at feeder place =
    is_idle (slice_get feeder.polls place)
    && is_empty_zone (zone_at feeder.published.version.zones (place + 1))

-- the zone of this place is due from this second on, where it is missing
abbrev pub hastened_if : Bool → ℕ → List Timer → ℕ → List Timer
hastened_if true second timers place = changed_at (noted second) timers place
hastened_if false second timers place = timers

-- the timers, of which those of missing zones among the first so many are due from this second on
abbrev pub hastened_among : ℕ → PlainFeeder → ℕ → List Timer
hastened_among second feeder zero = feeder.timers
hastened_among second feeder (suc count) =
    hastened_if (is_missing_at feeder count) second (hastened_among second feeder count) count

-- each zone of which nothing was loaded yet, and of which no transfer is under way, is due from this second on
abbrev pub hastened : ℕ → PlainFeeder → PlainFeeder
hastened second feeder =
    record feeder { timers = hastened_among second feeder (length feeder.timers) }

-- the same, where it is to be so
abbrev pub hastened_when : Bool → ℕ → PlainFeeder → PlainFeeder
hastened_when true second feeder = hastened second feeder
hastened_when false second feeder = feeder

-- something of each zone was loaded
abbrev pub IsLoaded : PlainFeeder → Type 0
IsLoaded feeder =
    (number : ℕ) (zone : PlainZone) →
    zone_at feeder.published.version.zones number ≡ Some zone → IsSome zone.content

-- of a zone nothing was loaded yet
abbrev pub IsNotLoaded : PlainFeeder → Type 0
IsNotLoaded feeder =
    (number : ℕ) × (zone : PlainZone)
    × (zone_at feeder.published.version.zones number ≡ Some zone) × (zone.content ≡ None)
