-- What happens to timers over time, the latest first.
use Rattle.std.specs.Prelude.{◌≡◌, ℕ, ◌+◌, ◌==◌, Bool, true, false, List, [], ◌∷◌, filter, position, slice_get, Some}
use Rattle.dns_name.specs.Labels.{Name}
use Rattle.dns_name.specs.Alike.{same_name}
use Rattle.dns_record.specs.declared.rtype.TheConstants.{SOA}
use Rattle.dns_record.specs.declared.class.TheConstants.{IN}
use Rattle.dns_message.specs.Reading.{header_in, message_of}
use Rattle.dns_message.specs.Request.{QueryParts, has_later_version, query_parts_in, speaks_in}
use Rattle.ip_prefix.specs.declared.Addr.{Addr}
use Rattle.notify_poll.specs.declared.notifying.TheConstants.{NOTIFY}
use Rattle.notify_poll.specs.declared.timer.Polling.{Polling}
use Rattle.notify_poll.specs.declared.timer.Polling.TheVariants.{Done, Faulty}
use Rattle.notify_poll.specs.declared.timer.Timer.{Timer}
use Rattle.notify_poll.specs.declared.timer.TheConstants.{FIRST_RETRY}
use Rattle.notify_poll.specs.Notifying.{changed_at, is_from_primary}
use Rattle.notify_poll.specs.Timers.{after_poll, begun, noted, pause}

-- What happens to the timer of a zone: a NOTIFY, the beginning or the end of a poll.
pub data PollEvent : Type 0 where
  -- a NOTIFY of it is accepted at this second
  Notice : (place second : ℕ) → PollEvent
  -- a poll of it begins
  Begin : (place : ℕ) → PollEvent
  -- a poll of it ends at this second, or is made in no time
  End : (place : ℕ) (polling : Polling) (second : ℕ) → PollEvent

abbrev pub place_of : PollEvent → ℕ
place_of (Notice place second) = place
place_of (Begin place) = place
place_of (End place polling second) = place

-- what an event does to the timer of its zone
abbrev pub timer_behind : PollEvent → Timer → Timer
timer_behind (Notice place second) timer = noted second timer
timer_behind (Begin place) timer = begun timer
timer_behind (End place polling second) timer = after_poll polling second timer

-- all timers after these events
abbrev pub timers_after : List Timer → List PollEvent → List Timer
timers_after timers [] = timers
timers_after timers (event ∷ earlier) =
    changed_at (timer_behind event) (timers_after timers earlier) (place_of event)

-- one timer after these events, all of which are about its zone
abbrev pub timer_after : Timer → List PollEvent → Timer
timer_after timer [] = timer
timer_after timer (event ∷ earlier) = timer_behind event (timer_after timer earlier)

-- the events about the zone of a place
abbrev pub about : ℕ → List PollEvent → List PollEvent
about place events = filter (λ event. place_of event == place) events

-- the retry of the last poll that was done, of events about one zone
abbrev pub retry_after : List PollEvent → ℕ
retry_after [] = FIRST_RETRY
retry_after (Notice place second ∷ earlier) = retry_after earlier
retry_after (Begin place ∷ earlier) = retry_after earlier
retry_after (End place (Done refresh retry) second ∷ earlier) = retry
retry_after (End place Faulty second ∷ earlier) = retry_after earlier

-- When a zone is polled next whose polls are made in no time, by the last event about it: at the second of an accepted NOTIFY; a
-- refresh after a poll that was done; after one that failed the retry of the last one that was done, or FIRST_RETRY where none was.
abbrev pub moment_after : ℕ → List PollEvent → ℕ
moment_after start [] = start
moment_after start (Notice place second ∷ earlier) = second
moment_after start (Begin place ∷ earlier) = moment_after start earlier
moment_after start (End place (Done refresh retry) second ∷ earlier) = second + pause refresh
moment_after start (End place Faulty second ∷ earlier) = second + pause (retry_after earlier)

-- no poll takes time
abbrev pub is_at_once : PollEvent → Bool
is_at_once (Notice place second) = true
is_at_once (Begin place) = false
is_at_once (End place polling second) = true

-- These bytes are a NOTIFY for the SOA record of a zone's origin, from the zone's primary (RFC 1996, sections 3.7 and 3.10).
pub record IsNotifyOf (bytes : List ℕ) (client : Addr) (origins : List Name) (timers : List Timer)
    (place : ℕ) : Type 0 where
  pub is_request : speaks_in bytes ≡ true
  pub is_notify : (header_in bytes).opcode ≡ NOTIFY
  pub asked : QueryParts
  pub asks : query_parts_in (message_of bytes) ≡ Some asked
  pub is_for_soa : asked.0.qtype ≡ SOA
  pub is_of_class : asked.0.qclass ≡ IN
  pub origin : Name
  pub is_origin : slice_get origins place ≡ Some origin
  pub is_named : same_name asked.0.name origin ≡ true
  pub is_from : is_from_primary (slice_get timers place) client ≡ true

-- it is served, and the zone is the first of the list that has the origin
pub record IsFirstNotifyOf (bytes : List ℕ) (client : Addr) (origins : List Name)
    (timers : List Timer) (place : ℕ) : Type 0 where
  pub of : IsNotifyOf bytes client origins timers place
  pub is_served : has_later_version of.asked.1 ≡ false
  pub is_first : position (same_name of.asked.0.name) origins ≡ Some place
