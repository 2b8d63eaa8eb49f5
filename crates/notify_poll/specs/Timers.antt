-- When zones are polled: the times of their SOA records (RFC 1035, sections 3.3.13 and 4.3.5), and NOTIFY (RFC 1996).
use Rattle.std.specs.Prelude.{ℕ, ◌+◌, nat_le, max, Bool, false, List, map, Option, Some, None, position}
use Rattle.std.specs.Option.{option_map}
use Rattle.ip_prefix.specs.declared.Addr.{Addr}
use Rattle.notify_poll.specs.declared.timer.Polling.{Polling}
use Rattle.notify_poll.specs.declared.timer.Polling.TheVariants.{Done, Faulty}
use Rattle.notify_poll.specs.declared.timer.TimerStage.{TimerStage}
use Rattle.notify_poll.specs.declared.timer.TimerStage.TheVariants.{Waits, UnderWay}
use Rattle.notify_poll.specs.declared.timer.Timer.{Timer}
use Rattle.notify_poll.specs.declared.timer.TheConstants.{FIRST_RETRY, LEAST_PAUSE}

-- at the start each zone is due
abbrev pub first_timer : ℕ → Option Addr → Timer
first_timer second primary =
    record { primary = primary; stage = Waits second; retry = FIRST_RETRY }

-- All zones are due from this second on.
abbrev pub first_timers : List (Option Addr) → ℕ → List Timer
first_timers primaries second = map (first_timer second) primaries

-- No poll of the zone is under way, and its moment has come.
abbrev pub is_due_stage : ℕ → TimerStage → Bool
is_due_stage second (Waits from) = nat_le from second
is_due_stage second (UnderWay again) = false

-- No poll of the zone is under way, and its second has come.
abbrev pub is_due : ℕ → Timer → Bool
is_due second timer = is_due_stage second timer.stage

-- the first zone that is due, by its number; the first of the list is zone 1
abbrev pub due_zone : List Timer → ℕ → Option ℕ
due_zone timers second = option_map (λ place. place + 1) (position (is_due second) timers)

abbrev pub with_stage : Timer → TimerStage → Timer
with_stage timer stage = record { primary = timer.primary; stage = stage; retry = timer.retry }

-- A NOTIFY of the zone is accepted: the zone is due. While a poll is under way it waits for its end (RFC 1996, section 4.4).
abbrev pub noted_stage : ℕ → TimerStage → TimerStage
noted_stage second (Waits from) = Waits second
noted_stage second (UnderWay again) = UnderWay (Some second)

-- After an accepted NOTIFY: the zone is due at once, or after the poll that is under way (RFC 1996, section 4.4).
abbrev pub noted : ℕ → Timer → Timer
noted second timer = with_stage timer (noted_stage second timer.stage)

-- a poll of the zone begins
abbrev pub begun : Timer → Timer
begun timer = with_stage timer (UnderWay None)

-- A poll of the zone ends, and the next one is at this second, or at that of a NOTIFY that was accepted while the poll was under
-- way.
abbrev pub next_stage : ℕ → TimerStage → TimerStage
next_stage from (UnderWay (Some noted)) = Waits noted
next_stage from (UnderWay None) = Waits from
next_stage from (Waits before) = Waits from

-- the pause that a SOA record wants, a minute at the least
abbrev pub pause : ℕ → ℕ
pause seconds = max seconds LEAST_PAUSE

-- After a poll that ended at this second: the next one is due after the refresh, or, if it failed, the retry of the SOA record
-- (RFC 1035, section 3.3.13). A failed poll has none, so the retry is that of the last poll that was done.
abbrev pub after_poll : Polling → ℕ → Timer → Timer
after_poll (Done refresh retry) second timer =
    record {
      primary = timer.primary;
      stage = next_stage (second + pause refresh) timer.stage;
      retry = retry;
    }
after_poll Faulty second timer =
    with_stage timer (next_stage (second + pause timer.retry) timer.stage)
