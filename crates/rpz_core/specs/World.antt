-- The world of the core, and what each event does to it.
use Rattle.std.specs.Prelude.{ℕ, ◌-◌, Bool, true, List, [], ◌∷◌, ◌++◌, Option, Some, None, Result, Ok, Err}
use Rattle.std.specs.Option.{unwrap_or}
use Rattle.ip_prefix.specs.declared.Addr.{Addr}
use Rattle.ip_prefix.specs.Prefix.{PlainPrefix}
use Rattle.networks.specs.Allowed.{is_allowed}
use Rattle.policy_override.specs.declared.zone_set.ZoneSet.{ZoneSet}
use Rattle.policy_override.specs.ZoneSet.{origins_in}
use Rattle.zone_rows.specs.declared.zone.PlainZone.{PlainZone}
use Rattle.policy_snapshot.specs.declared.entry.Entry.{Entry}
use Rattle.policy_snapshot.specs.Policy.{PlainPolicy, zone_at, policy_after}
use Rattle.rpz_core.specs.declared.event.CoreFault.{CoreFault}
use Rattle.rpz_core.specs.declared.event.CoreFault.TheVariants as fault
use Rattle.rpz_core.specs.declared.event.Event.{Event}
use Rattle.rpz_core.specs.declared.event.Event.TheVariants.{Transfer, Full, Query, Give, Fail, Notify, Due, Clock}
use Rattle.rpz_core.specs.declared.event.Output.{Output}
use Rattle.rpz_core.specs.declared.event.Output.TheVariants as output
use Rattle.ixfr_apply.specs.Marks.{mark_at, no_marks, with_mark}
use Rattle.ixfr_apply.specs.Offer.{Offer, takes, is_current, refuses, offer, mark_after, wanted_of}
use Rattle.notify_poll.specs.declared.notifying.Notified.{Notified}
use Rattle.notify_poll.specs.declared.notifying.Notified.TheVariants as notified
use Rattle.notify_poll.specs.declared.timer.Timer.{Timer}
use Rattle.notify_poll.specs.Notifying.{answer_to, as_notified, brought_forward, changed_at}
use Rattle.notify_poll.specs.Timers.{after_poll, due_zone, first_timers}
use Rattle.rpz_core.specs.Offer.{offer_output, polling_of}
use Rattle.rpz_core.specs.Sessions.{SessionsState, no_sessions, take_query, take_answer, take_failure}

-- The state that events change. It has the origins of the zones with the override of each, the networks whose clients may ask,
-- the accepted transfers in order, which zones are marked, so that all of them is asked for next, the timer of each zone, the
-- workers with their pending queries, what is cached, and the clock in seconds.
pub record World : Type 0 where
  pub settings : List ZoneSet
  pub allowed : List PlainPrefix
  pub accepted : List Entry
  pub marks : List Bool
  pub timers : List Timer
  pub sessions : SessionsState
  pub clock : ℕ

-- zones of these settings with these primaries, nothing of which is loaded, and the networks whose clients may ask; all zones
-- are due
abbrev pub new_world : List ZoneSet → List (Option Addr) → List PlainPrefix → World
new_world settings primaries allowed =
    record {
      settings = settings;
      allowed = allowed;
      accepted = [];
      marks = no_marks (origins_in settings);
      timers = first_timers primaries 0;
      sessions = no_sessions;
      clock = 0;
    }

-- the policy after the transfers accepted so far
abbrev pub policy_of : World → PlainPolicy
policy_of world = policy_after world.settings world.accepted

-- the accepted transfers after an offer: a transfer that is taken is one entry more; any other stream adds none
abbrev pub accepted_after : List Entry → ℕ → Offer → List Entry
accepted_after accepted number (takes transfer next) =
    accepted ++ record { zone = number; transfer = transfer } ∷ []
accepted_after accepted number (is_current theirs) = accepted
accepted_after accepted number (refuses why) = accepted

-- A stream that comes as the transfer of a zone changes the accepted transfers, the zone's mark and its timer alone.
abbrev pub world_after_offer : World → ℕ → PlainZone → Offer → World × Output
world_after_offer world number zone offered =
    let marked = mark_at world.marks number in (
      record {
        settings = world.settings;
        allowed = world.allowed;
        accepted = accepted_after world.accepted number offered;
        marks = with_mark world.marks number (mark_after marked (wanted_of marked zone.content)
            offered);
        timers = changed_at (after_poll (polling_of zone offered) world.clock) world.timers
            (number - 1);
        sessions = world.sessions;
        clock = world.clock;
      },
      offer_output number offered,
    )

abbrev pub transfer_step : World → ℕ → List ℕ → Option PlainZone → Result (World × Output) CoreFault
transfer_step world number stream None = Err fault.NoZone
transfer_step world number stream (Some zone) =
    Ok (world_after_offer world number zone (offer 0 (mark_at world.marks number) zone stream))

-- a zone is marked
abbrev pub full_step : World → ℕ → Option PlainZone → Result (World × Output) CoreFault
full_step world number None = Err fault.NoZone
full_step world number (Some zone) =
    Ok (
      record {
        settings = world.settings;
        allowed = world.allowed;
        accepted = world.accepted;
        marks = with_mark world.marks number true;
        timers = world.timers;
        sessions = world.sessions;
        clock = world.clock;
      },
      output.None,
    )

abbrev pub with_sessions : World → Result (SessionsState × Output) CoreFault →
    Result (World × Output) CoreFault
with_sessions world (Ok next) =
    Ok (
      record {
        settings = world.settings;
        allowed = world.allowed;
        accepted = world.accepted;
        marks = world.marks;
        timers = world.timers;
        sessions = next.0;
        clock = world.clock;
      },
      next.1,
    )
with_sessions world (Err fault) = Err fault

-- it is so many seconds, which may be fewer than before
abbrev pub clock_step : World → ℕ → World × Output
clock_step world seconds = (
  record {
    settings = world.settings;
    allowed = world.allowed;
    accepted = world.accepted;
    marks = world.marks;
    timers = world.timers;
    sessions = world.sessions;
    clock = seconds;
  },
  output.None,
)

-- the same world with these timers
abbrev pub with_timers : World → List Timer → World
with_timers world timers =
    record {
      settings = world.settings;
      allowed = world.allowed;
      accepted = world.accepted;
      marks = world.marks;
      timers = timers;
      sessions = world.sessions;
      clock = world.clock;
    }

-- what is output where a message that came as a NOTIFY is answered so
abbrev pub notified_output : Notified → Output
notified_output (notified.Reply octets) = output.Notified octets
notified_output notified.Silent = output.Hush

-- A message that comes as a NOTIFY changes the timer alone of the zone that it brings forward, if it names one.
abbrev pub notify_step : World → Addr → List ℕ → World × Output
notify_step world client message =
    let may_ask = is_allowed world.allowed client in
    let answer = answer_to may_ask message client (origins_in world.settings) world.timers in (
      with_timers world (brought_forward world.clock world.timers answer.1),
      notified_output (as_notified answer.0),
    )

-- The world after an event, and what it outputs; or why it is refused. A stream is a transfer that is taken, or names its
-- fault and changes nothing but the zone's mark and its timer. A query of a client that may not ask is refused. Another one is
-- answered by the policy after the transfers accepted so far, which it keeps while it is pending; live entries of the cache answer
-- before the upstream is asked, and what it answers is cached. Full marks its zone. Notify is answered, and may bring a zone forward. Due names the first zone that is due, or 0. Clock
-- tells the second.
unfoldable pub world_step : World → Event → Result (World × Output) CoreFault
world_step world (Transfer number stream) =
    transfer_step world number stream (zone_at (policy_of world).zones number)
world_step world (Full number) = full_step world number (zone_at (policy_of world).zones number)
world_step world (Query worker transport client message) =
    with_sessions world
    (take_query world.clock world.sessions (policy_of world) (is_allowed world.allowed client)
    worker transport client message)
world_step world (Give worker message) =
    with_sessions world (take_answer world.clock world.sessions worker message)
world_step world (Fail worker) =
    with_sessions world (take_failure world.clock world.sessions worker)
world_step world (Notify client message) = Ok (notify_step world client message)
world_step world Due =
    Ok (world, output.Due (unwrap_or (due_zone world.timers world.clock) 0))
world_step world (Clock seconds) = Ok (clock_step world seconds)
