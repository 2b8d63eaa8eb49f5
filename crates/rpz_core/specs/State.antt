-- The state of the core in code, which sees of the accepted transfers the policy that they make, and what each event does to it.
use Rattle.std.specs.Prelude.{◌≡◌, ℕ, ◌-◌, Bool, true, List, length, Option, Some, None, Result, Ok, Err, slice_set}
use Rattle.std.specs.Option.{unwrap_or}
use Rattle.std.specs.declared.alloc.AllocError.{AllocError}
use Rattle.dns_name.specs.Labels.{Name}
use Rattle.ip_prefix.specs.declared.Addr.{Addr}
use Rattle.ip_prefix.specs.Prefix.{PlainPrefix}
use Rattle.networks.specs.Allowed.{is_allowed}
use Rattle.policy_override.specs.declared.zone_set.ZoneSet.{ZoneSet}
use Rattle.policy_override.specs.ZoneSet.{origins_in, overrides_in}
use Rattle.zone_rows.specs.declared.zone.PlainZone.{PlainZone}
use Rattle.policy_snapshot.specs.Policy.{zone_at}
use Rattle.policy_snapshot.specs.Stands.{PlainSnapshot, count_of, new_snapshot, next_count, policy_in}
use Rattle.rpz_core.specs.declared.event.CoreError.{CoreError}
use Rattle.rpz_core.specs.declared.event.CoreError.TheVariants as errors
use Rattle.rpz_core.specs.declared.event.CoreFault.{CoreFault}
use Rattle.rpz_core.specs.declared.event.CoreFault.TheVariants as fault
use Rattle.rpz_core.specs.declared.event.Event.{Event}
use Rattle.rpz_core.specs.declared.event.Event.TheVariants as event
use Rattle.rpz_core.specs.declared.event.Output.{Output}
use Rattle.rpz_core.specs.declared.event.Output.TheVariants as output
use Rattle.ixfr_apply.specs.Marks.{mark_at, no_marks, with_mark}
use Rattle.ixfr_apply.specs.Offer.{Offer, takes, is_current, refuses, offer, mark_after, wanted_of}
use Rattle.notify_poll.specs.declared.timer.Timer.{Timer}
use Rattle.notify_poll.specs.Notifying.{answer_to, as_notified, brought_forward, changed_at}
use Rattle.notify_poll.specs.Timers.{after_poll, due_zone, first_timers}
use Rattle.rpz_core.specs.Offer.{offer_output, polling_of}
use Rattle.rpz_core.specs.Sessions.{PendingQuery, SessionsState, with_worker, no_sessions, uncached, take_query, take_answer, take_failure}
use Rattle.rpz_core.specs.World.{World, notified_output, policy_of}

pub record CoreState : Type 0 where
  pub origins : List Name
  pub allowed : List PlainPrefix
  pub policy : PlainSnapshot
  pub marks : List Bool
  pub timers : List Timer
  pub sessions : SessionsState
  pub clock : ℕ

abbrev pub new_core : List ZoneSet → List (Option Addr) → List PlainPrefix → CoreState
new_core settings primaries allowed =
    record {
      origins = origins_in settings;
      allowed = allowed;
      policy = new_snapshot settings;
      marks = no_marks (origins_in settings);
      timers = first_timers primaries 0;
      sessions = no_sessions;
      clock = 0;
    }

-- the state of the core in a world
abbrev pub state_of : World → CoreState
state_of world =
    record {
      origins = origins_in world.settings;
      allowed = world.allowed;
      policy =
          record {
            zones = (policy_of world).zones;
            overrides = overrides_in world.settings;
            accepted = count_of (length world.accepted);
          };
      marks = world.marks;
      timers = world.timers;
      sessions = world.sessions;
      clock = world.clock;
    }

abbrev pub with_zone : PlainSnapshot → ℕ → PlainZone → PlainSnapshot
with_zone policy number zone =
    record {
      zones = slice_set policy.zones (number - 1) zone;
      overrides = policy.overrides;
      accepted = next_count policy.accepted;
    }

-- the policy after an offer to the zone of this number
abbrev pub policy_by_offer : PlainSnapshot → ℕ → Offer → PlainSnapshot
policy_by_offer policy number (takes transfer next) = with_zone policy number next
policy_by_offer policy number (is_current theirs) = policy
policy_by_offer policy number (refuses why) = policy

abbrev pub core_after_offer : CoreState → ℕ → PlainZone → Offer → CoreState × Output
core_after_offer core number zone offered =
    let marked = mark_at core.marks number in (
      record {
        origins = core.origins;
        allowed = core.allowed;
        policy = policy_by_offer core.policy number offered;
        marks = with_mark core.marks number (mark_after marked (wanted_of marked zone.content)
            offered);
        timers = changed_at (after_poll (polling_of zone offered) core.clock) core.timers
            (number - 1);
        sessions = core.sessions;
        clock = core.clock;
      },
      offer_output number offered,
    )

abbrev pub transfer_step : CoreState → ℕ → List ℕ → Option PlainZone →
    Result (CoreState × Output) CoreFault
transfer_step core number stream None = Err fault.NoZone
transfer_step core number stream (Some zone) =
    Ok (core_after_offer core number zone (offer 0 (mark_at core.marks number) zone stream))

abbrev pub full_step : CoreState → ℕ → Option PlainZone → Result (CoreState × Output) CoreFault
full_step core number None = Err fault.NoZone
full_step core number (Some zone) =
    Ok (
      record {
        origins = core.origins;
        allowed = core.allowed;
        policy = core.policy;
        marks = with_mark core.marks number true;
        timers = core.timers;
        sessions = core.sessions;
        clock = core.clock;
      },
      output.None,
    )

abbrev pub with_sessions : CoreState → Result (SessionsState × Output) CoreFault →
    Result (CoreState × Output) CoreFault
with_sessions core (Ok next) =
    Ok (
      record {
        origins = core.origins;
        allowed = core.allowed;
        policy = core.policy;
        marks = core.marks;
        timers = core.timers;
        sessions = next.0;
        clock = core.clock;
      },
      next.1,
    )
with_sessions core (Err fault) = Err fault

abbrev pub clock_step : CoreState → ℕ → CoreState × Output
clock_step core seconds = (
  record {
    origins = core.origins;
    allowed = core.allowed;
    policy = core.policy;
    marks = core.marks;
    timers = core.timers;
    sessions = core.sessions;
    clock = seconds;
  },
  output.None,
)

abbrev pub notify_step : CoreState → Addr → List ℕ → CoreState × Output
notify_step core client message =
    let may_ask = is_allowed core.allowed client in
    let answer = answer_to may_ask message client core.origins core.timers in (
      record {
        origins = core.origins;
        allowed = core.allowed;
        policy = core.policy;
        marks = core.marks;
        timers = brought_forward core.clock core.timers answer.1;
        sessions = core.sessions;
        clock = core.clock;
      },
      notified_output (as_notified answer.0),
    )

unfoldable pub core_step : CoreState → Event → Result (CoreState × Output) CoreFault
core_step core (event.Transfer number stream) =
    transfer_step core number stream (zone_at core.policy.zones number)
core_step core (event.Full number) = full_step core number (zone_at core.policy.zones number)
core_step core (event.Query worker transport client message) =
    with_sessions core
    (take_query core.clock core.sessions (policy_in core.policy) (is_allowed core.allowed client)
    worker transport client message)
core_step core (event.Give worker message) =
    with_sessions core (take_answer core.clock core.sessions worker message)
core_step core (event.Fail worker) =
    with_sessions core (take_failure core.clock core.sessions worker)
core_step core (event.Notify client message) = Ok (notify_step core client message)
core_step core event.Due =
    Ok (core, output.Due (unwrap_or (due_zone core.timers core.clock) 0))
core_step core (event.Clock seconds) = Ok (clock_step core seconds)

-- the same with an empty cache
abbrev pub uncached_core : CoreState → CoreState
uncached_core core =
    record {
      origins = core.origins;
      allowed = core.allowed;
      policy = core.policy;
      marks = core.marks;
      timers = core.timers;
      sessions = uncached core.sessions;
      clock = core.clock;
    }

-- What a step did: what the definition gives. After a fault the state is as it was. Out of memory, the cache is empty, which gives
-- memory back, and all else is as it was.
abbrev pub Steps : Result (CoreState × Output) CoreFault → Result Output CoreError → CoreState →
    CoreState → Type 0
Steps gives (Ok out) old new = gives ≡ Ok (new, out)
Steps gives (Err (errors.Fault fault)) old new = (gives ≡ Err fault) × (new ≡ old)
Steps gives (Err errors.OutOfMemory) old new = new ≡ uncached_core old

-- The same of a part of a step, which out of memory leaves what `bare` keeps of the state.
abbrev pub StepsBare : {S : Type 0} → (S → S) → Result (S × Output) CoreFault →
    Result Output CoreError → S → S → Type 0
StepsBare bare gives (Ok out) old new = gives ≡ Ok (new, out)
StepsBare bare gives (Err (errors.Fault fault)) old new = (gives ≡ Err fault) × (new ≡ old)
StepsBare bare gives (Err errors.OutOfMemory) old new = bare new ≡ bare old

-- The same of a part that has no fault.
abbrev pub TurnsBare : {S : Type 0} → (S → S) → S × Output → Result Output AllocError → S → S →
    Type 0
TurnsBare bare gives (Ok out) old new = gives ≡ (new, out)
TurnsBare bare gives (Err e) old new = bare new ≡ bare old

-- The same of a pending query that was taken out of its worker's place: an error puts it back.
abbrev pub TurnsOrPutsBack : ℕ → PendingQuery → SessionsState × Output → Result Output AllocError →
    SessionsState → SessionsState → Type 0
TurnsOrPutsBack worker pending gives (Ok out) old new = gives ≡ (new, out)
TurnsOrPutsBack worker pending gives (Err e) old new =
    uncached new ≡ uncached (with_worker old worker (Some pending) old.last_id)

-- the world after a step, seen as the state of the core
abbrev pub as_core_outcome : Result (World × Output) CoreFault →
    Result (CoreState × Output) CoreFault
as_core_outcome (Ok next) = Ok (state_of next.0, next.1)
as_core_outcome (Err fault) = Err fault
