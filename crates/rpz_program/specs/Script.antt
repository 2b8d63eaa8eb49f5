-- The world of a script, and what its lines do to it.
use Rattle.std.specs.Prelude.{◌≡◌, ℕ, List, [], ◌∷◌, ◌++◌, length, map, Option, Some, None, is_some, Result, Ok, Err}
use Rattle.ip_prefix.specs.declared.Addr.{Addr}
use Rattle.ip_prefix.specs.Prefix.{PlainPrefix}
use Rattle.policy_override.specs.declared.zone_set.ZoneSet.{ZoneSet}
use Rattle.policy_override.specs.ZoneSet.{origins_in}
use Rattle.script_codec.specs.declared.line.Line.{Line}
use Rattle.script_codec.specs.declared.line.Line.TheVariants.{Zone, Primary, Allow, Transfer, Full, Query, Give, Fail, Notify, Due, Clock}
use Rattle.script_codec.specs.declared.shown.Shown.{Shown}
use Rattle.script_codec.specs.declared.shown.Shown.TheVariants as shown
use Rattle.script_codec.specs.declared.line_fault.LineFault.{LineFault}
use Rattle.script_codec.specs.declared.line_fault.LineFault.TheVariants as why
use Rattle.script_codec.specs.declared.zone_fault.ZoneFault.{ZoneFault}
use Rattle.script_codec.specs.declared.zone_fault.ZoneFault.TheVariants as zone_fault
use Rattle.script_codec.specs.Line.{unnumbered_line}
use Rattle.script_codec.specs.Shown.{shown_line}
use Rattle.script_codec.specs.State.{PlainState}
use Rattle.script_codec.specs.State as state
use Rattle.rpz_core.specs.declared.event.CoreFault.{CoreFault}
use Rattle.rpz_core.specs.declared.event.CoreFault.TheVariants as fault
use Rattle.rpz_core.specs.declared.event.Event.{Event}
use Rattle.rpz_core.specs.declared.event.Event.TheVariants as event
use Rattle.rpz_core.specs.declared.event.Output.{Output}
use Rattle.rpz_core.specs.declared.event.Output.TheVariants as output
use Rattle.ixfr_apply.specs.declared.refusal.Refusal.{Refusal}
use Rattle.ixfr_apply.specs.declared.refusal.Refusal.TheVariants as refusal
use Rattle.query_session.specs.Session.{said_outside}
use Rattle.rpz_core.specs.Sessions.{said_output}
use Rattle.rpz_core.specs.World.{World, new_world, world_step}
use Rattle.script_loop.specs.Abstraction.{outcome_along}
use Rattle.script_loop.specs.Fold as fold
use Rattle.rpz_program.specs.Opened.{OpenZones, no_zones, with_network, with_primary, with_open_zone}

-- The zones that were opened so far, and from the first event on the world of the core. Zones are opened, with their primaries
-- and who may ask, as long as all lines are zone lines, primary lines and allow lines.
pub data ScriptWorld : Type 0 where
  opened : OpenZones → ScriptWorld
  answering : World → ScriptWorld

-- Where a script begins: no zones are opened.
abbrev pub start : ScriptWorld
start = opened no_zones

-- what lines are read by: how many zones there are, and which workers have a pending query
abbrev pub state_in : ScriptWorld → PlainState
state_in (opened zones) =
    state.opening (origins_in zones.settings) zones.primaries zones.allowed
state_in (answering world) = state.running (length world.settings) (map is_some world.sessions.workers)

-- the world of the core, which begins with the zones that were opened
abbrev pub world_in : ScriptWorld → World
world_in (opened zones) = new_world zones.settings zones.primaries zones.allowed
world_in (answering world) = world

-- the event that a line is; a zone line, a primary line and an allow line are none
abbrev pub event_of : Line → Option Event
event_of (Zone origin over) = None
event_of (Primary zone address) = None
event_of (Allow network) = None
event_of (Transfer zone stream) = Some (event.Transfer zone stream)
event_of (Full zone) = Some (event.Full zone)
event_of (Query worker transport client message) =
    Some (event.Query worker transport client message)
event_of (Give worker message) = Some (event.Give worker message)
event_of (Fail worker) = Some (event.Fail worker)
event_of (Notify client message) = Some (event.Notify client message)
event_of Due = Some event.Due
event_of (Clock seconds) = Some (event.Clock seconds)

-- the event that what was read of a line is
abbrev pub event_read : Result (Option Line) LineFault → Option Event
event_read (Err why) = None
event_read (Ok None) = None
event_read (Ok (Some line)) = event_of line

-- a core that refuses an event refuses its line
abbrev pub why_of : CoreFault → LineFault
why_of fault.NoZone = why.NoZone
why_of fault.NoWorker = why.NoWorker
why_of fault.Pending = why.Busy
why_of fault.NotPending = why.Idle

abbrev pub zone_fault_of : Refusal → ZoneFault
zone_fault_of (refusal.Transfer fault) = zone_fault.Transfer fault
zone_fault_of (refusal.Apply fault) = zone_fault.Apply fault

-- what the transcript shows of an output
abbrev pub shown_of : Output → Option Shown
shown_of (output.Taken zone serial rows) = Some (shown.Taken zone serial rows)
shown_of (output.Current zone serial) = Some (shown.Current zone serial)
shown_of (output.Refused zone refusal) = Some (shown.Refused zone (zone_fault_of refusal))
shown_of (output.Ask worker message) = Some (shown.Ask worker message)
shown_of (output.Reply worker message) = Some (shown.Reply worker message)
shown_of (output.Silent worker) = Some (shown.Silent worker)
shown_of (output.Notified message) = Some (shown.Notified message)
shown_of output.Hush = Some shown.Hush
shown_of (output.Due zone) = Some (shown.Due zone)
shown_of output.None = None

abbrev pub shown_octets : Option Shown → List ℕ
shown_octets None = []
shown_octets (Some s) = shown_line s

-- what is written of a query of a client that may not ask: REFUSED or silence, by its message alone
abbrev pub line_outside : ℕ → List ℕ → List ℕ
line_outside worker message = shown_octets (shown_of (said_output worker (said_outside message)))

-- a step of the core as a line of the transcript, or why its line is refused
abbrev pub shown_outcome : {S : Type 0} → Result (S × Output) CoreFault →
    Result (S × List ℕ) LineFault
shown_outcome (Ok next) = Ok (next.0, shown_octets (shown_of next.1))
shown_outcome (Err fault) = Err (why_of fault)

-- a zone is opened, before the first event
abbrev pub zone_outcome : ScriptWorld → ZoneSet → Result (ScriptWorld × List ℕ) LineFault
zone_outcome (opened zones) zone = Ok (opened (with_open_zone zones zone), [])
zone_outcome (answering world) zone = Err why.Late

-- a zone is given its primary, before the first event
abbrev pub primary_outcome : ScriptWorld → ℕ → Addr → Result (ScriptWorld × List ℕ) LineFault
primary_outcome (opened zones) zone address = Ok (opened (with_primary zones zone address), [])
primary_outcome (answering world) zone address = Err why.Late

-- the clients of a network may ask, before the first event
abbrev pub network_outcome : ScriptWorld → PlainPrefix → Result (ScriptWorld × List ℕ) LineFault
network_outcome (opened zones) network = Ok (opened (with_network zones network), [])
network_outcome (answering world) network = Err why.Late

-- any other line is an event of the core
abbrev pub event_outcome : ScriptWorld → Event → Result (ScriptWorld × List ℕ) LineFault
event_outcome world event =
    outcome_along answering (shown_outcome (world_step (world_in world) event))

-- the world after a line, and what the line writes; or why it is refused
unfoldable pub world_after_line : ScriptWorld → Line → Result (ScriptWorld × List ℕ) LineFault
world_after_line world (Zone origin over) =
    zone_outcome world (record { origin = origin; over = over })
world_after_line world (Primary zone address) = primary_outcome world zone address
world_after_line world (Allow network) = network_outcome world network
world_after_line world (Transfer zone stream) = event_outcome world (event.Transfer zone stream)
world_after_line world (Full zone) = event_outcome world (event.Full zone)
world_after_line world (Query worker transport client message) =
    event_outcome world (event.Query worker transport client message)
world_after_line world (Give worker message) = event_outcome world (event.Give worker message)
world_after_line world (Fail worker) = event_outcome world (event.Fail worker)
world_after_line world (Notify client message) =
    event_outcome world (event.Notify client message)
world_after_line world Due = event_outcome world event.Due
world_after_line world (Clock seconds) = event_outcome world (event.Clock seconds)

-- the same of the bytes of a line: nothing where it is skipped
abbrev pub text_outcome : ScriptWorld → Result (Option Line) LineFault →
    Result (ScriptWorld × List ℕ) LineFault
text_outcome world (Err why) = Err why
text_outcome world (Ok None) = Ok (world, [])
text_outcome world (Ok (Some line)) = world_after_line world line

-- What a line does to this world and what it writes, or why it is refused, by its bytes.
abbrev pub step : ScriptWorld → List ℕ → Result (ScriptWorld × List ℕ) LineFault
step world text = text_outcome world (unnumbered_line text (state_in world))

-- why a line is refused whatever it says
abbrev pub too_many : LineFault
too_many = why.Lines

-- And of a line over the limit of octets.
abbrev pub too_long : LineFault
too_long = why.TooLong

-- The transcript of a script: what its lines write from the start on, up to the first that is refused.
abbrev pub script_transcript : List ℕ → List ℕ
script_transcript script = fold.transcript too_many too_long step start script

-- the world after a script, or the number of the first line that is refused, and why
abbrev pub script_verdict : List ℕ → Result (ℕ × ScriptWorld) (ℕ × LineFault)
script_verdict script = fold.verdict too_many too_long step start script

-- the zones that are open, or were when the first event came
abbrev pub zones_opened : ScriptWorld → OpenZones → OpenZones
zones_opened (opened zones) before = zones
zones_opened (answering world) before = before

-- events with one more, the last one first
abbrev pub with_event : Option Event → List Event → List Event
with_event None events = events
with_event (Some event) events = event ∷ events

-- The worlds that lines of scripts lead to, with the zones that these lines opened, and the events that they are, the last one first.
pub data IsReached : List (List ℕ) → OpenZones → List Event → ScriptWorld → Type 0 where
  at_start : IsReached [] no_zones [] start
  after_line : (lines more : List (List ℕ)) (zones after : OpenZones) (events all : List Event)
      (world next : ScriptWorld) (text out : List ℕ) → IsReached lines zones events world
      → step world text ≡ Ok (next, out) → more ≡ lines ++ text ∷ []
      → after ≡ zones_opened next zones
      → all ≡ with_event (event_read (unnumbered_line text (state_in world))) events
      → IsReached more after all next
