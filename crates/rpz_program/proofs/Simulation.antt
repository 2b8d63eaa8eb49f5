-- The stage does in its state what the world of the script does.
use Rattle.std.proofs.Common.{◌≡◌, ℕ, List, Option, Some, None, Result, Ok, Err, map, refl, sym, ap, ◌∙◌}
use Rattle.std.specs.Prelude.{is_some}
use Rattle.std.proofs.lemmas.List.{length-map}
use Rattle.policy_override.specs.declared.zone_set.ZoneSet.{ZoneSet}
use Rattle.policy_override.specs.ZoneSet.{origins_in, overrides_in}
use Rattle.ip_prefix.specs.declared.Addr.{Addr}
use Rattle.ip_prefix.specs.Prefix.{PlainPrefix}
use Rattle.script_codec.specs.declared.line.Line.{Line}
use Rattle.script_codec.specs.declared.line.Line.TheVariants.{Zone, Primary, Allow, Transfer, Full, Query, Give, Fail, Notify, Due, Clock}
use Rattle.script_codec.specs.declared.line_fault.LineFault.{LineFault}
use Rattle.script_codec.specs.Line.{unnumbered_line}
use Rattle.script_codec.specs.State.{PlainState}
use Rattle.script_codec.specs.State as state
use Rattle.script_loop.specs.Abstraction.{outcome_along}
use Rattle.policy_snapshot.specs.Policy.{PlainZones}
use Rattle.policy_snapshot.proofs.Standing.{policy_length, zones_behind-none}
use Rattle.rpz_core.specs.declared.event.CoreFault.{CoreFault}
use Rattle.rpz_core.specs.declared.event.Event.{Event}
use Rattle.rpz_core.specs.declared.event.Event.TheVariants as event
use Rattle.rpz_core.specs.declared.event.Output.{Output}
use Rattle.rpz_core.specs.State.{CoreState, core_step, new_core, state_of, as_core_outcome}
use Rattle.rpz_core.specs.World.{World, world_step}
use Rattle.rpz_core.proofs.Seen as core
use Rattle.rpz_program.specs.declared.stage.Stage.TheVariants.{Running}
use Rattle.rpz_program.specs.Script.{ScriptWorld, opened, answering, start, step, shown_outcome, world_in, event_outcome, zone_outcome, network_outcome, primary_outcome, world_after_line, text_outcome}
use Rattle.rpz_program.specs.Script as script
use Rattle.rpz_program.specs.Stage.{new_stage, stage_of, core_in, stage_zone, stage_network, stage_primary, stage_event, stage_line, stage_text, stage_step}
use Rattle.rpz_program.specs.Stage as stage

pub start_seen : stage_of start ≡ new_stage
start_seen = refl

-- lines are read by the same
state_seen : (w : ScriptWorld) → stage.state_in (stage_of w) ≡ script.state_in w
state_seen (opened zones) = refl
state_seen (answering world) = ap (λ (n : ℕ). state.running n (map is_some world.sessions.workers)) (policy_length (origins_in world.settings) world.accepted ∙ length-map world.settings (λ (zone : ZoneSet). zone.origin))

new_state : List ZoneSet → List (Option Addr) → List PlainPrefix → PlainZones → CoreState
new_state settings primaries allowed zones = record (new_core settings primaries allowed) { policy = record { zones = zones; overrides = overrides_in settings; accepted = 0 } }

-- the core begins, or runs, in the state of the world
core_seen : (w : ScriptWorld) → core_in (stage_of w) ≡ state_of (world_in w)
unfolding new_state
core_seen (opened zones) = sym (ap (new_state zones.settings zones.primaries zones.allowed) (zones_behind-none (origins_in zones.settings)))
core_seen (answering world) = refl

output_seen : (r : Result (World × Output) CoreFault) → outcome_along Running (shown_outcome (as_core_outcome r)) ≡ outcome_along stage_of (outcome_along answering (shown_outcome r))
output_seen (Ok next) = refl
output_seen (Err fault) = refl

event_seen : (w : ScriptWorld) (e : Event) → stage_event (stage_of w) e ≡ outcome_along stage_of (event_outcome w e)
event_seen w e =
    ap (λ (c : CoreState). outcome_along Running (shown_outcome (core_step c e))) (core_seen w)
    ∙ ap (λ (r : Result (CoreState × Output) CoreFault). outcome_along Running (shown_outcome r)) (core.step_seen (world_in w) e)
    ∙ output_seen (world_step (world_in w) e)

zone_seen : (w : ScriptWorld) (zone : ZoneSet) → stage_zone (stage_of w) zone ≡ outcome_along stage_of (zone_outcome w zone)
zone_seen (opened zones) zone = refl
zone_seen (answering world) zone = refl

primary_seen : (w : ScriptWorld) (zone : ℕ) (address : Addr) → stage_primary (stage_of w) zone address ≡ outcome_along stage_of (primary_outcome w zone address)
primary_seen (opened zones) zone address = refl
primary_seen (answering world) zone address = refl

network_seen : (w : ScriptWorld) (network : PlainPrefix) → stage_network (stage_of w) network ≡ outcome_along stage_of (network_outcome w network)
network_seen (opened zones) network = refl
network_seen (answering world) network = refl

line_seen : (w : ScriptWorld) (line : Line) → stage_line (stage_of w) line ≡ outcome_along stage_of (world_after_line w line)
unfolding stage_line world_after_line
line_seen w (Zone origin over) = zone_seen w (record { origin = origin; over = over })
line_seen w (Primary zone address) = primary_seen w zone address
line_seen w (Allow network) = network_seen w network
line_seen w (Transfer zone stream) = event_seen w (event.Transfer zone stream)
line_seen w (Full zone) = event_seen w (event.Full zone)
line_seen w (Query worker transport client message) = event_seen w (event.Query worker transport client message)
line_seen w (Give worker message) = event_seen w (event.Give worker message)
line_seen w (Fail worker) = event_seen w (event.Fail worker)
line_seen w (Notify client message) = event_seen w (event.Notify client message)
line_seen w Due = event_seen w event.Due
line_seen w (Clock seconds) = event_seen w (event.Clock seconds)

text_seen : (w : ScriptWorld) (read : Result (Option Line) LineFault) → stage_text (stage_of w) read ≡ outcome_along stage_of (text_outcome w read)
text_seen w (Err why) = refl
text_seen w (Ok None) = refl
text_seen w (Ok (Some line)) = line_seen w line

-- each step of the stage is that of the world
pub step_seen : (w : ScriptWorld) (text : List ℕ) → stage_step (stage_of w) text ≡ outcome_along stage_of (step w text)
step_seen w text =
    ap (λ (s : PlainState). stage_text (stage_of w) (unnumbered_line text s)) (state_seen w)
    ∙ text_seen w (unnumbered_line text (script.state_in w))
