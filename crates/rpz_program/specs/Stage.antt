-- How far a script is in code, which sees of the accepted transfers the policy that they make, and what its lines do.
use Rattle.std.specs.Prelude.{ℕ, List, [], length, map, Option, Some, None, is_some, Result, Ok, Err}
use Rattle.ip_prefix.specs.declared.Addr.{Addr}
use Rattle.ip_prefix.specs.Prefix.{PlainPrefix}
use Rattle.policy_override.specs.declared.zone_set.ZoneSet.{ZoneSet}
use Rattle.policy_override.specs.ZoneSet.{origins_in}
use Rattle.script_codec.specs.declared.line.Line.{Line}
use Rattle.script_codec.specs.declared.line.Line.TheVariants.{Zone, Primary, Allow, Transfer, Full, Query, Give, Fail, Notify, Due, Clock}
use Rattle.script_codec.specs.declared.line_fault.LineFault.{LineFault}
use Rattle.script_codec.specs.declared.line_fault.LineFault.TheVariants as why
use Rattle.script_codec.specs.Line.{unnumbered_line}
use Rattle.script_codec.specs.State.{PlainState}
use Rattle.script_codec.specs.State as state
use Rattle.script_loop.specs.Abstraction.{outcome_along}
use Rattle.rpz_core.specs.declared.event.Event.{Event}
use Rattle.rpz_core.specs.declared.event.Event.TheVariants as event
use Rattle.rpz_core.specs.State.{CoreState, core_step, new_core, state_of}
use Rattle.rpz_program.specs.Opened.{no_zones, with_network, with_primary, with_open_zone}
use Rattle.rpz_program.specs.declared.stage.Stage.{Stage}
use Rattle.rpz_program.specs.declared.stage.Stage.TheVariants.{Opening, Running}
use Rattle.rpz_program.specs.Script.{ScriptWorld, opened, answering, shown_outcome}

abbrev pub new_stage : Stage
new_stage = Opening no_zones

-- the stage of a script's world
abbrev pub stage_of : ScriptWorld → Stage
stage_of (opened zones) = Opening zones
stage_of (answering world) = Running (state_of world)

abbrev pub state_in : Stage → PlainState
state_in (Opening zones) =
    state.opening (origins_in zones.settings) zones.primaries zones.allowed
state_in (Running core) =
    state.running (length core.policy.zones) (map is_some core.sessions.workers)

abbrev pub core_in : Stage → CoreState
core_in (Opening zones) = new_core zones.settings zones.primaries zones.allowed
core_in (Running core) = core

abbrev pub stage_zone : Stage → ZoneSet → Result (Stage × List ℕ) LineFault
stage_zone (Opening zones) zone = Ok (Opening (with_open_zone zones zone), [])
stage_zone (Running core) zone = Err why.Late

abbrev pub stage_primary : Stage → ℕ → Addr → Result (Stage × List ℕ) LineFault
stage_primary (Opening zones) zone address = Ok (Opening (with_primary zones zone address), [])
stage_primary (Running core) zone address = Err why.Late

abbrev pub stage_network : Stage → PlainPrefix → Result (Stage × List ℕ) LineFault
stage_network (Opening zones) network = Ok (Opening (with_network zones network), [])
stage_network (Running core) network = Err why.Late

abbrev pub stage_event : Stage → Event → Result (Stage × List ℕ) LineFault
stage_event stage event = outcome_along Running (shown_outcome (core_step (core_in stage) event))

unfoldable pub stage_line : Stage → Line → Result (Stage × List ℕ) LineFault
stage_line stage (Zone origin over) =
    stage_zone stage (record { origin = origin; over = over })
stage_line stage (Primary zone address) = stage_primary stage zone address
stage_line stage (Allow network) = stage_network stage network
stage_line stage (Transfer zone stream) = stage_event stage (event.Transfer zone stream)
stage_line stage (Full zone) = stage_event stage (event.Full zone)
stage_line stage (Query worker transport client message) =
    stage_event stage (event.Query worker transport client message)
stage_line stage (Give worker message) = stage_event stage (event.Give worker message)
stage_line stage (Fail worker) = stage_event stage (event.Fail worker)
stage_line stage (Notify client message) = stage_event stage (event.Notify client message)
stage_line stage Due = stage_event stage event.Due
stage_line stage (Clock seconds) = stage_event stage (event.Clock seconds)

abbrev pub stage_text : Stage → Result (Option Line) LineFault → Result (Stage × List ℕ) LineFault
stage_text stage (Err why) = Err why
stage_text stage (Ok None) = Ok (stage, [])
stage_text stage (Ok (Some line)) = stage_line stage line

abbrev pub stage_step : Stage → List ℕ → Result (Stage × List ℕ) LineFault
stage_step stage text = stage_text stage (unnumbered_line text (state_in stage))
