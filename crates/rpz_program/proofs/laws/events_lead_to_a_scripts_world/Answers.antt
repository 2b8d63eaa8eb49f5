use Rattle.std.proofs.Common.{[]}
use Rattle.rpz_program.specs.Opened.{no_zones}
use Rattle.rpz_program.specs.Script.{at_start, start}
use Rattle.rpz_program.proofs.Reached.{reached_events, run_reached}
use Rattle.rpz_program.proofs.laws.events_lead_to_a_scripts_world.Goals as goal

pub returns-clause-reached : goal.returns-clause-reached
returns-clause-reached c = λ lines end. run_reached [] lines (1, start) end (no_zones, [], at_start)

pub returns-clause-events : goal.returns-clause-events
returns-clause-events c = reached_events
