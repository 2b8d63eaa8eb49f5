use Rattle.rpz_core.proofs.Outputs.{step_keeps}
use Rattle.rpz_core.proofs.laws.an_event_keeps_the_zones_and_the_workers.Goals as goal

pub returns-clause-settings : goal.returns-clause-settings
returns-clause-settings c = λ w next e out is. (step_keeps w next e out is).settings

pub returns-clause-allowed : goal.returns-clause-allowed
returns-clause-allowed c = λ w next e out is. (step_keeps w next e out is).allowed

pub returns-clause-workers : goal.returns-clause-workers
returns-clause-workers c = λ w next e out is. (step_keeps w next e out is).workers

pub returns-clause-marks : goal.returns-clause-marks
returns-clause-marks c = λ w next e out is. (step_keeps w next e out is).marks

pub returns-clause-timers : goal.returns-clause-timers
returns-clause-timers c = λ w next e out is. (step_keeps w next e out is).timers
