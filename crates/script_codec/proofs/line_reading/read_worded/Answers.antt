-- What holds of a line that is read by no state holds in each state.
use Rattle.script_codec.specs.State.{state_of}
use Rattle.script_codec.proofs.line_reading.read_worded.Goals as goal

pub returns-then-eq-9-clause-within : goal.returns-then-eq-9-clause-within
returns-then-eq-9-clause-within c = c.read_notify.ensures.within (state_of c.args.state.now)

pub returns-then-eq-10-clause-within : goal.returns-then-eq-10-clause-within
returns-then-eq-10-clause-within c = c.read_due.ensures.within (state_of c.args.state.now)

pub returns-then-eq-11-clause-within : goal.returns-then-eq-11-clause-within
returns-then-eq-11-clause-within c = c.read_clock.ensures.within (state_of c.args.state.now)
