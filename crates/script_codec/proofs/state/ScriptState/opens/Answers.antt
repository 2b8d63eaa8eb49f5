-- What holds of zones whatever their primaries are and whoever may ask holds with these.
use Rattle.script_codec.proofs.state.ScriptState.opens.Goals as goal

pub returns-in-Opening-clause-exact : goal.returns-in-Opening-clause-exact
returns-in-Opening-clause-exact c = rw c.in-Opening.is (c.admits.ensures.exact c.in-Opening.primaries.now c.in-Opening.allowed.now)

pub returns-in-Opening-clause-within : goal.returns-in-Opening-clause-within
returns-in-Opening-clause-within c = rw c.in-Opening.is (c.admits.ensures.within c.in-Opening.primaries.now c.in-Opening.allowed.now)
