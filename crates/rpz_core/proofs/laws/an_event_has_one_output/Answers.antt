use Rattle.rpz_core.proofs.Outputs.{step_outputs}
use Rattle.rpz_core.proofs.laws.an_event_has_one_output.Goals as goal

pub returns : goal.returns
returns c = λ w next e out. step_outputs w next e out
