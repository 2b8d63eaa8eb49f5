use Rattle.rpz_program.proofs.RunSteps.{ends_along, prefix_along}
use Rattle.rpz_program.proofs.replaying.replay_script.Goals as goal

pub returns-clause-ends : goal.returns-clause-ends
returns-clause-ends g c = ends_along c.replay.result c.replay.new.machine _ _ _ _ (rw c.new-stage.ensures at c.replay.ensures.ends)

pub returns-clause-prefix : goal.returns-clause-prefix
returns-clause-prefix g c = prefix_along _ _ _ _ (rw c.new-stage.ensures at c.replay.ensures.prefix)
