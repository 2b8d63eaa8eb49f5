use Rattle.rpz_core.proofs.Seen.{step_seen}
use Rattle.rpz_core.proofs.laws.the_core_does_what_the_world_does.Goals as goal

pub returns : goal.returns
returns c = step_seen
