use Rattle.rpz_core.proofs.Refusals.{refused_by_state}
use Rattle.rpz_core.proofs.laws.an_event_is_refused_by_its_state.Goals as goal

pub returns : goal.returns
returns c = refused_by_state
