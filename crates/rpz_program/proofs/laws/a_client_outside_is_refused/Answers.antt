use Rattle.rpz_program.proofs.Reached.{query_outside}
use Rattle.rpz_program.proofs.laws.a_client_outside_is_refused.Goals as goal

pub returns : goal.returns
returns c = query_outside c.a_client_outside_changes_nothing.ensures.query
