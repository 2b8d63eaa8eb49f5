use Rattle.query_session.proofs.Outside.{outside_alike, outside_said}
use Rattle.query_session.proofs.laws.a_client_outside_is_answered_whatever_the_policy.Goals as goal

pub returns-clause-said : goal.returns-clause-said
returns-clause-said c = outside_said

pub returns-clause-alike : goal.returns-clause-alike
returns-clause-alike c = outside_alike
