use Rattle.query_session.proofs.Failures.{failure_has_cause}
use Rattle.query_session.proofs.laws.a_failure_has_a_cause.Goals as goal

pub returns : goal.returns
returns c = failure_has_cause
