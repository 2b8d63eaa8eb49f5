use Rattle.rpz_core.proofs.Outside.{notify_outside, query_outside}
use Rattle.rpz_core.proofs.laws.a_client_outside_changes_nothing.Goals as goal

pub returns-clause-query : goal.returns-clause-query
returns-clause-query c = query_outside c.a_client_outside_is_answered_whatever_the_policy.ensures.said

pub returns-clause-notify : goal.returns-clause-notify
returns-clause-notify c = notify_outside
