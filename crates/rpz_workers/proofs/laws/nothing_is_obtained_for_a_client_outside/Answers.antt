use Rattle.rpz_workers.proofs.Outside.{outside_answer, outside_never_asks}
use Rattle.rpz_workers.proofs.laws.nothing_is_obtained_for_a_client_outside.Goals as goal

pub returns-clause-answered : goal.returns-clause-answered
returns-clause-answered g c = λ store. outside_answer c.a_client_outside_is_answered_whatever_the_policy.ensures.said store g.L.Link.gave

pub returns-clause-never_asks : goal.returns-clause-never_asks
returns-clause-never_asks g c = λ store. outside_never_asks c.a_client_outside_is_answered_whatever_the_policy.ensures.said store g.L.Link.gave
