use Rattle.query_session.proofs.TurnCount.{few, said}
use Rattle.query_session.proofs.laws.at_most_128_facts_bring_a_reply.Goals as goal

pub returns-clause-said : goal.returns-clause-said
returns-clause-said c = said

pub returns-clause-few : goal.returns-clause-few
returns-clause-few c = few
