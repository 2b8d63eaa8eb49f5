-- What is done at one name of the chain.
use Rattle.std.proofs.Common.{take, drop}
use Rattle.policy_snapshot.specs.Next.{next_along}
use Rattle.policy_snapshot.specs.Rules.{rules}
use Rattle.policy_snapshot.specs.Stands.{policy_in}
use Rattle.query_session.specs.Session.{turn_by_next}
use Rattle.query_session.proofs.ChainSteps.{goes_on, turn_here}
use Rattle.query_session.proofs.turns.turn_along.Goals as goal

pub returns-in-Some-clause-turn : goal.returns-in-Some-clause-turn
returns-in-Some-clause-turn c =
    let all = rules (policy_in c.args.policy.now) in
    turn_here all c.args.query.now c.args.facts.now c.args.names.now (turn_by_next c.args.query.now c.args.facts.now) c.loop-place.place c.index-names-place.result
    (next_along all c.args.query.now c.args.facts.now (take 1 c.args.names.now) (drop 1 c.args.names.now)) c.in_ok-turn.field-0 c.in-Some.turn
    c.loop-place-test.true c.index-names-place.is c.in_ok-turn.ensures.turn c.in-Some.is c.loop-place.invariant

pub loop-place-preserved : goal.loop-place-preserved
loop-place-preserved c =
    let all = rules (policy_in c.args.policy.now) in
    goes_on all c.args.query.now c.args.facts.now c.args.names.now (turn_by_next c.args.query.now c.args.facts.now) c.loop-place.place c.index-names-place.result
    (next_along all c.args.query.now c.args.facts.now (take 1 c.args.names.now) (drop 1 c.args.names.now)) c.in_ok-turn.field-0
    c.loop-place-test.true c.index-names-place.is c.in_ok-turn.ensures.turn c.in_default.is c.loop-place.invariant
