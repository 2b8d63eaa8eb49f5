use Rattle.std.proofs.Common.{arith, ap, length}
use Rattle.std.proofs.lemmas.List.{length_push}
use Rattle.upstream_link.specs.declared.aliases.TheConstants.{CHAIN_LIMIT}
use Rattle.upstream_link.proofs.ChainLemmas.{chain_ends, chain_goes_on, chain_too_long}
use Rattle.upstream_link.proofs.aliases.follow.Goals as goal

pub returns-in-None-clause-exact : goal.returns-in-None-clause-exact
returns-in-None-clause-exact c =
    chain_ends c.args.records.now CHAIN_LIMIT c.loop.counter c.loop.names c.as_slice.result.now c.loop.last c.in_ok-next_name.field-0 _ c.loop-test.true c.as_slice.ensures c.in_ok-next_name.ensures c.in-None.is c.loop.invariant.1

pub loop-preserved : goal.loop-preserved
loop-preserved c = (
  omega (arith, ap length c.in_ok-push-in-Some.ensures.ok, length_push c.loop.names c.in-Some.next, c.loop.invariant.0),
  chain_goes_on c.args.records.now CHAIN_LIMIT c.loop.counter c.loop.names c.as_slice.result.now c.push.new.self c.loop.last c.in-Some.next c.in_ok-last-in-Some.last c.in_ok-next_name.field-0 _ c.loop-test.true c.as_slice.ensures c.in_ok-next_name.ensures c.in-Some.is c.in_ok-push-in-Some.ensures.ok c.in_ok-last-in-Some.ensures c.loop.invariant.1,
  omega (arith, c.loop-test.true),
)

pub returns-clause-exact : goal.returns-clause-exact
returns-clause-exact c = chain_too_long c.args.records.now CHAIN_LIMIT c.loop.counter c.loop.names c.loop.last _ c.loop-test.false c.loop.invariant.1
