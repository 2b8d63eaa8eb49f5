use Rattle.std.proofs.Common.{◌-◌, ◌≤◌, Option, Result, Ok, subst, arith}
use Rattle.std.specs.declared.alloc.AllocError.{AllocError}
use Rattle.upstream_link.specs.declared.facts.TheConstants.{FACT_LIMIT}
use Rattle.reply_build.specs.declared.turn.Turn.{Turn}
use Rattle.load_gen.specs.Turns.{TurnsOnce}
use Rattle.load_gen.proofs.Sessions.{ends_if, goes_on, none_if, says}
use Rattle.load_gen.proofs.answering.last_turn.Goals as goal

pub returns-in-Some : goal.returns-in-Some
returns-in-Some c =
    let mid = c.loop-count.session in
    let new = c.turn_once.new.session in
    let once = subst (λ (o : Option Turn). let r : Result (Option Turn) AllocError = Ok o in TurnsOnce r mid new) c.in-Some.is c.in_ok-turn.ensures in
    says (FACT_LIMIT - c.loop-count._count) c.args.session.now mid c.in-Some.turn c.loop-count.invariant once.0 once.1

pub loop-count-preserved : goal.loop-count-preserved
loop-count-preserved c =
    let mid = c.loop-count.session in
    let new = c.turn_once.new.session in
    goes_on c.loop-count._count c.args.session.now mid new c.loop-count-test.true c.loop-count.invariant
    (subst (λ (o : Option Turn). let r : Result (Option Turn) AllocError = Ok o in TurnsOnce r mid new) (none_if c.in_ok-turn.field-0 c.in_default.not-Some) c.in_ok-turn.ensures)

pub returns : goal.returns
returns c =
    let le : FACT_LIMIT ≤ c.loop-count._count = omega (arith, c.loop-count-test.false) in
    ends_if c.loop-count._count c.args.session.now c.loop-count.session c.turn.result le c.loop-count.invariant c.turn.ensures.turn
