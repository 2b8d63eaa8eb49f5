use Rattle.std.proofs.Common.{Option, Result, Ok, subst}
use Rattle.std.specs.declared.alloc.AllocError.{AllocError}
use Rattle.reply_build.specs.declared.turn.Turn.{Turn}
use Rattle.rpz_core.specs.Pending.{ResolvesOnce}
use Rattle.rpz_core.proofs.Turns.{none_if, turn_behind, turn_done, turned}
use Rattle.rpz_core.proofs.resolving.resolve.Goals as goal

pub returns-in-Some-clause-turns : goal.returns-in-Some-clause-turns
returns-in-Some-clause-turns c =
    let now = c.args.now in
    let cache = c.loop-count.cache in
    let left = c.resolve_once.new.cache in
    let mid = c.loop-count.session in
    let new = c.resolve_once.new.session in
    turn_done now c.loop-count.count c.args.cache.now cache left c.args.session.now mid new c.in-Some.turn c.loop-count-test.true c.loop-count.invariant
    (subst (λ (o : Option Turn). let r : Result (Option Turn) AllocError = Ok o in ResolvesOnce now r cache left mid new) c.in-Some.is c.in_ok-turn.ensures.turn)

pub loop-count-preserved : goal.loop-count-preserved
loop-count-preserved c =
    let now = c.args.now in
    let cache = c.loop-count.cache in
    let left = c.resolve_once.new.cache in
    let mid = c.loop-count.session in
    let new = c.resolve_once.new.session in
    turned now c.loop-count.count c.args.cache.now cache left c.args.session.now mid new c.loop-count-test.true c.loop-count.invariant
    (subst (λ (o : Option Turn). let r : Result (Option Turn) AllocError = Ok o in ResolvesOnce now r cache left mid new) (none_if c.in_ok-turn.field-0 c.in_default.not-Some) c.in_ok-turn.ensures.turn)
    c.in_ok-turn.ensures.limit

pub returns-clause-turns : goal.returns-clause-turns
returns-clause-turns c =
    turn_behind c.args.now c.loop-count.count c.args.cache.now c.loop-count.cache c.args.session.now c.loop-count.session c.turn.new.self c.turn.result c.loop-count-test.false c.loop-count.invariant
    c.turn.ensures.turn c.turn.ensures.ok c.turn.ensures.err
