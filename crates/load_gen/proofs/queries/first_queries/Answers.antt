use Rattle.load_gen.proofs.Asked.{begins, goes_on}
use Rattle.load_gen.proofs.queries.first_queries.Goals as goal

pub loop-place-init : goal.loop-place-init
loop-place-init c = begins c.args.draws.now.state c.in_ok-queries.queries.items c.in_ok-queries.ensures.items

pub loop-place-preserved : goal.loop-place-preserved
loop-place-preserved c =
    goes_on c.args.draws.now.state c.loop-place.place c.loop-place.queries.items c.push.new.self.items c.loop-place.draws.state c.query.new.draws.state
    c.in_ok-query.field-0 c.loop-place.invariant c.in_ok-query.ensures.query c.in_ok-query.ensures.state c.in_ok-push.ensures.items
