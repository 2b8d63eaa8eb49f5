use Rattle.load_gen.proofs.Ruled.{begins, goes_on}
use Rattle.load_gen.proofs.rules.first_rules.Goals as goal

pub loop-place-init : goal.loop-place-init
loop-place-init c = begins c.args.draws.now.state c.in_ok-rows.rows.items c.in_ok-rows.ensures.items

pub loop-place-preserved : goal.loop-place-preserved
loop-place-preserved c =
    goes_on c.args.draws.now.state c.loop-place._place c.loop-place.rows.items c.push.new.self.items c.loop-place.draws.state c.rule.new.draws.state
    c.in_ok-rule.field-0 c.loop-place.invariant c.in_ok-rule.ensures.rule c.in_ok-rule.ensures.state c.in_ok-push.ensures.items
