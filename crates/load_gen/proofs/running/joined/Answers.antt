use Rattle.load_gen.proofs.Parts.{one_done, one_joined}
use Rattle.load_gen.proofs.running.joined.Goals as goal

pub loop-part-preserved : goal.loop-part-preserved
loop-part-preserved c =
    let parts = c.args.parts.now in
    let i = c.loop-part.part-index in (
      one_joined parts i _ c.loop-part.all c.join-all.result c.in-Ok.tally c.loop-part-test.true c.in-Ok.is c.loop-part.invariant.0 c.join-all.ensures,
      one_done parts i _ c.in-Ok.tally c.loop-part-test.true c.in-Ok.is c.loop-part.invariant.1,
    )
