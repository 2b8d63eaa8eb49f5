use Rattle.std.proofs.Common.{◌∙◌, arith}
use Rattle.rpz_program.proofs.streamers.start_streamers.Goals as goal

pub loop-preserved : goal.loop-preserved
loop-preserved g c =
    let was = c.loop.invariant in
    let one = c.in_ok-start_streamer.ensures in
    record {
      told = one.told ∙ was.told;
      waiting = omega (arith, was.waiting, one.waiting);
      moments = one.moments ∙ was.moments;
      uses_wires = record { orders = one.uses_wires.orders ∙ was.uses_wires.orders; count = omega (arith, was.uses_wires.count, one.uses_wires.count); failed = λ blamed. absurd blamed };
      uses_spawner = record { gathered = one.uses_spawner.gathered ∙ was.uses_spawner.gathered; count = omega (arith, was.uses_spawner.count, one.uses_spawner.count); failed = λ blamed. absurd blamed };
    }
