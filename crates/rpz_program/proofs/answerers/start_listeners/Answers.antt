use Rattle.std.proofs.Common.{◌∙◌, arith}
use Rattle.rpz_program.proofs.Turned.{inlets_next, workers_next}
use Rattle.rpz_program.proofs.answerers.start_listeners.Goals as goal

pub loop-listener-preserved : goal.loop-listener-preserved
loop-listener-preserved g c =
    let was = c.loop-listener.invariant in
    let one = c.in_ok-start_answerers.ensures in
    record {
      told = inlets_next _ _ _ c.args.workers c.loop-listener.listener one.told was.told;
      waiting = workers_next _ _ _ c.args.workers c.loop-listener.listener one.waiting was.waiting;
      moments = one.moments ∙ was.moments;
      uses_wires = record { orders = one.uses_wires.orders ∙ was.uses_wires.orders; count = omega (arith, was.uses_wires.count, one.uses_wires.count); failed = λ blamed. absurd blamed };
      uses_spawner = record { gathered = one.uses_spawner.gathered ∙ was.uses_spawner.gathered; count = omega (arith, was.uses_spawner.count, one.uses_spawner.count); failed = λ blamed. absurd blamed };
    }
