use Rattle.std.proofs.Common.{◌≡◌, ◌+◌}
use Rattle.rpz_program.specs.Starting.{UsesSpawner, UsesWires}
use Rattle.rpz_program.specs.Turns.{inlet_told}
use Rattle.rpz_program.proofs.answerers.start_answerers.Given as goal

abbrev pub invariant-loop : goal.invariant-loop
invariant-loop g l = record {
  told : g.W.Wires.told l.wires ≡ inlet_told l.listener l.counter (g.W.Wires.told l.initial.wires);
  waiting : g.P.Spawner.waiting l.spawner ≡ g.P.Spawner.waiting l.initial.spawner + l.counter;
  moments : g.C.Clock.moments l.clock ≡ g.C.Clock.moments l.initial.clock;
  uses_wires : UsesWires ⊥ (g.W.Wires.order_faults l.initial.wires) (g.W.Wires.faults l.initial.wires) (g.W.Wires.order_faults l.wires) (g.W.Wires.faults l.wires);
  uses_spawner : UsesSpawner ⊥ (g.P.Spawner.gathered l.initial.spawner) (g.P.Spawner.faults l.initial.spawner) (g.P.Spawner.gathered l.spawner) (g.P.Spawner.faults l.spawner);
}
