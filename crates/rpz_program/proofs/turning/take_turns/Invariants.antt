use Rattle.std.proofs.Common.{◌≡◌, ◌≤◌, Bool, None, true, false}
use Rattle.edge_io.specs.Edge.{Rose}
use Rattle.rpz_program.specs.Turning.{Advances}
use Rattle.rpz_program.specs.Turns.{server_state}
use Rattle.rpz_program.proofs.turning.take_turns.Given as goal

abbrev pub invariant-loop : goal.invariant-loop
invariant-loop g l = record {
  advances : (is_open : Bool) → Advances false (server_state l.fn.feeder (g.W.Wires.told l.fn.wires) (g.W.Wires.order_faults l.fn.wires) (g.I.Ids.ids l.fn.ids) (g.C.Clock.moments l.fn.clock) l.fn.progress.second is_open)
      l.fn.progress (g.K.Sink.held l.fn.out) None
      (server_state l.feeder (g.W.Wires.told l.wires) (g.W.Wires.order_faults l.wires) (g.I.Ids.ids l.ids) (g.C.Clock.moments l.clock) l.progress.second is_open)
      l.progress (g.K.Sink.held l.out);
  wire_count : g.W.Wires.faults l.fn.wires ≤ g.W.Wires.faults l.wires;
  count : g.K.Sink.faults l.fn.out ≤ g.K.Sink.faults l.out;
  failed : l.progress.is_cut ≡ true → l.fn.progress.is_cut ≡ false → Rose (g.K.Sink.faults l.fn.out) (g.K.Sink.faults l.out);
}
