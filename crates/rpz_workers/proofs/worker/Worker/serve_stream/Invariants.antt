use Rattle.std.proofs.Common.{◌≤◌}
use Rattle.rpz_workers.specs.Connections.{connection_state}
use Rattle.rpz_workers.proofs.Served.{Served}
use Rattle.rpz_workers.proofs.worker.Worker.serve_stream.Given as goal

abbrev pub invariant-loop : goal.invariant-loop
invariant-loop g l = record {
  served : Served g.N.StoreName.store g.L.Link.gave g.B.Asks.passes_on l.client l.counter
      (connection_state l.initial.self (g.C.Clock.moments l.initial.clock) (g.O.Onward.passed l.initial.onward) (g.S.Source.left l.initial.source) (g.K.Sink.held l.initial.sink))
      (connection_state l.self (g.C.Clock.moments l.clock) (g.O.Onward.passed l.onward) (g.S.Source.left l.source) (g.K.Sink.held l.sink));
  source : g.S.Source.faults l.initial.source ≤ g.S.Source.faults l.source;
  sink : g.K.Sink.faults l.initial.sink ≤ g.K.Sink.faults l.sink;
}
