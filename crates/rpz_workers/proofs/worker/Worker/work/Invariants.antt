use Rattle.std.proofs.Common.{◌≤◌, ◌+◌, ◌-◌, ◌^◌, min}
use Rattle.rpz_workers.specs.Handling.{stream_views, worker_state}
use Rattle.rpz_workers.specs.Reports.{counts_of}
use Rattle.rpz_workers.specs.Working.{run_state}
use Rattle.rpz_workers.proofs.Worked.{Worked}
use Rattle.rpz_workers.proofs.worker.Worker.work.Given as goal

abbrev pub invariant-loop : goal.invariant-loop
invariant-loop g l = record {
  can : (goal.iterator-loop g).can_next l.iterator';
  finite : (goal.iterator-loop g).is_finite l.iterator';
  worked : Worked g.N.StoreName.store g.L.Link.gave g.B.Asks.passes_on (stream_views g.S.Source.left g.S.Source.faults g.K.Sink.held g.K.Sink.faults)
      (run_state (g.Q.Items.coming l.initial.items)
      (worker_state l.initial.self (g.C.Clock.moments l.initial.clock) (g.O.Onward.passed l.initial.onward) (g.P.Replies.sent l.initial.replies) (g.P.Replies.closings l.initial.replies) (g.P.Replies.faults l.initial.replies)))
      (counts_of l.report)
      (run_state (g.Q.Items.coming l.items)
      (worker_state l.self (g.C.Clock.moments l.clock) (g.O.Onward.passed l.onward) (g.P.Replies.sent l.replies) (g.P.Replies.closings l.replies) (g.P.Replies.faults l.replies)));
  failed : min (g.P.Replies.faults l.initial.replies + l.report.failed) (2 ^ 64 - 1) ≤ g.P.Replies.faults l.replies;
}
