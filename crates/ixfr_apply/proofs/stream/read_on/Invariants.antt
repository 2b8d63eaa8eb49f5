use Rattle.std.proofs.Common.{◌≤◌}
use Rattle.ixfr_apply.specs.Feeding.{left_of}
use Rattle.ixfr_apply.proofs.Streams.{HasCome}
use Rattle.ixfr_apply.proofs.stream.read_on.Given as goal

abbrev pub invariant-loop-message : goal.invariant-loop-message
invariant-loop-message g l = record {
  come : HasCome l.fn.reader.asked l.reader (g.S.Source.left l.fn.source) (g.S.Source.left l.source);
  steady : g.S.Source.steady l.fn.source → g.S.Source.steady l.source;
  count : g.S.Source.faults l.fn.source ≤ g.S.Source.faults l.source;
}

abbrev pub decreases-loop-message : goal.decreases-loop-message
decreases-loop-message g l = left_of l.reader
