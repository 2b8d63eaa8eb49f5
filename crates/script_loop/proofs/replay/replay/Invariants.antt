use Rattle.std.proofs.Common.{◌-◌, ◌≤◌, ◌^◌}
use Rattle.script_loop.proofs.Steps.{Progress}
use Rattle.script_loop.proofs.replay.replay.Given as goal

abbrev pub invariant-loop-reply : goal.invariant-loop-reply
invariant-loop-reply g l = record {
  so_far : Progress g.M.Machine.too_many g.M.Machine.too_long g.M.Machine.step l.fn.machine (g.S.Source.left l.fn.script) (g.S.Source.left l.script) (g.K.Sink.held l.fn.out) (g.K.Sink.held l.out) l.reader (l.number, l.machine);
  source_count : g.S.Source.faults l.fn.script ≤ g.S.Source.faults l.script;
  sink_count : g.K.Sink.faults l.fn.out ≤ g.K.Sink.faults l.out;
  more : l.number ≤ 2 ^ 32;
}

abbrev pub decreases-loop-reply : goal.decreases-loop-reply
decreases-loop-reply g l = 2 ^ 32 - l.number
