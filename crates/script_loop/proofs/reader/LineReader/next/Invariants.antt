use Rattle.std.proofs.Common.{◌≡◌, ◌-◌, ◌≤◌, ◌⊎◌, [], ◌++◌, length}
use Rattle.edge_io.specs.Edge.{prepended}
use Rattle.script_loop.specs.Lines.{NoFeed}
use Rattle.script_loop.proofs.reader.LineReader.next.Given as goal

abbrev pub invariant-loop-self : goal.invariant-loop-self
invariant-loop-self g l = record {
  reads : prepended l.fn.self (g.S.Source.left l.fn.source) ≡ prepended (l.line.items ++ l.self) (g.S.Source.left l.source);
  no_feed : NoFeed l.line.items;
  count : g.S.Source.faults l.fn.source ≤ g.S.Source.faults l.source;
  chunk : (l.line.items ≡ []) ⊎ (length l.self ≤ 8192);
}

abbrev pub decreases-loop-self : goal.decreases-loop-self
decreases-loop-self g l = 200001 - length l.line.items
