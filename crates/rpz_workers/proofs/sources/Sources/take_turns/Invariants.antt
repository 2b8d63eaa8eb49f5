use Rattle.std.proofs.Common.{◌≡◌, ◌≤◌, [], length}
use Rattle.rpz_workers.specs.Obtaining.{limit_of}
use Rattle.rpz_workers.specs.Turns.{Leads, inquiry}
use Rattle.rpz_workers.proofs.sources.Sources.take_turns.Given as goal

abbrev pub invariant-loop-count : goal.invariant-loop-count
invariant-loop-count g l = record {
  leads : Leads g.L.Link.gave g.B.Asks.passes_on l.now l.initial.session.policy l.initial.session.incoming
      (inquiry [] (g.A.Keeps.entries l.initial.self.cache) (g.B.Asks.ids l.initial.self.asks) (g.B.Asks.faults l.initial.self.asks))
      l.obtained.items
      (inquiry l.session.facts (g.A.Keeps.entries l.self.cache) (g.B.Asks.ids l.self.asks) (g.B.Asks.faults l.self.asks));
  facts : length l.session.facts ≡ l._count;
  limit : limit_of (g.A.Keeps.entries l.self.cache) ≡ limit_of (g.A.Keeps.entries l.initial.self.cache);
  count : g.B.Asks.faults l.initial.self.asks ≤ g.B.Asks.faults l.self.asks;
  policy : l.session.policy ≡ l.initial.session.policy;
  incoming : l.session.incoming ≡ l.initial.session.incoming;
}
