use Rattle.ip_prefix.specs.Prefix.{prefix_order}
use Rattle.zone_index.proofs.Counting.{counted_has, counted_sorted}
use Rattle.zone_index.proofs.prefixes.Prefixes.has.Goals as goal

pub returns-clause-has : goal.returns-clause-has
returns-clause-has c = counted_has prefix_order c.self.inside.trie c.args.self.now c.self.inside.acting c.self.invariant c.self.view_is

pub returns-clause-sorted : goal.returns-clause-sorted
returns-clause-sorted c = counted_sorted prefix_order c.self.inside.trie c.args.self.now c.self.inside.acting c.self.invariant c.self.view_is
