use Rattle.std.proofs.Common.{subst}
use Rattle.std.specs.List.{AllByRecursion}
use Rattle.std.specs.Map.{keys_of}
use Rattle.qname_index.specs.Best.{pattern_order}
use Rattle.trigger_codec.specs.Bases.{IsPattern}
use Rattle.zone_index.proofs.Counting.{counted_has, counted_sorted}
use Rattle.zone_index.proofs.patterns.Patterns.has.Goals as goal

pub returns-clause-has : goal.returns-clause-has
returns-clause-has c = counted_has pattern_order c.self.inside.trie c.args.self.now c.self.inside.acting c.self.invariant.counted c.self.view_is

pub returns-clause-sorted : goal.returns-clause-sorted
returns-clause-sorted c = counted_sorted pattern_order c.self.inside.trie c.args.self.now c.self.inside.acting c.self.invariant.counted c.self.view_is

pub returns-clause-lower : goal.returns-clause-lower
returns-clause-lower c = subst (λ es. AllByRecursion IsPattern (keys_of es)) c.self.view_is c.self.invariant.lower
