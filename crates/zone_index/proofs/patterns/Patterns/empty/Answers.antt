use Rattle.zone_index.proofs.Lower.{patterns_none}
use Rattle.zone_index.proofs.patterns.Patterns.empty.Goals as goal

pub invariant_of-result : goal.invariant_of-result
invariant_of-result c = patterns_none c.empty.result c.empty.ensures
