use Rattle.zone_index.proofs.Filled.{no_patterns}
use Rattle.zone_index.proofs.pattern_entries.PatternEntries.empty.Goals as goal

pub invariant_of-result : goal.invariant_of-result
invariant_of-result c = no_patterns c.new.result.items c.new.ensures.items
