use Rattle.zone_index.proofs.Filled.{no_prefixes}
use Rattle.zone_index.proofs.prefix_entries.PrefixEntries.empty.Goals as goal

pub invariant_of-result : goal.invariant_of-result
invariant_of-result c = no_prefixes c.new.result.items c.new.ensures.items
