use Rattle.ip_prefix.specs.Prefix.{prefix_order}
use Rattle.zone_index.proofs.Counting.{counted_none}
use Rattle.zone_index.proofs.prefixes.Prefixes.empty.Goals as goal

pub invariant_of-result : goal.invariant_of-result
invariant_of-result c = counted_none prefix_order c.empty.result c.empty.ensures
