use Rattle.zone_index.proofs.Acted.{no_prefixes}
use Rattle.zone_index.proofs.tries.acting_prefixes.Goals as goal

pub returns-in-Qname-clause-sorted : goal.returns-in-Qname-clause-sorted
returns-in-Qname-clause-sorted g c = no_prefixes c.new.result.items c.new.ensures.items
