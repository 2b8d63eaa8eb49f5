use Rattle.std.proofs.Common.{ap}
use Rattle.zone_index.proofs.Versions.{none_well}
use Rattle.zone_index.specs.Groups.{places_in}
use Rattle.zone_index.proofs.index_entries.IndexEntries.empty.Goals as goal

pub invariant_of-result : goal.invariant_of-result
invariant_of-result c = none_well c.new.result c.empty.result c.empty.ensures

pub returns : goal.returns
returns c = ap (places_in c.new.result) c.empty.ensures
