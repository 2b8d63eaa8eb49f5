use Rattle.packed_names.proofs.ReadLemmas.{compressed_occurs}
use Rattle.packed_names.proofs.laws.new_places_are_occurrences.Goals as goal

pub returns : goal.returns
returns c = compressed_occurs
