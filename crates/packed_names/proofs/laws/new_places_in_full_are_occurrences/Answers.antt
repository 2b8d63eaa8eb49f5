use Rattle.packed_names.proofs.InsertLemmas.{in_full_occurs}
use Rattle.packed_names.proofs.laws.new_places_in_full_are_occurrences.Goals as goal

pub returns : goal.returns
returns c = in_full_occurs
