use Rattle.packed_names.proofs.ReadLemmas.{occurrences_more}
use Rattle.packed_names.proofs.laws.places_stay_occurrences.Goals as goal

pub returns : goal.returns
returns c = occurrences_more
