use Rattle.packed_names.proofs.ChoiceLemmas.{no_longer}
use Rattle.packed_names.proofs.laws.a_compressed_name_is_no_longer.Goals as goal

pub returns : goal.returns
returns c = no_longer
