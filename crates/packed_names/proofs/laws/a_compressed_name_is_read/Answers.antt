use Rattle.packed_names.proofs.ReadLemmas.{compressed_read}
use Rattle.packed_names.proofs.laws.a_compressed_name_is_read.Goals as goal

pub returns : goal.returns
returns c = compressed_read
