use Rattle.networks.proofs.WrittenLemmas.{read_back}
use Rattle.networks.proofs.text_laws.what_is_written_is_read_back.Goals as goal

pub returns : goal.returns
returns c = read_back
