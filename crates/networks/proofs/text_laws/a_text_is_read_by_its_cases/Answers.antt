use Rattle.networks.proofs.OnlyLemmas.{text_only}
use Rattle.networks.proofs.ReadLemmas.{text_read}
use Rattle.networks.proofs.text_laws.a_text_is_read_by_its_cases.Goals as goal

pub returns-clause-read : goal.returns-clause-read
returns-clause-read c = text_read

pub returns-clause-only : goal.returns-clause-only
returns-clause-only c = text_only
