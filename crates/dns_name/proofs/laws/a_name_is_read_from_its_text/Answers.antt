use Rattle.dns_name.proofs.TextLaw.{read_back}
use Rattle.dns_name.proofs.laws.a_name_is_read_from_its_text.Goals as goal

pub returns : goal.returns
returns c = read_back
