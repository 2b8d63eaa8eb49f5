use Rattle.ip_prefix.proofs.BitLaws.{contains_alike}
use Rattle.ip_prefix.proofs.laws.a_prefix_contains_what_begins_alike.Goals as goal

pub returns : goal.returns
returns c = contains_alike
