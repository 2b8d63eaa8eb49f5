use Rattle.networks.proofs.ListLemmas.{network_found}
use Rattle.networks.proofs.laws.a_network_is_found_by_its_value.Goals as goal

pub returns : goal.returns
returns c = network_found
