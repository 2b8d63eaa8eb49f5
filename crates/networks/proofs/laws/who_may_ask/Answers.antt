use Rattle.std.proofs.Common.{◌∷◌}
use Rattle.networks.proofs.ListLemmas.{in_one_alike}
use Rattle.networks.proofs.laws.who_may_ask.Goals as goal

pub returns-clause-listed : goal.returns-clause-listed
returns-clause-listed c = λ first others addr all is_addr. in_one_alike (first ∷ others) addr c.a_prefix_contains_what_begins_alike.ensures c.a_network_has_no_bit_behind_its_length.ensures all is_addr
