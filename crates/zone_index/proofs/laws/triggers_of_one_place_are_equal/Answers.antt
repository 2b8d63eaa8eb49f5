use Rattle.zone_index.proofs.Ties.{same_is, of_is}
use Rattle.zone_index.proofs.laws.triggers_of_one_place_are_equal.Goals as goal

pub returns-clause-same : goal.returns-clause-same
returns-clause-same c = same_is (record { by_octets = c.names_of_equal_octets_are_equal.ensures; lower_once = c.case_does_not_matter.ensures.lower })

pub returns-clause-row : goal.returns-clause-row
returns-clause-row c = of_is (record { by_octets = c.names_of_equal_octets_are_equal.ensures; lower_once = c.case_does_not_matter.ensures.lower })
