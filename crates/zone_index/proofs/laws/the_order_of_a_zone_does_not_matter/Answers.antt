use Rattle.zone_index.proofs.OnlyRules.{rules_in_any_order}
use Rattle.zone_index.proofs.laws.the_order_of_a_zone_does_not_matter.Goals as goal

pub returns : goal.returns
returns c =
    rules_in_any_order (record { by_octets = c.names_of_equal_octets_are_equal.ensures; lower_once = c.case_does_not_matter.ensures.lower })
    c.the_order_of_rows_does_not_matter.ensures.action
