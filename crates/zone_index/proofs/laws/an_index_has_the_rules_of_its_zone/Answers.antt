use Rattle.zone_index.proofs.ListedRules.{rules_listed, one_action, rule_named}
use Rattle.zone_index.proofs.laws.an_index_has_the_rules_of_its_zone.Goals as goal

pub returns-clause-listed : goal.returns-clause-listed
returns-clause-listed c = rules_listed (record { by_octets = c.names_of_equal_octets_are_equal.ensures; lower_once = c.case_does_not_matter.ensures.lower })

pub returns-clause-by_trigger : goal.returns-clause-by_trigger
returns-clause-by_trigger c = λ origin rows are. one_action origin rows

pub returns-clause-named : goal.returns-clause-named
returns-clause-named c = rule_named (record { by_octets = c.names_of_equal_octets_are_equal.ensures; lower_once = c.case_does_not_matter.ensures.lower })
