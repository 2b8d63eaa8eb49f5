use Rattle.zone_index.proofs.Gathered.{rule_of_rows, rules_in_order}
use Rattle.zone_index.proofs.OnlyRules.{only_rules, rules_named}
use Rattle.zone_index.proofs.laws.a_rule_does_what_its_rows_do.Goals as goal

pub returns-clause-at : goal.returns-clause-at
returns-clause-at c = rule_of_rows

pub returns-clause-ordered : goal.returns-clause-ordered
returns-clause-ordered c = rules_in_order

pub returns-clause-named : goal.returns-clause-named
returns-clause-named c = rules_named (record { by_octets = c.names_of_equal_octets_are_equal.ensures; lower_once = c.case_does_not_matter.ensures.lower })

pub returns-clause-only : goal.returns-clause-only
returns-clause-only c = only_rules (record { by_octets = c.names_of_equal_octets_are_equal.ensures; lower_once = c.case_does_not_matter.ensures.lower })
