use Rattle.action_codec.proofs.PlacedRows.{rule_rows-sorted}
use Rattle.action_codec.proofs.SameRows.{rule_rows_contained, rule_rows_has_one}
use Rattle.action_codec.proofs.laws.a_rule_keeps_one_row_of_each_data.Goals as goal

pub returns-clause-ordered : goal.returns-clause-ordered
returns-clause-ordered c = rule_rows-sorted

pub returns-clause-contained : goal.returns-clause-contained
returns-clause-contained c = rule_rows_contained

pub returns-clause-each : goal.returns-clause-each
returns-clause-each c = rule_rows_has_one
