use Rattle.std.proofs.Common.{ap}
use Rattle.action_codec.specs.Action.{own_pattern, rows_action}
use Rattle.action_codec.proofs.SameRows.{rows_in_any_order}
use Rattle.action_codec.proofs.laws.the_order_of_rows_does_not_matter.Goals as goal

pub returns-clause-rows : goal.returns-clause-rows
returns-clause-rows c = rows_in_any_order c.rows_of_one_identity_differ_in_the_ttl_alone.ensures

pub returns-clause-action : goal.returns-clause-action
returns-clause-action c = λ t rows other are_rows one_ttl same. ap (rows_action (own_pattern t)) (rows_in_any_order c.rows_of_one_identity_differ_in_the_ttl_alone.ensures rows other are_rows one_ttl same)
