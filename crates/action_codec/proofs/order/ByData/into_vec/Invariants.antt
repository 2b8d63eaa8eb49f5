use Rattle.std.proofs.Common.{◌≡◌, ◌++◌}
use Rattle.action_codec.proofs.order.ByData.into_vec.Given as goal

abbrev pub invariant-loop-row : goal.invariant-loop-row
invariant-loop-row l = l.rows.items ++ l.row-iterator ≡ l.initial.row-iterator
