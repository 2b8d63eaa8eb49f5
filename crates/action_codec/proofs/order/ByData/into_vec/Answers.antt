use Rattle.std.proofs.Common.{◌++◌, map, sym, ap, ◌∙◌}
use Rattle.std.proofs.lemmas.List.{append-nil}
use Rattle.action_codec.proofs.Views.{rows_of_values}
use Rattle.action_codec.proofs.order.ByData.into_vec.Goals as goal

-- src/order.rt:60:5
pub returns : goal.returns
returns c = ap (map (λ row. row.now)) (sym (append-nil c.loop-row.rows.items) ∙ ap (λ rest. c.loop-row.rows.items ++ rest) (sym c.in-None.ensures.steps.0) ∙ c.loop-row.invariant ∙ c.into_iter-row-iterator.ensures.into_iter_gives ∙ c.into_values-row-items.ensures.rest) ∙ rows_of_values (λ row. row.now) c.self.inside.rows.entries ∙ c.self.view_is
