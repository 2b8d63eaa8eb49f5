use Rattle.std.proofs.Common.{Some, None, map, ap, ◌∙◌}
use Rattle.std.specs.Prelude.{if◌then◌else◌}
use Rattle.action_codec.specs.Local.{local_row}
use Rattle.action_codec.specs.declared.action.Action.TheVariants.{Local}
use Rattle.action_codec.proofs.Views.{any_row, local_each}
use Rattle.action_codec.proofs.table.several_action.Goals as goal

-- src/table.rt:59:9
pub returns-then-has_cname : goal.returns-then-has_cname
returns-then-has_cname c =
    ap (λ b. if b then None else Some (Local (map local_row (map (λ row. row.now) c.args.rows.now)))) (c.if-has_cname.ensures ∙ any_row (λ row. row.now) c.args.rows.now)

-- src/table.rt:54:1
pub returns : goal.returns
returns c =
    ap (λ ls. Some (Local ls)) (c.in_ok-local_rows.ensures ∙ local_each (λ row. row.now) c.args.rows.now)
    ∙ ap (λ b. if b then None else Some (Local (map local_row (map (λ row. row.now) c.args.rows.now)))) (c.if-has_cname.ensures ∙ any_row (λ row. row.now) c.args.rows.now)
