use Rattle.std.proofs.Common.{length, ap, ◌∙◌}
use Rattle.std.specs.Prelude.{ℕ, ◌==◌, if◌then◌else◌}
use Rattle.zone_index.proofs.Settled.{does_made}
use Rattle.zone_index.specs.Placed.{one_does, place_action, rows_by, several_do}
use Rattle.zone_index.proofs.settling.does_at.Goals as goal

pub returns : goal.returns
returns c =
    does_made c.args.place.now c.in_ok-own.own.len c.kept_of.result c.in_ok-action.action
    (c.kept_of.ensures ∙ ap (λ (k : ℕ). if k == 1 then one_does c.in_ok-action.action else several_do c.in_ok-action.action) c.len.ensures)
    (rows_by c.args.numbers.now c.args.rows.now.rows) (c.in_ok-own.own.ok.0 ∙ ap length c.in_ok-own.ensures)
    (c.in_ok-action.ensures ∙ ap (place_action c.args.place.now) c.in_ok-own.ensures)
