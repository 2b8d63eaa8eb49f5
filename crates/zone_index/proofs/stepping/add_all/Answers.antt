use Rattle.std.proofs.Common.{◌+◌, ◌∙◌}
use Rattle.std.proofs.lemmas.Result.{err_from_is_err_and}
use Rattle.zone_rows.specs.Steps.{with_added}
use Rattle.zone_index.proofs.Stepped.{added_fails, added_next}
use Rattle.zone_index.proofs.stepping.add_all.Goals as goal

pub loop-place-preserved : goal.loop-place-preserved
loop-place-preserved c = (
  added_next c.args.bound (c.args.step + 1) c.args.added.now c.loop-place.place c.at.result c.at.ensures.row c.loop-place.rows.rows c.in_ok-rows.rows.rows (with_added c.args.bound (c.args.step + 1) 1 c.args.rows.rows c.args.added.now) c.loop-place.invariant.0 c.in_ok-rows.ensures.0,
  c.in_ok-rows.ensures.1 ∙ c.loop-place.invariant.1,
)

pub returns-in_err-rows : goal.returns-in_err-rows
returns-in_err-rows c =
    let p = err_from_is_err_and c.from_residual.result c.from_residual.ensures.1 in
    rw (p.1, p.2) (added_fails c.args.bound (c.args.step + 1) c.args.added.now c.loop-place.place c.at.result c.at.ensures.row c.in_err-rows.field-0.0 c.loop-place.rows.rows (with_added c.args.bound (c.args.step + 1) 1 c.args.rows.rows c.args.added.now) c.loop-place.invariant.0 c.in_err-rows.ensures)
