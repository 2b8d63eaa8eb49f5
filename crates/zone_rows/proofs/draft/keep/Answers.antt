use Rattle.std.proofs.Common.{◌+◌, List, ◌++◌, drop, sym, ◌∙◌, subst, arith}
use Rattle.dns_record.specs.Row.{PlainRow}
use Rattle.zone_rows.specs.Marks.{mark_of, live_from}
use Rattle.zone_rows.proofs.DraftSteps.{KeepsOn, keeps_at, leaves_at}
use Rattle.zone_rows.proofs.draft.keep.Goals.{then-branch+in_ok-push_ref, else-branch}
use Rattle.zone_rows.proofs.draft.keep.Goals as goal

pub loop-place-preserved : goal.loop-place-preserved
loop-place-preserved c =
    let f = mark_of c.args.marks.now in
    let whole = c.args.rows.now ++ live_from f c.args.before c.args.slots.now in
    let next = c.loop-place.place + 1 in
    elim c.if-branch.branch [
      | then-branch+in_ok-push_ref w ↦
          subst (λ (rows : List PlainRow). KeepsOn f (c.args.before + next) rows (drop next c.args.slots.now) whole) (sym (w.rows-is ∙ w.in_ok-push_ref.ensures.ok))
          (keeps_at f c.args.before c.loop-place.place c.in_ok-cut.field-0 c.loop-place.rows c.args.slots.now whole c.at-row.result c.loop-place.invariant c.at-row.ensures.row c.in_ok-cut.ensures (omega (arith, w.if-branch.true)))
      | else-branch w ↦
          subst (λ (rows : List PlainRow). KeepsOn f (c.args.before + next) rows (drop next c.args.slots.now) whole) (sym w.rows-is)
          (leaves_at f c.args.before c.loop-place.place c.in_ok-cut.field-0 c.loop-place.rows c.args.slots.now whole c.at-row.result c.loop-place.invariant c.at-row.ensures.row c.in_ok-cut.ensures (omega (arith, w.if-branch.false)))
    ]
