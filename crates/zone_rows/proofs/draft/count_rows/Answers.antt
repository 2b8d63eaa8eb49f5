use Rattle.std.proofs.Common.{◌-◌, ◌<◌, ◌^◌, take, length, refl, sym, subst, arith}
use Rattle.std.proofs.lemmas.List.{length-take-le}
use Rattle.dns_record.specs.Row.{identity}
use Rattle.zone_rows.specs.Marks.{mark_of}
use Rattle.zone_rows.proofs.DraftSteps.{HasCounted, counted_next, can_count}
use Rattle.zone_rows.proofs.Places.{take_item}
use Rattle.zone_rows.proofs.draft.count_rows.Goals as goal

pub count_row-requires : goal.count_row-requires
count_row-requires c =
    let taken = take c.loop-place.place c.args.base.now in
    let within : c.loop-place.place < length c.args.base.now = omega (arith, c.loop-place-test.true, c.len-place-end.ensures.len) in
    can_count (mark_of c.loop-place.marks) taken (length taken) (2 ^ 64 - 1) (identity c.at.result) (mark_of c.loop-place.marks (identity c.at.result)) c.loop-place.invariant.marks
    (omega (arith, length-take-le c.loop-place.place c.args.base.now (omega (arith, within)), within, c.len-place-end.ensures.fits)) refl

pub loop-place-preserved : goal.loop-place-preserved
loop-place-preserved c =
    subst (HasCounted (mark_of c.args.marks.now) (mark_of c.count_row.new.marks)) (sym (take_item c.args.base.now c.loop-place.place c.at.result c.at.ensures.row))
    (counted_next (mark_of c.args.marks.now) (mark_of c.loop-place.marks) (mark_of c.count_row.new.marks) (take c.loop-place.place c.args.base.now) c.at.result c.loop-place.invariant c.in_ok-count_row.ensures)
