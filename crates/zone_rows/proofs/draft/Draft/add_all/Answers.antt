use Rattle.std.proofs.Common.{◌+◌, List, drop, subst}
use Rattle.std.proofs.lemmas.Result.{err_from_is_err_and}
use Rattle.dns_record.specs.Row.{PlainRow}
use Rattle.zone_rows.specs.Drafts.{rows_of}
use Rattle.zone_rows.specs.Marks.{mark_of, AreNamed}
use Rattle.zone_rows.specs.Steps.{with_added}
use Rattle.zone_rows.proofs.DraftSteps.{GoesOn, adds_next, adds_fails, first_named}
use Rattle.zone_rows.proofs.Places.{drop_item}
use Rattle.zone_rows.proofs.draft.Draft.add_all.Goals as goal

pub add-requires-clause-named : goal.add-requires-clause-named
add-requires-clause-named c =
    let e = drop_item c.args.rows.now c.loop-place.place c.at.result c.at.ensures.row in
    first_named (mark_of c.loop-place.self.marks) c.at.result (drop (c.loop-place.place + 1) c.args.rows.now) (subst (λ (r : List PlainRow). AreNamed (mark_of c.loop-place.self.marks) r) e c.loop-place.invariant.named)

pub loop-place-preserved : goal.loop-place-preserved
loop-place-preserved c =
    let e = drop_item c.args.rows.now c.loop-place.place c.at.result c.at.ensures.row in
    adds_next c.args.base.now c.args.self.now c.loop-place.self c.add.new.self (with_added c.args.bound (c.args.step + 1) 1 (rows_of c.args.base.now c.args.self.now) c.args.rows.now)
    c.args.bound (c.args.step + 1) (c.loop-place.place + 1) c.at.result (drop (c.loop-place.place + 1) c.args.rows.now)
    (subst (λ (r : List PlainRow). GoesOn c.args.base.now c.args.self.now c.loop-place.self (with_added c.args.bound (c.args.step + 1) 1 (rows_of c.args.base.now c.args.self.now) c.args.rows.now)
    (with_added c.args.bound (c.args.step + 1) (c.loop-place.place + 1) (rows_of c.args.base.now c.loop-place.self) r) r) e c.loop-place.invariant)
    c.in_ok-add.ensures

pub returns-in_err-add : goal.returns-in_err-add
returns-in_err-add c =
    let e = drop_item c.args.rows.now c.loop-place.place c.at.result c.at.ensures.row in
    let p = err_from_is_err_and c.from_residual.result c.from_residual.ensures.1 in
    rw (p.1, p.2)
    (adds_fails c.args.base.now c.args.self.now c.loop-place.self (with_added c.args.bound (c.args.step + 1) 1 (rows_of c.args.base.now c.args.self.now) c.args.rows.now)
    c.args.bound (c.args.step + 1) (c.loop-place.place + 1) c.at.result (drop (c.loop-place.place + 1) c.args.rows.now) c.in_err-add.field-0.0
    (subst (λ (r : List PlainRow). GoesOn c.args.base.now c.args.self.now c.loop-place.self (with_added c.args.bound (c.args.step + 1) 1 (rows_of c.args.base.now c.args.self.now) c.args.rows.now)
    (with_added c.args.bound (c.args.step + 1) (c.loop-place.place + 1) (rows_of c.args.base.now c.loop-place.self) r) r) e c.loop-place.invariant)
    c.in_err-add.ensures)
