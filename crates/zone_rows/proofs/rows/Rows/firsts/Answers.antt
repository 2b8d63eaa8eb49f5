use Rattle.std.proofs.Common.{List, [], ◌∷◌, ◌++◌, take, sym, ◌∙◌, subst}
use Rattle.dns_record.specs.Row.{PlainRow}
use Rattle.zone_rows.proofs.Places.{take_item}
use Rattle.zone_rows.proofs.Repeats.{HasKept, none_kept, row_kept, row_left}
use Rattle.zone_rows.proofs.rows.Rows.firsts.Goals.{then-is_new+in_ok-push_ref, else-is_new}
use Rattle.zone_rows.proofs.rows.Rows.firsts.Goals as goal

pub loop-place-init : goal.loop-place-init
loop-place-init c = rw (c.new-kept.ensures, c.new-seen.ensures) none_kept

pub loop-place-preserved : goal.loop-place-preserved
loop-place-preserved c =
    let taken = take c.loop-place.place c.args.self.now in
    let more = take_item c.args.self.now c.loop-place.place c.at-row.result c.at-row.ensures.row in
    elim c.if-is_new.branch [
      | then-is_new+in_ok-push_ref w ↦
          subst (λ (rows : List PlainRow). HasKept rows c.if-is_new.kept c.insert.new.self) (sym more)
          (subst (λ (rows : List PlainRow). HasKept (taken ++ c.at-row.result ∷ []) rows c.insert.new.self) (sym (w.kept-is ∙ w.in_ok-push_ref.ensures.ok))
          (row_kept taken c.loop-place.kept c.loop-place.seen c.insert.new.self c.at-row.result c.in_ok-identity.field-0.items c.in_ok-is_new.is_new c.loop-place.invariant c.in_ok-identity.ensures c.in_ok-is_new.ensures.new w.if-is_new.true c.in_ok-is_new.ensures.ok))
      | else-is_new w ↦
          subst (λ (rows : List PlainRow). HasKept rows c.if-is_new.kept c.insert.new.self) (sym more)
          (subst (λ (rows : List PlainRow). HasKept (taken ++ c.at-row.result ∷ []) rows c.insert.new.self) (sym w.kept-is)
          (row_left taken c.loop-place.kept c.loop-place.seen c.insert.new.self c.at-row.result c.in_ok-identity.field-0.items c.in_ok-is_new.is_new c.loop-place.invariant c.in_ok-identity.ensures c.in_ok-is_new.ensures.new w.if-is_new.false c.in_ok-is_new.ensures.ok))
    ]
