use Rattle.std.proofs.Common.{◌≡◌, true, List, take, sym, subst}
use Rattle.dns_record.specs.Row.{PlainRow}
use Rattle.zone_rows.proofs.Places.{take_item}
use Rattle.zone_rows.proofs.Repeats.{HasKept, none_kept, row_kept}
use Rattle.zone_rows.proofs.rows.Rows.is_distinct.Goals as goal

pub loop-place-init : goal.loop-place-init
loop-place-init c = rw c.new-seen.ensures none_kept

pub loop-place-preserved : goal.loop-place-preserved
loop-place-preserved c =
    let taken = take c.loop-place.place c.args.self.now in
    let new : c.in_ok-is_new.is_new ≡ true = cc in
    subst (λ (rows : List PlainRow). HasKept rows rows c.insert.new.self) (sym (take_item c.args.self.now c.loop-place.place c.at.result c.at.ensures.row))
    (row_kept taken taken c.loop-place.seen c.insert.new.self c.at.result c.in_ok-identity.field-0.items c.in_ok-is_new.is_new c.loop-place.invariant c.in_ok-identity.ensures c.in_ok-is_new.ensures.new new c.in_ok-is_new.ensures.ok)
