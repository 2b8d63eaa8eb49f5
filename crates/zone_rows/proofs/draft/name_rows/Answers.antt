use Rattle.std.proofs.Common.{sym}
use Rattle.std.proofs.lemmas.Option.{slice_get_within, get_or_from_slice_get}
use Rattle.zone_rows.specs.Marks.{mark_of}
use Rattle.zone_rows.proofs.Naming.{names_next}
use Rattle.zone_rows.proofs.draft.name_rows.Goals as goal

pub loop-place-preserved : goal.loop-place-preserved
loop-place-preserved c =
    names_next (mark_of c.args.marks.now) (mark_of c.loop-place.marks) (mark_of c.name_row.new.marks) c.args.rows.now c.loop-place.place c.at.result (slice_get_within c.args.rows.now c.loop-place.place c.at.result c.at.ensures.row)
    (sym (get_or_from_slice_get c.args.rows.now c.loop-place.place c.at.result c.at.result c.at.ensures.row)) c.loop-place.invariant c.in_ok-name_row.ensures
