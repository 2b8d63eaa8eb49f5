use Rattle.std.proofs.Common.{ℕ, List, ◌++◌, sym, ap, ◌∙◌}
use Rattle.dns_record.specs.Row.{PlainRow}
use Rattle.zone_rows.specs.Marks.{mark_of, live_from}
use Rattle.zone_rows.proofs.LiveRows.{live_both}
use Rattle.zone_rows.proofs.draft.Draft.into_rows.Goals as goal

pub returns : goal.returns
returns c =
    let f = mark_of c.args.self.marks in
    c.in_ok-keep-2.ensures
    ∙ ap (λ (rows : List PlainRow). rows ++ live_from f c.len.result c.args.self.added) (c.in_ok-keep.ensures ∙ ap (λ (rows : List PlainRow). rows ++ live_from f 0 c.args.base.now) c.new-rows.ensures)
    ∙ ap (λ (n : ℕ). live_from f 0 c.args.base.now ++ live_from f n c.args.self.added) c.len.ensures.len
    ∙ sym (live_both f c.args.base.now c.args.self.added)
