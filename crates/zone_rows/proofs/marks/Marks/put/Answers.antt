use Rattle.std.proofs.Common.{◌∙◌, ap, cond, Some, bytes_eq}
use Rattle.zone_rows.specs.Marks.{mark_of}
use Rattle.zone_rows.proofs.KeyMarks.{lookup_put}
use Rattle.zone_rows.proofs.marks.Marks.put.Goals as goal

pub returns-clause-ok : goal.returns-clause-ok
returns-clause-ok c = λ other.
    let updates = c.in_ok-insert.ensures.updates in
    lookup_put (λ k. k.items) c.args.key.items c.self.inside.marks.entries c.insert.new.self.entries (Some c.args.mark) updates.1 updates.3 other
    ∙ ap (λ marks. cond (bytes_eq c.args.key.items other) (Some c.args.mark) (mark_of marks other)) c.self.view_is
