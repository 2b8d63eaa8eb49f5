use Rattle.std.proofs.Common.{◌∙◌, ap}
use Rattle.zone_rows.specs.Marks.{mark_of}
use Rattle.zone_rows.proofs.KeyMarks.{lookup_plain}
use Rattle.zone_rows.proofs.marks.Marks.get.Goals as goal

pub returns : goal.returns
returns c =
    c.copied.ensures ∙ c.get.ensures.value ∙ lookup_plain (λ k. k.items) c.args.key.now c.self.inside.marks.entries ∙ ap (λ marks. mark_of marks c.args.key.now) c.self.view_is
