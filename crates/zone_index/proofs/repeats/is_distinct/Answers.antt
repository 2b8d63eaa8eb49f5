use Rattle.std.proofs.Common.{refl, subst}
use Rattle.zone_index.proofs.RowsApart.{group_distinct}
use Rattle.zone_rows.specs.Distinct.{AreDistinct}
use Rattle.zone_index.proofs.repeats.is_distinct.Goals as goal

pub returns : goal.returns
returns c = λ h.
    subst AreDistinct c.in_ok-group.ensures
    (group_distinct c.in_ok-group.group c.in_ok-kept.kept c.len.result c.len-count.result _ c.in_ok-kept.ensures c.len.ensures.len c.len-count.ensures.len refl
    (c.without_repeats_stand_the_first_rows.ensures.distinct c.in_ok-group.group) h)
