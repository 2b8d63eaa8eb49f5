use Rattle.std.proofs.Common.{◌∙◌}
use Rattle.zone_index.proofs.LookUps.{Looking, has_looked}
use Rattle.zone_index.proofs.indexed.IndexedRows.has.Goals as goal

pub returns : goal.returns
returns c =
    let l : Looking c.self.inside.origin c.self.inside.rows c.self.inside.index c.args.self.now = record {
      laws = record { by_octets = c.names_of_equal_octets_are_equal.ensures; lower_once = c.case_does_not_matter.ensures.lower };
      rise = c.len-count.ensures.rising;
      is = c.self.invariant;
      ranked = c.in_order.ensures.ranked;
      lower = c.in_order.ensures.lower;
      view = c.self.view_is;
    } in
    c.has.ensures ∙ has_looked c.self.inside.origin c.self.inside.rows c.self.inside.index c.args.self.now l c.args.kind
