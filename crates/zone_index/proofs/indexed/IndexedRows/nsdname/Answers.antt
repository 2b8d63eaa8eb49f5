use Rattle.std.proofs.Common.{◌∙◌}
use Rattle.std.specs.Option.{option_map}
use Rattle.zone_index.specs.Entry.{entry_seen}
use Rattle.zone_index.proofs.LookUps.{Looking, nsdname_looked}
use Rattle.zone_index.proofs.indexed.IndexedRows.nsdname.Goals as goal

pub returns : goal.returns
returns c =
    let l : Looking c.self.inside.origin c.self.inside.rows c.self.inside.index c.args.self.now = record {
      laws = record { by_octets = c.names_of_equal_octets_are_equal.ensures; lower_once = c.case_does_not_matter.ensures.lower };
      rise = c.len-count.ensures.rising;
      is = c.self.invariant;
      ranked = c.in_order.ensures.ranked;
      lower = c.in_order.ensures.lower;
      view = c.self.view_is;
    } in
    c.lend_found.ensures ∙ nsdname_looked c.self.inside.origin c.self.inside.rows c.self.inside.index c.args.self.now l c.args.name.now (option_map (λ e. (e.0, entry_seen e.1)) c.nsdname.result) c.nsdname.ensures
