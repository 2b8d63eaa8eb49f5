use Rattle.std.proofs.Common.{◌∙◌}
use Rattle.std.specs.Option.{option_map}
use Rattle.zone_index.specs.Entry.{entry_seen}
use Rattle.zone_index.proofs.LookUps.{Looking, response_ip_looked}
use Rattle.zone_index.proofs.indexed.IndexedRows.response_ip.Goals as goal

pub returns : goal.returns
returns c =
    let l : Looking c.self.inside.origin c.self.inside.rows c.self.inside.index c.args.self.now = record {
      laws = record { by_octets = c.names_of_equal_octets_are_equal.ensures; lower_once = c.case_does_not_matter.ensures.lower };
      rise = c.len-count.ensures.rising;
      is = c.self.invariant;
      ranked = c.in_order.ensures.ranked;
      lower = c.in_order.ensures.lower;
      view = c.self.view_is;
    } in
    c.lend_found.ensures ∙ response_ip_looked c.self.inside.origin c.self.inside.rows c.self.inside.index c.args.self.now l c.args.addr (option_map (λ e. (e.0, entry_seen e.1)) c.response_ip.result) c.response_ip.ensures
