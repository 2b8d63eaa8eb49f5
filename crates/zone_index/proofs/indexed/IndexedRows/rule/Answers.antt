use Rattle.std.proofs.Common.{None, Some, ap, sym, ◌∙◌}
use Rattle.std.specs.Option.{option_map}
use Rattle.zone_index.specs.Entry.{entry_seen}
use Rattle.zone_index.proofs.LookUps.{Looking, rule_looked}
use Rattle.zone_index.proofs.indexed.IndexedRows.rule.Goals as goal

pub returns-in-None : goal.returns-in-None
returns-in-None c =
    let l : Looking c.self.inside.origin c.self.inside.rows c.self.inside.index c.args.self.now = record {
      laws = record { by_octets = c.names_of_equal_octets_are_equal.ensures; lower_once = c.case_does_not_matter.ensures.lower };
      rise = c.len-count.ensures.rising;
      is = c.self.invariant;
      ranked = c.in_order.ensures.ranked;
      lower = c.in_order.ensures.lower;
      view = c.self.view_is;
    } in
    rule_looked c.self.inside.origin c.self.inside.rows c.self.inside.index c.args.self.now l c.args.trigger.now None (sym (ap (option_map entry_seen) c.in-None.is) ∙ c.rule.ensures)

pub returns-in-Some : goal.returns-in-Some
returns-in-Some c =
    let l : Looking c.self.inside.origin c.self.inside.rows c.self.inside.index c.args.self.now = record {
      laws = record { by_octets = c.names_of_equal_octets_are_equal.ensures; lower_once = c.case_does_not_matter.ensures.lower };
      rise = c.len-count.ensures.rising;
      is = c.self.invariant;
      ranked = c.in_order.ensures.ranked;
      lower = c.in_order.ensures.lower;
      view = c.self.view_is;
    } in
    c.lend.ensures ∙ rule_looked c.self.inside.origin c.self.inside.rows c.self.inside.index c.args.self.now l c.args.trigger.now (Some (entry_seen c.in-Some.entry)) (sym (ap (option_map entry_seen) c.in-Some.is) ∙ c.rule.ensures)
