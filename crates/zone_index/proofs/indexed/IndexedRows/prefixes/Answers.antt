use Rattle.zone_index.specs.ActingEntries.{StandsAt, at_prefix, marked_if_entry, marked_if_rule, prefix_rules, prefix_values}
use Rattle.zone_index.specs.Placed.{rules_in}
use Rattle.zone_index.proofs.Acted.{if_stand, prefix_rules_stand}
use Rattle.zone_index.proofs.LookUps.{Looking}
use Rattle.zone_index.proofs.indexed.IndexedRows.prefixes.Goals as goal

pub returns-clause-rules : goal.returns-clause-rules
returns-clause-rules g c =
    let l : Looking c.self.inside.origin c.self.inside.rows c.self.inside.index c.args.self.now = record {
      laws = record { by_octets = c.names_of_equal_octets_are_equal.ensures; lower_once = c.case_does_not_matter.ensures.lower };
      rise = c.len-count.ensures.rising;
      is = c.self.invariant;
      ranked = c.in_order.ensures.ranked;
      lower = c.in_order.ensures.lower;
      view = c.self.view_is;
    } in
    if_stand (λ es. StandsAt (λ p. marked_if_entry c.args.value (at_prefix (prefix_values c.self.inside.index.rules c.args.kind) p)) es.items)
    (λ es. StandsAt (λ p. marked_if_rule c.args.value (at_prefix (prefix_rules (rules_in c.args.self.now) c.args.kind) p)) es.items)
    c.prefixes.result
    (λ es h. prefix_rules_stand c.args.value c.self.inside.origin c.self.inside.rows c.self.inside.index c.args.self.now l c.args.kind es.items h)
    c.prefixes.ensures.found
