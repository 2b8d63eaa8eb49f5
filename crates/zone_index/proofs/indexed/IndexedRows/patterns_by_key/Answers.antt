use Rattle.std.proofs.Common.{map}
use Rattle.octet_trie.specs.Trie.{found_entry}
use Rattle.zone_index.specs.ActingEntries.{StandsByKey, at_pattern, marked_if_entry, marked_if_rule, pattern_rules, pattern_values}
use Rattle.zone_index.specs.Placed.{rules_in}
use Rattle.zone_index.proofs.Acted.{if_stand, pattern_rules_stand}
use Rattle.zone_index.proofs.LookUps.{Looking}
use Rattle.zone_index.proofs.indexed.IndexedRows.patterns_by_key.Goals as goal

pub returns-clause-rules : goal.returns-clause-rules
returns-clause-rules g c =
    let l : Looking c.self.inside.origin c.self.inside.rows c.self.inside.index c.args.self.now = record {
      laws = record { by_octets = c.names_of_equal_octets_are_equal.ensures; lower_once = c.case_does_not_matter.ensures.lower };
      rise = c.len-count.ensures.rising;
      is = c.self.invariant;
      ranked = c.in_order.ensures.ranked;
      lower = c.in_order.ensures.lower;
      view = c.self.view_is;
    } in
    if_stand (λ es. StandsByKey (λ p. marked_if_entry c.args.value (at_pattern (pattern_values c.self.inside.index.rules c.args.kind) p)) (map found_entry es.items))
    (λ es. StandsByKey (λ p. marked_if_rule c.args.value (at_pattern (pattern_rules (rules_in c.args.self.now) c.args.kind) p)) (map found_entry es.items))
    c.patterns_by_key.result
    (λ es h. pattern_rules_stand c.args.value c.self.inside.origin c.self.inside.rows c.self.inside.index c.args.self.now l c.args.kind (map found_entry es.items) h)
    c.patterns_by_key.ensures.found
