use Rattle.std.proofs.Common.{map}
use Rattle.octet_trie.specs.Trie.{found_entry}
use Rattle.zone_index.specs.ActingEntries.{StandsByKey, at_pattern, marked_if_entry, marked_if_kept, pattern_values}
use Rattle.zone_index.proofs.Acted.{if_stand, patterns_stand}
use Rattle.zone_index.proofs.trigger_index.TriggerIndex.patterns_by_key.Goals as goal

pub returns-clause-found : goal.returns-clause-found
returns-clause-found g c =
    if_stand (λ es. StandsByKey (λ p. marked_if_kept c.args.value (at_pattern (pattern_values c.self.inside.places.rules c.args.kind) p)) (map found_entry es.items))
    (λ es. StandsByKey (λ p. marked_if_entry c.args.value (at_pattern (pattern_values c.args.self.now.rules c.args.kind) p)) (map found_entry es.items))
    c.acting_keys.result
    (λ es h. patterns_stand c.args.value c.self.inside.groups c.self.inside.places c.args.self.now c.self.invariant c.self.view_is c.args.kind (map found_entry es.items) h)
    c.acting_keys.ensures.found
