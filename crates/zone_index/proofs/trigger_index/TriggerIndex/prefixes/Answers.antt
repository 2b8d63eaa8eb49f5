use Rattle.zone_index.specs.ActingEntries.{StandsAt, at_prefix, marked_if_entry, marked_if_kept, prefix_values}
use Rattle.zone_index.proofs.Acted.{if_stand, prefixes_stand}
use Rattle.zone_index.proofs.trigger_index.TriggerIndex.prefixes.Goals as goal

pub returns-clause-found : goal.returns-clause-found
returns-clause-found g c =
    if_stand (λ es. StandsAt (λ p. marked_if_kept c.args.value (at_prefix (prefix_values c.self.inside.places.rules c.args.kind) p)) es.items)
    (λ es. StandsAt (λ p. marked_if_entry c.args.value (at_prefix (prefix_values c.args.self.now.rules c.args.kind) p)) es.items)
    c.acting_prefixes.result
    (λ es h. prefixes_stand c.args.value c.self.inside.groups c.self.inside.places c.args.self.now c.self.invariant c.self.view_is c.args.kind es.items h)
    c.acting_prefixes.ensures.found
