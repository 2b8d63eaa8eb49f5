use Rattle.std.proofs.Common.{map, ap, ◌∙◌}
use Rattle.std.proofs.lemmas.Result.{IfOk-weaker}
use Rattle.octet_trie.specs.Trie.{found_entry}
use Rattle.summary_index.specs.Entries.{entries_without}
use Rattle.summary_index.proofs.WithoutZone.{keys_without, none_empty, none_empty_found, zones_of_patterns}
use Rattle.summary_index.proofs.names.NameSummary.without_zone.Goals as goal

pub returns-clause-keys : goal.returns-clause-keys
returns-clause-keys c =
    IfOk-weaker c.without_zone.result _ _ (λ left e. keys_without c.args.number (map found_entry c.in_ok-entries.entries.items) (map found_entry left.items) c.in_ok-entries.ensures.keys
    (e ∙ ap (λ es. entries_without c.args.number (map found_entry es)) c.deref.ensures.value)) c.without_zone.ensures

pub returns-clause-zones : goal.returns-clause-zones
returns-clause-zones c =
    IfOk-weaker c.without_zone.result _ _ (λ left e p is n low high. zones_of_patterns c.keys_are_of_patterns.ensures.back c.args.number (map found_entry c.in_ok-entries.entries.items) (map found_entry left.items) c.args.self.now.triggers
    c.requires.some c.requires.within c.in_ok-entries.ensures.keys (c.in_ok-entries.ensures.patterns ∙ ap (λ s. s.triggers) c.self.view_is)
    (e ∙ ap (λ es. entries_without c.args.number (map found_entry es)) c.deref.ensures.value) p n low high) c.without_zone.ensures

pub returns-clause-left : goal.returns-clause-left
returns-clause-left c =
    IfOk-weaker c.without_zone.result _ _ (λ left e. none_empty_found left.items (none_empty c.args.number (map found_entry c.in_ok-entries.entries.items) (map found_entry left.items)
    (e ∙ ap (λ es. entries_without c.args.number (map found_entry es)) c.deref.ensures.value))) c.without_zone.ensures
