use Rattle.std.proofs.Common.{ℕ, List, map, ap, ◌∙◌}
use Rattle.octet_trie.specs.Trie.{found_entry}
use Rattle.octet_trie.specs.declared.trie.OctetFound.{OctetFound}
use Rattle.zone_index.specs.ActingEntries.{acting_marked}
use Rattle.zone_index.specs.declared.kept.Kept.{Kept}
use Rattle.zone_index.proofs.Acted.{made_at, made_trie}
use Rattle.zone_index.proofs.patterns.Patterns.acting_keys.Goals as goal

pub returns-clause-keys : goal.returns-clause-keys
returns-clause-keys g c =
    made_trie c.args.value c.in_ok-found.found.items c.in_ok-entries.entries.items c.in_ok-found.ensures.keys
    (c.in_ok-entries.ensures ∙ ap (λ (l : List (OctetFound ℕ Kept)). acting_marked c.args.value (map found_entry l)) c.deref.ensures.value)

pub returns-clause-found : goal.returns-clause-found
returns-clause-found g c =
    made_at c.args.value c.in_ok-found.found.items c.in_ok-entries.entries.items c.in_ok-found.ensures.keys
    (c.in_ok-entries.ensures ∙ ap (λ (l : List (OctetFound ℕ Kept)). acting_marked c.args.value (map found_entry l)) c.deref.ensures.value)
    c.args.self.now (c.in_ok-found.ensures.patterns ∙ c.self.view_is)
