use Rattle.std.proofs.Common.{◌≡◌, map, true, sym, ap, ◌∙◌, subst}
use Rattle.std.specs.List.{AllByRecursion}
use Rattle.octet_trie.specs.Trie.{found_entry}
use Rattle.qname_index.specs.Ranked.{ArePatternKeys, IsPatternKey}
use Rattle.summary_index.proofs.Listing.{all_in_trie, all_present, present_found, zones_listed}
use Rattle.summary_index.proofs.names.NameSummary.listed.Goals as goal

pub of-requires-clause-keys : goal.of-requires-clause-keys
of-requires-clause-keys c =
    subst (λ es. ArePatternKeys es) (sym (ap (map found_entry) c.deref.ensures.value ∙ c.in_ok-entries.ensures)) (all_in_trie IsPatternKey (map found_entry c.args.entries.now) c.requires.keys)

pub of-requires-clause-present : goal.of-requires-clause-present
of-requires-clause-present c =
    present_found c.deref.result.now
    (subst (λ es. AllByRecursion (λ e. e.1.mark ≡ true) es) (sym (ap (map found_entry) c.deref.ensures.value ∙ c.in_ok-entries.ensures)) (all_present (map found_entry c.args.entries.now)))

pub returns-clause-at : goal.returns-clause-at
returns-clause-at c = λ p is.
    zones_listed c.keys_are_of_patterns.ensures.back (map found_entry c.args.entries.now) (map found_entry c.deref.result.now) c.in_ok-trie.trie c.requires
    (ap (map found_entry) c.deref.ensures.value ∙ c.in_ok-entries.ensures) c.in_ok-trie.ensures p
