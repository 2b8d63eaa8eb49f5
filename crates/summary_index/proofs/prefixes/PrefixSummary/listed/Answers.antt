use Rattle.std.proofs.Common.{◌≡◌, true, sym, ◌∙◌, subst}
use Rattle.std.specs.List.{AllByRecursion}
use Rattle.summary_index.proofs.Listing.{all_present, zones_of_prefixes}
use Rattle.summary_index.proofs.prefixes.PrefixSummary.listed.Goals as goal

pub of-requires : goal.of-requires
of-requires c = subst (λ es. AllByRecursion (λ e. e.1.mark ≡ true) es) (sym (c.deref.ensures.value ∙ c.in_ok-entries.ensures)) (all_present c.args.entries.now)

pub returns-clause-at : goal.returns-clause-at
returns-clause-at c = λ p. zones_of_prefixes c.args.entries.now c.deref.result.now c.in_ok-trie.trie c.requires (c.deref.ensures.value ∙ c.in_ok-entries.ensures) c.in_ok-trie.ensures p
