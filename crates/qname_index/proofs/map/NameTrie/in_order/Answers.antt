use Rattle.std.proofs.Common.{subst}
use Rattle.std.specs.List.{AllByRecursion}
use Rattle.std.specs.List.Sorted.{IsStrictlySortedBy}
use Rattle.std.specs.Map.{keys_of}
use Rattle.qname_index.specs.Best.{pattern_order}
use Rattle.qname_index.specs.Index.{IsKey}
use Rattle.qname_index.specs.Ranked.{patterns}
use Rattle.qname_index.proofs.Finding.{all_ranked}
use Rattle.qname_index.proofs.Ranking.{keys_of_patterns, sorted_ranked}
use Rattle.qname_index.proofs.map.NameTrie.in_order.Goals as goal

pub returns-clause-sorted : goal.returns-clause-sorted
returns-clause-sorted g c = subst (λ es. IsStrictlySortedBy pattern_order (keys_of es)) c.self.view_is (sorted_ranked (patterns c.self.inside.trie))

pub returns-clause-keys : goal.returns-clause-keys
returns-clause-keys g c =
    subst (λ es. AllByRecursion (λ e. IsKey e.0) es) c.self.view_is
    (all_ranked (λ e. IsKey e.0) (patterns c.self.inside.trie) (keys_of_patterns c.self.inside.trie c.self.invariant.keys))
