use Rattle.std.proofs.Common.{subst}
use Rattle.std.specs.List.Sorted.{IsStrictlySortedBy}
use Rattle.std.specs.Map.{keys_of}
use Rattle.ip_prefix.specs.Prefix.{prefix_order}
use Rattle.prefix_index.specs.Ranked.{prefixes}
use Rattle.prefix_index.proofs.Ranking.{sorted_ranked}
use Rattle.prefix_index.proofs.map.PrefixTrie.in_order.Goals as goal

pub returns : goal.returns
returns g c = subst (λ es. IsStrictlySortedBy prefix_order (keys_of es)) c.self.view_is (sorted_ranked (prefixes c.self.inside.four c.self.inside.six))
