use Rattle.std.proofs.Common.{sym, subst}
use Rattle.qname_index.specs.Trie.{IsNameTrie}
use Rattle.qname_index.proofs.Ranking.{no_entries}
use Rattle.qname_index.proofs.map.NameTrie.empty.Goals as goal

pub invariant_of-result : goal.invariant_of-result
invariant_of-result g c = subst (λ es. IsNameTrie es) (sym c.empty.ensures) no_entries
