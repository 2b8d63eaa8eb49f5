use Rattle.octet_trie.proofs.Tries.{root_trie, root_list}
use Rattle.octet_trie.proofs.trie.OctetTrie.empty.Goals as goal

pub invariant_of-result : goal.invariant_of-result
invariant_of-result g c = root_trie _ _ c.new.ensures c.root.ensures

pub returns : goal.returns
returns g c = root_list _ _ c.new.ensures c.root.ensures
