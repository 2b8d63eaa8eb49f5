use Rattle.std.proofs.Common.{map}
use Rattle.octet_trie.specs.Trie.{found_entry}
use Rattle.qname_index.proofs.Filled.{short_keys, filled_trie, filled_list}
use Rattle.qname_index.proofs.map.NameTrie.of.Goals as goal

pub of-requires-clause-short : goal.of-requires-clause-short
of-requires-clause-short g c = short_keys c.args.entries.now c.requires.keys

pub invariant_of-result : goal.invariant_of-result
invariant_of-result g c = filled_trie (map found_entry c.args.entries.now) c.in_ok-trie.trie c.requires.keys c.in_ok-trie.ensures

pub returns : goal.returns
returns g c = filled_list (map found_entry c.args.entries.now) c.in_ok-trie.trie c.requires.keys c.in_ok-trie.ensures
