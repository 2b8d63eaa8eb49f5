use Rattle.std.proofs.Common.{ap}
use Rattle.prefix_index.specs.PlainNode.{plain_nodes}
use Rattle.prefix_index.proofs.Plain.{empty_trie}
use Rattle.prefix_index.proofs.bit_trie.BitTrie.rebuilt.Goals as goal

pub copy-requires-clause-well : goal.copy-requires-clause-well
copy-requires-clause-well g c = (empty_trie g.K.Key.keys g.met.K.Key.laws _ (ap (plain_nodes g.M.Mark.present) c.new-nodes.ensures)).well
