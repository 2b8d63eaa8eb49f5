use Rattle.std.proofs.Common.{ap}
use Rattle.prefix_index.specs.PlainNode.{plain_nodes}
use Rattle.prefix_index.proofs.Numbers.{of_none}
use Rattle.prefix_index.proofs.Plain.{empty_trie}
use Rattle.prefix_index.proofs.bit_trie.BitTrie.empty.Goals as goal

pub invariant_of-result : goal.invariant_of-result
invariant_of-result g c = empty_trie g.K.Key.keys g.met.K.Key.laws _ (ap (plain_nodes g.M.Mark.present) c.new.ensures)

pub returns : goal.returns
returns g c = ap (λ s. s.list) (of_none g.K.Key.keys _)
