use Rattle.ip_prefix.specs.Prefix.{prefix_order}
use Rattle.prefix_index.proofs.Order.{prefix_order_total}
use Rattle.zone_index.proofs.Counting.{counted_with, fits}
use Rattle.zone_index.proofs.prefixes.Prefixes.put.Goals as goal

pub tally-requires : goal.tally-requires
tally-requires c = fits prefix_order prefix_order_total c.args.prefix.now c.self.inside.trie c.args.self c.self.inside.acting c.get-old.result c.self.invariant c.self.view_is c.get-old.ensures

pub invariant_of-result : goal.invariant_of-result
invariant_of-result c =
    counted_with prefix_order prefix_order_total c.args.prefix.now c.args.value c.self.inside.trie c.args.self c.in_ok-trie.trie c.self.inside.acting c.in_ok-acting.acting c.get-old.result
    c.self.invariant c.self.view_is c.get-old.ensures c.in_ok-acting.ensures c.in_ok-trie.ensures
