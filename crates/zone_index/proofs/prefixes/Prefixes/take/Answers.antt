use Rattle.ip_prefix.specs.Prefix.{prefix_order}
use Rattle.prefix_index.proofs.Order.{prefix_order_total}
use Rattle.zone_index.proofs.Counting.{counted_without, fits}
use Rattle.zone_index.proofs.prefixes.Prefixes.take.Goals as goal

pub tally_without-acting-requires : goal.tally_without-acting-requires
tally_without-acting-requires c = fits prefix_order prefix_order_total c.args.prefix.now c.self.inside.trie c.args.self c.self.inside.acting c.get-old.result c.self.invariant c.self.view_is c.get-old.ensures

pub invariant_of-result : goal.invariant_of-result
invariant_of-result c =
    counted_without prefix_order prefix_order_total c.args.prefix.now c.self.inside.trie c.args.self c.in_ok-trie.trie c.self.inside.acting c.tally_without-acting.result c.get-old.result
    c.self.invariant c.self.view_is c.get-old.ensures c.tally_without-acting.ensures c.in_ok-trie.ensures
