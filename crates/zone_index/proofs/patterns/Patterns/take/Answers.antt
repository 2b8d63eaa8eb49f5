use Rattle.qname_index.specs.Best.{pattern_order}
use Rattle.zone_index.proofs.Counting.{fits}
use Rattle.zone_index.proofs.Lower.{pattern_total, patterns_without}
use Rattle.zone_index.proofs.patterns.Patterns.take.Goals as goal

pub tally_without-acting-requires : goal.tally_without-acting-requires
tally_without-acting-requires c = fits pattern_order pattern_total c.args.pattern.now c.self.inside.trie c.args.self c.self.inside.acting c.get-old.result c.self.invariant.counted c.self.view_is c.get-old.ensures

pub invariant_of-result : goal.invariant_of-result
invariant_of-result c =
    patterns_without c.args.pattern.now c.self.inside.trie c.args.self c.in_ok-trie.trie c.self.inside.acting c.tally_without-acting.result c.get-old.result
    c.self.invariant c.self.view_is c.get-old.ensures c.tally_without-acting.ensures c.in_ok-trie.ensures
