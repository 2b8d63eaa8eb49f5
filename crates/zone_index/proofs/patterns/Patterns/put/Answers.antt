use Rattle.std.proofs.Common.{◌≡◌, subst}
use Rattle.dns_name.specs.Labels.{IsName, lowered}
use Rattle.qname_index.specs.Best.{pattern_order}
use Rattle.trigger_codec.specs.Bases.{IsPattern}
use Rattle.zone_index.proofs.Counting.{fits}
use Rattle.zone_index.proofs.Lower.{pattern_total, patterns_with}
use Rattle.zone_index.proofs.patterns.Patterns.put.Goals as goal

pub tally-requires : goal.tally-requires
tally-requires c = fits pattern_order pattern_total c.args.pattern.now c.self.inside.trie c.args.self c.self.inside.acting c.get-old.result c.self.invariant.counted c.self.view_is c.get-old.ensures

pub invariant_of-result : goal.invariant_of-result
invariant_of-result c =
    let is : IsPattern c.args.pattern.now = record {
      is_base = subst IsName c.base-base.ensures.base c.base-base.ensures.name;
      is_lower_case = subst (λ n. lowered n ≡ n) c.base-base.ensures.base c.base-base.ensures.lower;
    } in
    patterns_with c.args.pattern.now c.args.value c.self.inside.trie c.args.self c.in_ok-trie.trie c.self.inside.acting c.in_ok-acting.acting c.get-old.result
    c.self.invariant c.self.view_is is c.get-old.ensures c.in_ok-acting.ensures c.in_ok-trie.ensures
