use Rattle.std.proofs.Common.{◌≡◌, subst}
use Rattle.dns_name.specs.Labels.{IsName, lowered}
use Rattle.trigger_codec.specs.Bases.{IsPattern}
use Rattle.zone_index.proofs.Filled.{pattern_found, pattern_put}
use Rattle.zone_index.proofs.pattern_entries.PatternEntries.put.Goals as goal

pub invariant_of-self-2 : goal.invariant_of-self-2
invariant_of-self-2 c =
    let is : IsPattern c.args.pattern.now = record {
      is_base = subst IsName c.base-base.ensures.base c.base-base.ensures.name;
      is_lower_case = subst (λ n. lowered n ≡ n) c.base-base.ensures.base c.base-base.ensures.lower;
    } in
    pattern_found c.self.inside.found.items _ c.args.pattern.now c.requires.key c.is_wild-wild.ensures c.keys_are_of_patterns.ensures.back c.keys_are_of_patterns.ensures.key
    c.self.inside.acting c.in_ok-acting.acting c.args.self.now c.push.new.self.items c.self.invariant c.self.view_is c.in_ok-push.ensures.items c.requires.present is c.requires.none c.in_ok-acting.ensures

pub returns : goal.returns
returns c =
    pattern_put c.self.inside.found.items _ c.args.pattern.now c.requires.key c.is_wild-wild.ensures c.keys_are_of_patterns.ensures.back c.keys_are_of_patterns.ensures.key
    c.args.self.now c.push.new.self.items c.self.view_is c.in_ok-push.ensures.items
