use Rattle.std.proofs.Common.{ap, ◌∙◌, option_map}
use Rattle.zone_index.specs.Placed.{rules_in}
use Rattle.zone_index.proofs.FirstRule.{rule_at}
use Rattle.zone_index.proofs.addresses.first_about.Goals as goal

pub returns-in-None : goal.returns-in-None
returns-in-None c =
    let at = rule_at c.args.owner.now c.args.records.now (rules_in c.args.rows.now).response_ip c.in_ok-prefix.prefix c.in_ok-prefix.ensures.sorted c.in_ok-prefix.ensures.prefix in
    ap (option_map (λ v. (c.in_ok-prefix.prefix, v))) c.in-None.ensures ∙ at

pub returns : goal.returns
returns c =
    let at = rule_at c.args.owner.now c.args.records.now (rules_in c.args.rows.now).response_ip c.in_ok-prefix.prefix c.in_ok-prefix.ensures.sorted c.in_ok-prefix.ensures.prefix in
    ap (option_map (λ v. (c.in_ok-prefix.prefix, v))) c.in-Some.ensures ∙ at
