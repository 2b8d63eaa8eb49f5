use Rattle.std.proofs.Common.{rules}
use Rattle.zone_index.proofs.FirstRule.{none_of_another, none_without}
use Rattle.zone_index.specs.Placed.{rules_in}
use Rattle.zone_index.proofs.addresses.about_record.Goals as goal

pub returns-then-not-is_same : goal.returns-then-not-is_same
returns-then-not-is_same c = none_of_another c.args.owner.now c.args.rr (rules_in c.args.rows.now).response_ip (search rules)

pub returns-in-None : goal.returns-in-None
returns-in-None c = none_without c.args.owner.now c.args.rr (rules_in c.args.rows.now).response_ip (search rules)
