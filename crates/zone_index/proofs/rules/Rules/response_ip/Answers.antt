use Rattle.std.proofs.Common.{sym, ◌∙◌}
use Rattle.zone_index.proofs.FirstRule.{none_without_rules}
use Rattle.zone_index.proofs.rules.Rules.response_ip.Goals as goal

pub returns-then-not-has : goal.returns-then-not-has
returns-then-not-has c = none_without_rules c.args.owner.now c.args.records.now c.args.self.now.response_ip (sym c.has.ensures ∙ c.if-not-has.true)
