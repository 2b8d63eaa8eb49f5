use Rattle.std.proofs.Common.{sym, ◌∙◌}
use Rattle.zone_index.proofs.FirstRule.{none_about_clients}
use Rattle.zone_index.proofs.rules.Rules.client_ip.Goals as goal

pub returns-then-not-has : goal.returns-then-not-has
returns-then-not-has c = none_about_clients c.args.addr c.args.self.now.client_ip (sym c.has.ensures ∙ c.if-not-has.true)
