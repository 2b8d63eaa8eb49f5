use Rattle.std.proofs.Common.{sym, ap, ◌∙◌}
use Rattle.dns_name.specs.Labels.{lowered}
use Rattle.dns_name.proofs.PartLemmas.{lowered-lowered}
use Rattle.dns_name.proofs.pattern.Pattern.new.Goals as goal

pub returns-clause-lower : goal.returns-clause-lower
returns-clause-lower c = ap lowered c.in_ok-lower.ensures.lowered ∙ lowered-lowered c.args.base.now ∙ sym c.in_ok-lower.ensures.lowered

pub invariant_of-result : goal.invariant_of-result
invariant_of-result c = (c.in_ok-lower.ensures.name, ap lowered c.in_ok-lower.ensures.lowered ∙ lowered-lowered c.args.base.now ∙ sym c.in_ok-lower.ensures.lowered)
