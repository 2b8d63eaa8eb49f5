use Rattle.dns_name.proofs.AlikeLemmas.{lowered-lowered, matches-lowered}
use Rattle.dns_name.proofs.laws.case_does_not_matter.Goals as goal

pub returns-clause-lower : goal.returns-clause-lower
returns-clause-lower c = lowered-lowered

pub returns-clause-pattern : goal.returns-clause-pattern
returns-clause-pattern c = matches-lowered
