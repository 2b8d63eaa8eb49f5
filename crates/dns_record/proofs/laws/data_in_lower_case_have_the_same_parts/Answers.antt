use Rattle.dns_record.proofs.LowerCase.{data_lowered, data_only}
use Rattle.dns_record.proofs.laws.data_in_lower_case_have_the_same_parts.Goals as goal

pub returns-clause-lowered : goal.returns-clause-lowered
returns-clause-lowered c = data_lowered

pub returns-clause-only : goal.returns-clause-only
returns-clause-only c = data_only
