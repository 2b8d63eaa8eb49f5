use Rattle.dns_name.proofs.Standing.{stands_both, stands_first, stands_second}
use Rattle.dns_name.proofs.laws.what_stands_in_two_parts.Goals as goal

pub returns-clause-both : goal.returns-clause-both
returns-clause-both c = stands_both

pub returns-clause-first : goal.returns-clause-first
returns-clause-first c = stands_first

pub returns-clause-second : goal.returns-clause-second
returns-clause-second c = stands_second
