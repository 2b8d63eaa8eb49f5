use Rattle.dns_name.proofs.Standing.{name_written, name_is, name_in_full}
use Rattle.dns_name.proofs.laws.a_name_is_read_where_it_stands.Goals as goal

pub returns-clause-written : goal.returns-clause-written
returns-clause-written c = name_written

pub returns-clause-name : goal.returns-clause-name
returns-clause-name c = name_is

pub returns-clause-in_full : goal.returns-clause-in_full
returns-clause-in_full c = name_in_full
