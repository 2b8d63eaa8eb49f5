use Rattle.dns_record.proofs.RecordStanding.{record_written, record_is}
use Rattle.dns_record.proofs.laws.a_record_is_read_where_it_stands.Goals as goal

pub returns-clause-written : goal.returns-clause-written
returns-clause-written c = record_written

pub returns-clause-is_record : goal.returns-clause-is_record
returns-clause-is_record c = record_is
