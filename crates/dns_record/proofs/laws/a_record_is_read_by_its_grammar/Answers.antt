use Rattle.dns_record.proofs.RecordFaults.{record_shows, record_fails}
use Rattle.dns_record.proofs.RecordGrammar.{record_stands, record_only}
use Rattle.dns_record.proofs.laws.a_record_is_read_by_its_grammar.Goals as goal

pub returns-clause-stands : goal.returns-clause-stands
returns-clause-stands c = record_stands

pub returns-clause-only : goal.returns-clause-only
returns-clause-only c = record_only

pub returns-clause-shows : goal.returns-clause-shows
returns-clause-shows c = record_shows

pub returns-clause-only_fault : goal.returns-clause-only_fault
returns-clause-only_fault c = record_fails
