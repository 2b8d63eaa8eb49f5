use Rattle.dns_record.proofs.Numbers.{length-number_octets, number_read, u16_stands, u32_stands, number_fits}
use Rattle.dns_record.proofs.laws.a_number_is_read_where_it_stands.Goals as goal

pub returns-clause-written : goal.returns-clause-written
returns-clause-written c = number_read

pub returns-clause-short : goal.returns-clause-short
returns-clause-short c = u16_stands

pub returns-clause-long : goal.returns-clause-long
returns-clause-long c = u32_stands

pub returns-clause-short_fits : goal.returns-clause-short_fits
returns-clause-short_fits c = number_fits 2

pub returns-clause-long_fits : goal.returns-clause-long_fits
returns-clause-long_fits c = number_fits 4

pub returns-clause-count : goal.returns-clause-count
returns-clause-count c = length-number_octets
