use Rattle.std.proofs.Common.{sym}
use Rattle.dns_record.proofs.Data.{is_data, parts_have}
use Rattle.dns_record.proofs.reading.read_data.Goals as goal

pub returns-clause-data : goal.returns-clause-data
returns-clause-data c = is_data c.args.rtype c.args.class c.in_ok-rdata.rdata c.in-Some.parts.now (sym c.in-Some.ensures) (parts_have c.in-Some.parts.now c.args.names.now c.args.place _ c.in_ok-rdata.ensures.read)
