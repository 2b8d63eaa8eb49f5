use Rattle.ixfr_apply.proofs.Short.{newer_if_short}
use Rattle.ixfr_apply.proofs.requests.request_newer.Goals as goal

pub returns-clause-short : goal.returns-clause-short
returns-clause-short c =
    newer_if_short c.written.result c.args.id c.args.origin.now c.in_ok-copied.field-0 c.args.soa.now c.in_ok-record.field-0
    c.octets-origin.ensures.name c.octets-mname.ensures.name c.octets-rname.ensures.name c.in_ok-record.ensures c.in_ok-copied.ensures c.written.ensures
