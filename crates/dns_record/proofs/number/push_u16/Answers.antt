use Rattle.dns_record.specs.Number.{number_octets}
use Rattle.dns_record.proofs.number.push_u16.Goals as goal

pub returns-clause-ok : goal.returns-clause-ok
unfolding number_octets
returns-clause-ok c = rw c.write_u16.ensures at c.append.ensures.ok
