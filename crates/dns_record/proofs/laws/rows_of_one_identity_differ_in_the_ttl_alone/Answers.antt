use Rattle.dns_record.proofs.Identities.{told_by_identity}
use Rattle.dns_record.proofs.laws.rows_of_one_identity_differ_in_the_ttl_alone.Goals as goal

pub returns : goal.returns
returns c = told_by_identity
