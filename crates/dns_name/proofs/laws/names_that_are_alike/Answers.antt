use Rattle.dns_name.proofs.AlikeLemmas.{same_name_is, ends_with_is}
use Rattle.dns_name.proofs.laws.names_that_are_alike.Goals as goal

pub returns-clause-same : goal.returns-clause-same
returns-clause-same c = same_name_is

pub returns-clause-within : goal.returns-clause-within
returns-clause-within c = ends_with_is
