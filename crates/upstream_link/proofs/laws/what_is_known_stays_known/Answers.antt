use Rattle.upstream_link.proofs.FactLemmas.{fact_stays, records_stay, servers_stay}
use Rattle.upstream_link.proofs.laws.what_is_known_stays_known.Goals as goal

pub returns-clause-known : goal.returns-clause-known
returns-clause-known c = fact_stays

pub returns-clause-records : goal.returns-clause-records
returns-clause-records c = records_stay

pub returns-clause-servers : goal.returns-clause-servers
returns-clause-servers c = servers_stay
