use Rattle.policy_snapshot.proofs.Standing.{accepted_next, zones_behind-none, policy_next, policy_length, count_after}
use Rattle.policy_snapshot.proofs.laws.a_policy_takes_transfers_one_by_one.Goals as goal

pub returns-clause-first : goal.returns-clause-first
returns-clause-first c = zones_behind-none

pub returns-clause-next : goal.returns-clause-next
returns-clause-next c = policy_next

pub returns-clause-zones : goal.returns-clause-zones
returns-clause-zones c = policy_length

pub returns-clause-count : goal.returns-clause-count
returns-clause-count c = count_after

pub returns-clause-accepted : goal.returns-clause-accepted
returns-clause-accepted c = accepted_next
