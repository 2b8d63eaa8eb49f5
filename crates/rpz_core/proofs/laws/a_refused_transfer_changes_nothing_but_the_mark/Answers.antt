use Rattle.policy_snapshot.specs.Policy.{zone_at}
use Rattle.rpz_core.specs.World.{policy_of, world_step}
use Rattle.rpz_core.proofs.Transfers.{refused_keeps, refused_retries, keeps_clock, keeps_marks, keeps_sessions, keeps_timers}
use Rattle.rpz_core.proofs.laws.a_refused_transfer_changes_nothing_but_the_mark.Goals as goal

pub returns-clause-accepted : goal.returns-clause-accepted
unfolding world_step
returns-clause-accepted c = λ world next number zone stream why e. refused_keeps world next number zone stream why (zone_at (policy_of world).zones number) e

pub returns-clause-others : goal.returns-clause-others
unfolding world_step
returns-clause-others c = λ world next number other stream out e differs. keeps_marks world next number other stream (zone_at (policy_of world).zones number) out e differs

pub returns-clause-pending : goal.returns-clause-pending
unfolding world_step
returns-clause-pending c = λ world next number stream out e. keeps_sessions world next number stream (zone_at (policy_of world).zones number) out e

pub returns-clause-settings : goal.returns-clause-settings
unfolding world_step
returns-clause-settings c = λ world next number stream out e. (keeps_clock world next number stream (zone_at (policy_of world).zones number) out e).0

pub returns-clause-clock : goal.returns-clause-clock
unfolding world_step
returns-clause-clock c = λ world next number stream out e. (keeps_clock world next number stream (zone_at (policy_of world).zones number) out e).1

pub returns-clause-retries : goal.returns-clause-retries
unfolding world_step
returns-clause-retries c = λ world next number zone stream why e. refused_retries world next number zone stream why (zone_at (policy_of world).zones number) e

pub returns-clause-timers : goal.returns-clause-timers
unfolding world_step
returns-clause-timers c = λ world next number other stream out e differs. keeps_timers world next number other stream (zone_at (policy_of world).zones number) out e differs
