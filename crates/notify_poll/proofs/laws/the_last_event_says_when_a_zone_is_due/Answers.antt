use Rattle.notify_poll.proofs.LastEvent.{primary_is, retry_is, stage_is}
use Rattle.notify_poll.proofs.laws.the_last_event_says_when_a_zone_is_due.Goals as goal

pub returns-clause-stage : goal.returns-clause-stage
returns-clause-stage c = stage_is

pub returns-clause-retry : goal.returns-clause-retry
returns-clause-retry c = retry_is

pub returns-clause-primary : goal.returns-clause-primary
returns-clause-primary c = primary_is
