use Rattle.notify_poll.proofs.Apart.{others_stay}
use Rattle.notify_poll.proofs.Noted.{is_notify, is_taken}
use Rattle.notify_poll.proofs.laws.only_its_primary_brings_a_zone_forward.Goals as goal

pub returns-clause-notify : goal.returns-clause-notify
returns-clause-notify c = is_notify

pub returns-clause-others : goal.returns-clause-others
returns-clause-others c = others_stay

pub returns-clause-taken : goal.returns-clause-taken
returns-clause-taken c = is_taken
