use Rattle.notify_poll.proofs.Apart.{own_timer}
use Rattle.notify_poll.proofs.laws.a_zone_has_its_own_timer.Goals as goal

pub returns : goal.returns
returns c = own_timer
