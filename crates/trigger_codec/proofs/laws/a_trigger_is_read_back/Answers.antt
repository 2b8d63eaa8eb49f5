use Rattle.trigger_codec.proofs.ReadBack.{trigger_back}
use Rattle.trigger_codec.proofs.laws.a_trigger_is_read_back.Goals as goal

pub returns : goal.returns
returns c = trigger_back c.names_that_are_alike.ensures.within
