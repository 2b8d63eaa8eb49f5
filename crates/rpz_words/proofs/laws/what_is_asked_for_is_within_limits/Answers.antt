use Rattle.rpz_words.proofs.Limits.{command_within}
use Rattle.rpz_words.proofs.laws.what_is_asked_for_is_within_limits.Goals as goal

pub returns : goal.returns
returns c = command_within
