use Rattle.answer_cache.proofs.Keys.{alike_by_key}
use Rattle.answer_cache.proofs.laws.questions_of_one_key_are_alike.Goals as goal

pub returns : goal.returns
returns c = alike_by_key
