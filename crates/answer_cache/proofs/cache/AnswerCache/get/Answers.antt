use Rattle.answer_cache.proofs.cache.AnswerCache.get.Goals as goal
use Rattle.answer_cache.proofs.Apart.{apart_keyed}

pub returns-in_err-key-clause-apart : goal.returns-in_err-key-clause-apart
returns-in_err-key-clause-apart g c = rw (← c.self.view_is) (apart_keyed c.self.inside.entries.entries c.self.invariant c.len-count.ensures.valid.0)

pub returns-clause-apart : goal.returns-clause-apart
returns-clause-apart g c = rw (← c.self.view_is) (apart_keyed c.self.inside.entries.entries c.self.invariant c.len-count.ensures.valid.0)
