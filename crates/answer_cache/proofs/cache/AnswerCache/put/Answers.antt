use Rattle.answer_cache.proofs.Entries.{IsKeyed-pushed, values-pushed}
use Rattle.answer_cache.proofs.cache.AnswerCache.put.Goals as goal

pub invariant_of-self : goal.invariant_of-self
invariant_of-self g c =
    IsKeyed-pushed c.args.key c.args.learned c.requires.key c.push.result c.self.inside.entries c.push.new.self c.push.ensures.entries c.push.ensures.err c.self.invariant

pub returns-clause-ok : goal.returns-clause-ok
returns-clause-ok g c =
    let valid = c.len-within.ensures.valid in
    rw (← c.self.view_is) (values-pushed c.args.key c.args.learned c.requires.key c.push.result c.self.inside.entries c.push.new.self c.push.ensures.entries c.self.invariant valid.1 valid.2 c.requires.some)
