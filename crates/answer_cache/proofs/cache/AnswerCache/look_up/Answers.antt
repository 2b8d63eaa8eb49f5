use Rattle.std.proofs.Common.{ap}
use Rattle.answer_cache.specs.Keyed.{has}
use Rattle.answer_cache.specs.Recent.{recent}
use Rattle.answer_cache.proofs.Entries.{IsKeyed-promoted, values-promoted}
use Rattle.answer_cache.proofs.cache.AnswerCache.look_up.Goals as goal

pub invariant_of-self : goal.invariant_of-self
invariant_of-self g c = rw c.promote.ensures.entries (IsKeyed-promoted (has c.args.key.now) c.self.inside.entries.entries c.self.invariant)

pub returns-clause-ok : goal.returns-clause-ok
returns-clause-ok g c =
    rw (← c.self.view_is, c.promote.ensures.entries, c.requires) (ap (λ es. recent es c.self.inside.entries.cap) (values-promoted c.args.question.now c.self.inside.entries.entries c.self.invariant))
