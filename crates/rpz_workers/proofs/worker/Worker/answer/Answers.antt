use Rattle.rpz_workers.proofs.WholeAnswer.{answered_with}
use Rattle.rpz_workers.proofs.worker.Worker.answer.Goals as goal

pub returns-in-Ok-clause-answers : goal.returns-in-Ok-clause-answers
returns-in-Ok-clause-answers g c =
    let pinned = c.in_ok-policy.ensures in
    rw (← c.self.view_is) (answered_with _ _ _ _ _ _ _ _ c.in_ok-policy.policy.value _ c.may_ask-may_ask.ensures pinned.stands pinned.later pinned.told c.in-Ok.ensures.limit c.in-Ok.ensures.comes_to)
