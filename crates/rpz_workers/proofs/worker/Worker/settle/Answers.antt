use Rattle.std.proofs.Common.{Ok, Result, ◌∙◌, ap}
use Rattle.std.specs.declared.alloc.AllocError.{AllocError}
use Rattle.rpz_workers.specs.declared.answered.Answered.{Answered}
use Rattle.rpz_workers.proofs.Settled.{needs_settles}
use Rattle.rpz_workers.proofs.worker.Worker.settle.Goals as goal

pub returns-in-Ok-Needs-clause-settles : goal.returns-in-Ok-Needs-clause-settles
returns-in-Ok-Needs-clause-settles g c =
    let in_ok = λ (a : Answered). let r : Result Answered AllocError = Ok a in r in
    needs_settles _ _ _ _ _ _ _ _ _ _ _ _ (c.in-Ok-Needs.is ∙ ap in_ok c.in-Ok-Needs.field-0-is) c.answer.ensures.answers c.pass_on.ensures
