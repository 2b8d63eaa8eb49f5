use Rattle.std.proofs.Common.{true}
use Rattle.rpz_program.proofs.Held.{more_reached, more_stopped}
use Rattle.rpz_program.proofs.Runs.{err_all, if_all}
use Rattle.rpz_program.proofs.holding.come_to_open.Goals as goal

pub returns-clause-ok : goal.returns-clause-ok
returns-clause-ok g c =
    more_reached c.args.plan.now c.args.began c.take_first_pass.result _ _ _ _ _ _ _ _ c.in_ok-opened.ensures.ok (if_all c.take_first_pass.result _ true c.take_first_pass.ensures.ok)

pub returns-clause-err : goal.returns-clause-err
returns-clause-err g c =
    more_stopped c.args.plan.now c.args.began c.take_first_pass.result _ _ _ _ _ _ _ c.in_ok-opened.ensures.ok (err_all c.take_first_pass.result _ true c.take_first_pass.ensures.err)
