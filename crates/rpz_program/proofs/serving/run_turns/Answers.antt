use Rattle.std.proofs.Common.{refl, true}
use Rattle.std.proofs.lemmas.Result.{err_from_is_err_and}
use Rattle.rpz_program.proofs.Runs.{all_turns, err_all, if_all, reach_at, some_turns, stop_at, start_is, stopped_at_start, stopped_first, stopped_in_pass}
use Rattle.rpz_program.proofs.serving.run_turns.Goals as goal

pub returns-in_err-first-clause-err : goal.returns-in_err-first-clause-err
returns-in_err-first-clause-err g c =
    let p = err_from_is_err_and c.from_residual.result c.from_residual.ensures.1 in
    rw p.1 (stopped_first _ _ _ _ _ c.in_err-first.ensures.err)

pub returns-in_err-passed-clause-err : goal.returns-in_err-passed-clause-err
returns-in_err-passed-clause-err g c =
    let p = err_from_is_err_and c.from_residual-in_err-passed.result c.from_residual-in_err-passed.ensures.1 in
    rw p.1 (stopped_in_pass _ _ _ _ _ _ _ _ c.in_ok-first.ensures.ok (stop_at _ _ _ _ _ _ _ _ c.in_ok-first.ensures.ok.second_is c.in_err-passed.ensures.err))

pub returns-in_err-latest-clause-err : goal.returns-in_err-latest-clause-err
returns-in_err-latest-clause-err g c =
    let p = err_from_is_err_and c.from_residual-in_err-latest.result c.from_residual-in_err-latest.ensures.1 in
    rw p.1 (stopped_at_start _ _ _ _ _ _ _ _ _ _ _ c.in_ok-first.ensures.ok (reach_at _ _ _ _ _ _ _ _ _ _ c.in_ok-first.ensures.ok.second_is c.in_ok-passed.ensures.ok) refl)

pub returns-in_err-start_all-clause-err : goal.returns-in_err-start_all-clause-err
returns-in_err-start_all-clause-err g c =
    let p = err_from_is_err_and c.from_residual-in_err-start_all.result c.from_residual-in_err-start_all.ensures.1 in
    rw p.1 (stopped_at_start _ _ _ _ _ _ _ _ _ _ _ c.in_ok-first.ensures.ok (reach_at _ _ _ _ _ _ _ _ _ _ c.in_ok-first.ensures.ok.second_is c.in_ok-passed.ensures.ok) refl)

pub returns-clause-ok : goal.returns-clause-ok
returns-clause-ok g c =
    let started = c.in_ok-start_all.ensures in
    all_turns _ _ _ _ c.take_turns.result _ _ _ _ _ _ _ _ _ c.in_ok-first.ensures.ok (reach_at _ _ _ _ _ _ _ _ _ _ c.in_ok-first.ensures.ok.second_is c.in_ok-passed.ensures.ok) refl (start_is c.args.plan.now.server _ (g.W.Wires.told c.come_to_open.new.wires) _ _ _ _ _ _ _ c.in_ok-passed.passed.second started.told started.orders started.ids started.moments) (if_all c.take_turns.result _ true c.take_turns.ensures.ok)

pub returns-clause-err : goal.returns-clause-err
returns-clause-err g c =
    let started = c.in_ok-start_all.ensures in
    some_turns _ _ _ _ c.take_turns.result _ _ _ _ _ _ _ _ c.in_ok-first.ensures.ok (reach_at _ _ _ _ _ _ _ _ _ _ c.in_ok-first.ensures.ok.second_is c.in_ok-passed.ensures.ok) refl (start_is c.args.plan.now.server _ (g.W.Wires.told c.come_to_open.new.wires) _ _ _ _ _ _ _ c.in_ok-passed.passed.second started.told started.orders started.ids started.moments) (err_all c.take_turns.result _ true c.take_turns.ensures.err)
