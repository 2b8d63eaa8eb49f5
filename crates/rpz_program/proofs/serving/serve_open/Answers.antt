use Rattle.edge_io.proofs.Written.{on_err}
use Rattle.rpz_program.proofs.Runs.{gathers_from, on_ok, run_cut, run_done, run_stopped}
use Rattle.rpz_program.proofs.serving.serve_open.Goals as goal

pub returns-in-Ok-clause-ok : goal.returns-in-Ok-clause-ok
returns-in-Ok-clause-ok g c =
    let gathers = gathers_from _ _ _ _ _ _ c.in-Ok.ensures.waiting c.run_turns-ran.ensures.gathered c.gather_all-sums.ensures.gathers in
    on_ok c.finish.result (λ done. run_done _ _ _ _ _ _ _ _ _ _ _ _ _ c.in-Ok.ensures.ok gathers done.0 done.1 c.stop.ensures.told) c.finish.ensures.ok

pub returns-in-Ok-clause-err : goal.returns-in-Ok-clause-err
returns-in-Ok-clause-err g c =
    let gathers = gathers_from _ _ _ _ _ _ c.in-Ok.ensures.waiting c.run_turns-ran.ensures.gathered c.gather_all-sums.ensures.gathers in
    on_err c.finish.result (λ cut. run_cut _ _ _ _ _ _ _ _ _ _ _ _ c.in-Ok.ensures.ok gathers cut) c.finish.ensures.err

pub returns-in-Err-clause-err : goal.returns-in-Err-clause-err
returns-in-Err-clause-err g c = run_stopped _ _ _ _ _ _ _ c.in-Err.ensures.err
