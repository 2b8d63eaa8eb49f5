use Rattle.std.proofs.lemmas.Result.{err_from_is_err_and}
use Rattle.edge_io.proofs.Written.{size_cut, message_cut, on_err}
use Rattle.edge_io.proofs.frame.write_frame.Goals as goal

pub returns-in_err-write_all-clause-err : goal.returns-in_err-write_all-clause-err
returns-in_err-write_all-clause-err g c =
    let p = err_from_is_err_and c.from_residual.result c.from_residual.ensures.1 in
    rw p.1 (size_cut _ _ _ c.args.payload.now (rw c.size_bytes.ensures at c.in_err-write_all.ensures.err))

pub returns-clause-err : goal.returns-clause-err
returns-clause-err g c =
    on_err c.write_all-2.result (message_cut _ _ _ _ c.args.payload.now (rw c.size_bytes.ensures at c.in_ok-write_all.ensures.ok)) c.write_all-2.ensures.err
