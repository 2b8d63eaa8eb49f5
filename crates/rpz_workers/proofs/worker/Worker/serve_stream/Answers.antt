use Rattle.std.proofs.Common.{refl, [], arith}
use Rattle.rpz_workers.proofs.Served.{served_more}
use Rattle.rpz_workers.proofs.worker.Worker.serve_stream.Goals as goal

pub loop-init : goal.loop-init
loop-init g c = record { served = record { exchanges = []; chain = refl; count_is = refl }; source = omega arith; sink = omega arith }

pub loop-preserved : goal.loop-preserved
loop-preserved g c =
    let was = c.loop.invariant in
    let read = c.in-Ok-Some.ensures in
    record {
      served = served_more _ _ _ _ _ _ _ _ _ was.served (rw c.in-Ok-Some.field-0-is at read.taken) c.in-Ok.ensures.ok;
      source = omega (arith, read.count);
      sink = omega (arith, c.in-Ok.ensures.count);
    }
