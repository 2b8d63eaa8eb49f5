use Rattle.std.proofs.Common.{◌≡◌, refl, ap, [], arith}
use Rattle.rpz_workers.proofs.Worked.{worked_more, handled_faults, faults_counted}
use Rattle.rpz_workers.proofs.worker.Worker.work.Goals as goal

pub loop-init : goal.loop-init
loop-init g c =
    let none : c.nothing_done-report.result.failed ≡ 0 = ap (λ k. k.failed) c.nothing_done-report.ensures in
    record {
      can = tt;
      finite = tt;
      worked = record { stages = []; chain = refl; counts_are = c.nothing_done-report.ensures };
      failed = omega arith;
    }

pub loop-preserved : goal.loop-preserved
loop-preserved g c =
    let was = c.loop.invariant in
    let faults = handled_faults _ _ _ _ _ _ _ _ c.take.ensures in
    record {
      can = tt;
      finite = tt;
      worked = rw c.count-report.ensures (worked_more _ _ _ _ _ _ _ _ (record { item = c.next-in-loop.result; took = c.take.result }) was.worked (record { next = c.next-in-loop.ensures; handles = c.take.ensures; goes_on = c.in_default.not-Stop }));
      failed = rw (ap (λ k. k.failed) c.count-report.ensures) (faults_counted _ c.take.result _ _ _ was.failed faults.0 faults.1);
    }
