use Rattle.std.proofs.Common.{◌≡◌, ◌+◌, length, List}
use Rattle.rpz_workers.specs.declared.report.Report.{Report}
use Rattle.rpz_program.specs.Sums.{gathered_with, sums_of}
use Rattle.rpz_program.proofs.sums.gather_all.Given as goal

abbrev pub invariant-loop-report : goal.invariant-loop-report
invariant-loop-report g l = record {
  so_far : (reports : List Report) × (length reports + g.P.Spawner.waiting l.spawner ≡ g.P.Spawner.waiting l.initial.spawner) × (g.P.Spawner.gathered l.spawner ≡ gathered_with (g.P.Spawner.gathered l.initial.spawner) reports) × (l.sums ≡ sums_of reports);
  count : g.P.Spawner.faults l.spawner ≡ g.P.Spawner.faults l.initial.spawner;
}

abbrev pub decreases-loop-report : goal.decreases-loop-report
decreases-loop-report g l = g.P.Spawner.waiting l.spawner
