use Rattle.std.proofs.Common.{◌<◌, ◌∷◌, ◌∙◌, refl, ap, arith}
use Rattle.edge_io.specs.Told.{one_more}
use Rattle.rpz_program.specs.Sums.{with_report}
use Rattle.rpz_program.proofs.sums.gather_all.Goals as goal

pub loop-report-preserved : goal.loop-report-preserved
loop-report-preserved g c =
    let was = c.loop-report.invariant.so_far in
    let got = c.in-Some.ensures in
    let some : 0 < g.P.Spawner.waiting c.loop-report.spawner = got.some.0 refl in
    record {
      so_far = (
        c.in-Some.report ∷ was.0,
        omega (arith, was.1, got.waiting),
        got.gathered ∙ ap (λ t. one_more t c.in-Some.report) was.2,
        c.add-sums.ensures ∙ ap (λ s. with_report s c.in-Some.report) was.3,
      );
      count = got.count ∙ c.loop-report.invariant.count;
    }
