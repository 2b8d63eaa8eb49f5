use Rattle.std.proofs.Common.{true≢false, sym, ◌∙◌, arith}
use Rattle.std.proofs.lemmas.Result.{err_from_is_err_and}
use Rattle.rpz_program.proofs.Turned.{advanced_both, advanced_nothing, advanced_open, rose_both, stopped_behind}
use Rattle.rpz_program.proofs.holding.wait_for_zones.Goals as goal

pub loop-init : goal.loop-init
loop-init g c = record { advances = λ is_open. advanced_nothing _ _ _ _; wire_count = omega arith; count = omega arith; failed = λ cut whole. absurd (true≢false (sym cut ∙ whole)) }

pub loop-preserved-then-turned : goal.loop-preserved-then-turned
loop-preserved-then-turned g c =
    let was = c.loop.invariant in
    let next = c.in_ok-turned.ensures in
    record {
      advances = λ is_open. advanced_open _ _ _ _ _ _ _ _ (advanced_both _ _ _ _ _ _ _ _ _ _ _ _ (was.advances is_open) (next.ok is_open));
      wire_count = omega (arith, was.wire_count, next.wire_count);
      count = omega (arith, was.count, next.count);
      failed = rose_both _ _ _ _ _ _ was.failed was.count next.failed next.count;
    }

pub loop-preserved : goal.loop-preserved
loop-preserved g c =
    let was = c.loop.invariant in
    let next = c.in_ok-turned.ensures in
    record {
      advances = λ is_open. advanced_open _ _ _ _ _ _ _ _ (advanced_both _ _ _ _ _ _ _ _ _ _ _ _ (was.advances is_open) (next.ok is_open));
      wire_count = omega (arith, was.wire_count, next.wire_count);
      count = omega (arith, was.count, next.count);
      failed = rose_both _ _ _ _ _ _ was.failed was.count next.failed next.count;
    }

pub returns-in_err-turned-clause-err : goal.returns-in_err-turned-clause-err
returns-in_err-turned-clause-err g c =
    let p = err_from_is_err_and c.from_residual.result c.from_residual.ensures.1 in
    rw p.1 (λ is_open. stopped_behind _ _ _ _ _ _ _ _ _ (c.loop.invariant.advances is_open) (c.in_err-turned.ensures.err is_open))
