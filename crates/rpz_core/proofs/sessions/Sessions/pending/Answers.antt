use Rattle.std.proofs.Common.{◌<◌, ◌∙◌, None, length, map, refl, ap, arith}
use Rattle.std.specs.Prelude.{is_some}
use Rattle.std.proofs.lemmas.List.{get_or_default}
use Rattle.rpz_core.specs.Sessions.{SessionsState}
use Rattle.rpz_core.proofs.Flags.{flags_more, flags_all}
use Rattle.rpz_core.proofs.sessions.Sessions.pending.Goals as goal

pub loop-worker-init : goal.loop-worker-init
loop-worker-init c = record { count = refl; first = λ k lt. absurd (omega (arith, lt)) }

pub loop-worker-preserved : goal.loop-worker-preserved
loop-worker-preserved c =
    let items = c.self.inside.workers.items in
    let worker = c.loop-worker.worker in
    let within : worker < length items = omega (arith, c.loop-worker-test.true, c.self.invariant.0) in
    flags_more items c.loop-worker.pending worker c.is_some.result c.loop-worker-test.true c.loop-worker.invariant
    (c.is_some.ensures ∙ ap is_some (c.index.ensures ∙ get_or_default items worker c.index.result.now None within))

pub returns : goal.returns
returns c =
    flags_all c.self.inside.workers.items c.loop-worker.pending c.loop-worker.worker c.self.invariant.0 c.loop-worker-test.false c.loop-worker.invariant
    ∙ ap (λ (s : SessionsState). map is_some s.workers) c.self.view_is
