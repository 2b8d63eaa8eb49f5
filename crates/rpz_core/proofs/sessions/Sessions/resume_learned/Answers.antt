use Rattle.std.proofs.Common.{◌∙◌, ap}
use Rattle.std.specs.Prelude.{slice_get}
use Rattle.rpz_core.specs.Sessions.{SessionsState}
use Rattle.rpz_core.proofs.Slots.{resumed_learned}
use Rattle.rpz_core.proofs.sessions.Sessions.resume_learned.Goals as goal

pub returns : goal.returns
returns c =
    λ pending at. resumed_learned c.args.now c.args.self.now c.keep.new.self c.resume.new.self c.args.worker pending c.args.learned c.in_ok-fact.fact c.resume.result c.in_ok-keep.ensures.ok c.in_ok-fact.ensures.fact
    (c.resume.ensures pending (ap (λ (s : SessionsState). slice_get s.workers c.args.worker) c.in_ok-keep.ensures.ok ∙ at))
