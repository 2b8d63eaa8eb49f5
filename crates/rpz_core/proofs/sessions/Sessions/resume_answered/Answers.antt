use Rattle.std.proofs.Common.{subst}
use Rattle.upstream_link.specs.Vouched.{PlainLearned, fact_at}
use Rattle.rpz_core.specs.Sessions.{with_learned, resumed_step, uncached}
use Rattle.rpz_core.specs.State.{TurnsBare}
use Rattle.rpz_core.proofs.sessions.Sessions.resume_answered.Goals as goal

pub returns : goal.returns
returns c = λ pending at.
    subst (λ (e : PlainLearned). TurnsBare uncached (resumed_step c.args.now (with_learned c.args.self.now e) c.args.worker pending (fact_at c.args.now e)) c.resume_learned.result c.args.self.now c.resume_learned.new.self)
    (c.in_ok-learned.ensures.learned pending at) (c.resume_learned.ensures pending at)
