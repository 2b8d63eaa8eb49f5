use Rattle.std.proofs.Common.{refl}
use Rattle.rpz_core.specs.Sessions.{SessionsState}
use Rattle.rpz_core.proofs.Slots.{learned_within}
use Rattle.rpz_core.proofs.sessions.Sessions.keep.Goals as goal

pub returns-clause-ok : goal.returns-clause-ok
returns-clause-ok c =
    let inside : SessionsState = record { workers = c.self.inside.workers.items; last_id = c.self.inside.last_id; cached = c.self.inside.cache.entries } in
    learned_within c.keep.result inside c.args.self.now c.self.inside.cache c.keep.new.self c.args.learned c.self.view_is refl c.self.invariant.1 c.keep.ensures.ok
