use Rattle.std.proofs.Common.{◌≡◌, Option, Some, List, subst}
use Rattle.std.specs.Prelude.{slice_get}
use Rattle.rpz_core.specs.Sessions.{PendingQuery, SessionsState, resumed_step, uncached}
use Rattle.rpz_core.specs.State.{TurnsBare, TurnsOrPutsBack}
use Rattle.rpz_core.proofs.Slots.{resumed}
use Rattle.rpz_core.proofs.sessions.Sessions.resume.Goals as goal

pub returns : goal.returns
returns c =
    let now = c.args.now in
    let place = c.args.worker in
    let taken = c.in-Some.pending in
    let last = c.self.inside.last_id in
    let cached = c.self.inside.cache.entries in
    let went = subst (λ (ws : List (Option PendingQuery)). let s : SessionsState = record { workers = ws; last_id = last; cached = cached } in TurnsOrPutsBack place taken (resumed_step now s place taken c.args.fact) c.go_on.result s c.go_on.new.self)
    c.take_slot.ensures.workers c.go_on.ensures in
    subst (λ (s : SessionsState). (pending : PendingQuery) → slice_get s.workers place ≡ Some (Some pending) → TurnsBare uncached (resumed_step now s place pending c.args.fact) c.go_on.result s c.go_on.new.self)
    c.self.view_is
    (λ pending at. resumed now (record { workers = c.self.inside.workers.items; last_id = last; cached = cached }) c.go_on.new.self place pending taken c.args.fact c.go_on.result at c.in-Some.ensures.pending went)
