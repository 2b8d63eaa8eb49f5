-- Which events leave the timers.
use Rattle.std.proofs.Common.{◌≡◌, ℕ, List, Option, Some, None, Result, Ok, Err, refl, sym, ap, ◌∙◌, subst}
use Rattle.std.specs.Option.{unwrap_or}
use Rattle.zone_rows.specs.declared.zone.PlainZone.{PlainZone}
use Rattle.ip_prefix.specs.declared.Addr.{Addr}
use Rattle.networks.specs.Allowed.{is_allowed}
use Rattle.notify_poll.specs.Notifying.{answer_to, brought_forward}
use Rattle.notify_poll.specs.Timers.{due_zone}
use Rattle.policy_snapshot.specs.Policy.{zone_at}
use Rattle.policy_override.specs.ZoneSet.{origins_in}
use Rattle.rpz_core.specs.declared.event.CoreFault.{CoreFault}
use Rattle.rpz_core.specs.declared.event.Event.{Event}
use Rattle.rpz_core.specs.declared.event.Event.TheVariants.{Transfer, Full, Query, Give, Fail, Notify, Due, Clock}
use Rattle.rpz_core.specs.declared.event.Output.{Output}
use Rattle.rpz_core.specs.declared.event.Output.TheVariants as output
use Rattle.rpz_core.specs.Faults.{LeavesTimers}
use Rattle.rpz_core.specs.Sessions.{SessionsState, take_query, take_answer, take_failure}
use Rattle.rpz_core.specs.World.{World, clock_step, full_step, notify_step, policy_of, with_sessions, with_timers, world_step}

same_world : (gives : World × Output) (next : World) (out : Output) → ◌≡◌ {A = Result (World × Output) CoreFault} (Ok gives) (Ok (next, out)) → gives.0 ≡ next
same_world gives next out e = let same : gives ≡ (next, out) = cc in ap (λ (g : World × Output). g.0) same

no_fault : (fault : CoreFault) (next : World) (out : Output) → ◌≡◌ {A = Result (World × Output) CoreFault} (Err fault) (Ok (next, out)) → ⊥
no_fault fault next out e = absurd cc

-- timers that stay, behind a step
stay : (w : World) (gives : World × Output) (next : World) (out : Output) → gives.0.timers ≡ w.timers → ◌≡◌ {A = Result (World × Output) CoreFault} (Ok gives) (Ok (next, out)) → next.timers ≡ w.timers
stay w gives next out h e = ap (λ (x : World). x.timers) (sym (same_world gives next out e)) ∙ h

full_leaves : (w next : World) (number : ℕ) (found : Option PlainZone) (out : Output) → full_step w number found ≡ Ok (next, out) → next.timers ≡ w.timers
full_leaves w next number None out e = absurd (no_fault _ next out e)
full_leaves w next number (Some zone) out e = stay w _ next out refl e

sessions_leave : (w next : World) (r : Result (SessionsState × Output) CoreFault) (out : Output) → with_sessions w r ≡ Ok (next, out) → next.timers ≡ w.timers
sessions_leave w next (Ok after) out e = stay w _ next out refl e
sessions_leave w next (Err fault) out e = absurd (no_fault fault next out e)

pub others_leave : (w next : World) (event : Event) (out : Output) → world_step w event ≡ Ok (next, out) → LeavesTimers event → next.timers ≡ w.timers
unfolding world_step
others_leave w next (Transfer number stream) out e h = absurd h
others_leave w next (Full number) out e h = full_leaves w next number (zone_at (policy_of w).zones number) out e
others_leave w next (Query worker transport client message) out e h = sessions_leave w next (take_query w.clock w.sessions (policy_of w) (is_allowed w.allowed client) worker transport client message) out e
others_leave w next (Give worker message) out e h = sessions_leave w next (take_answer w.clock w.sessions worker message) out e
others_leave w next (Fail worker) out e h = sessions_leave w next (take_failure w.clock w.sessions worker) out e
others_leave w next (Notify client message) out e h = absurd h
others_leave w next Due out e h = stay w (w, output.Due (unwrap_or (due_zone w.timers w.clock) 0)) next out refl e
others_leave w next (Clock seconds) out e h = stay w (clock_step w seconds) next out refl e

pub unnamed_leaves : (w next : World) (client : Addr) (message : List ℕ) (out : Output) → world_step w (Notify client message) ≡ Ok (next, out) → (answer_to (is_allowed w.allowed client) message client (origins_in w.settings) w.timers).1 ≡ None → next.timers ≡ w.timers
unfolding world_step
unnamed_leaves w next client message out e none = stay w (notify_step w client message) next out (ap (brought_forward w.clock w.timers) none) e

pub notify_moves : (w next : World) (client : Addr) (message : List ℕ) (out : Output) → world_step w (Notify client message) ≡ Ok (next, out) → next ≡ with_timers w next.timers
unfolding world_step
notify_moves w next client message out e = subst (λ (x : World). x ≡ with_timers w x.timers) (same_world (notify_step w client message) next out e) refl

pub due_leaves : (w next : World) (out : Output) → world_step w Due ≡ Ok (next, out) → next ≡ w
unfolding world_step
due_leaves w next out e = sym (same_world (w, output.Due (unwrap_or (due_zone w.timers w.clock) 0)) next out e)
