-- Why an event is refused, by cases.
use Rattle.std.proofs.Common.{◌≡◌, ℕ, ◌↔◌, List, Option, Some, None, Err}
use Rattle.std.specs.Prelude.{slice_get}
use Rattle.dns_message.specs.declared.request.Incoming.{Incoming}
use Rattle.dns_message.specs.Request.{incoming_of}
use Rattle.networks.specs.Allowed.{is_allowed}
use Rattle.zone_rows.specs.declared.zone.PlainZone.{PlainZone}
use Rattle.upstream_link.specs.declared.fact.Fact.TheVariants.{Broken}
use Rattle.upstream_link.specs.declared.fact.AnswerFault.TheVariants.{Failed}
use Rattle.policy_snapshot.specs.Policy.{PlainPolicy, zone_at}
use Rattle.rpz_core.specs.declared.event.CoreFault.{CoreFault}
use Rattle.rpz_core.specs.declared.event.Event.{Event}
use Rattle.rpz_core.specs.declared.event.Event.TheVariants.{Transfer, Full, Query, Give, Fail, Notify, Due, Clock}
use Rattle.rpz_core.specs.declared.event.Output.{Output}
use Rattle.rpz_core.specs.Faults.{zone_fault, query_fault, fact_fault, fault_of}
use Rattle.rpz_core.specs.Sessions.{PendingQuery, SessionsState, answered_step, pending_step, query_step, resumed_step}
use Rattle.rpz_core.specs.World.{World, policy_of, transfer_step, full_step, with_sessions, world_step}

by_transfer : (w : World) (number : ℕ) (stream : List ℕ) (zone : Option PlainZone) (f : CoreFault) → (transfer_step w number stream zone ≡ Err f) ↔ (zone_fault zone ≡ Some f)
by_transfer w number stream None f = (λ e. cc, λ e. cc)
by_transfer w number stream (Some zone) f = (λ e. absurd cc, λ e. absurd cc)

by_full : (w : World) (number : ℕ) (zone : Option PlainZone) (f : CoreFault) → (full_step w number zone ≡ Err f) ↔ (zone_fault zone ≡ Some f)
by_full w number None f = (λ e. cc, λ e. cc)
by_full w number (Some zone) f = (λ e. absurd cc, λ e. absurd cc)

by_query : (w : World) (policy : PlainPolicy) (worker : ℕ) (incoming : Incoming) (slot : Option (Option PendingQuery)) (f : CoreFault) → (with_sessions w (query_step w.clock w.sessions policy worker incoming slot) ≡ Err f) ↔ (query_fault slot ≡ Some f)
by_query w policy worker incoming None f = (λ e. cc, λ e. cc)
by_query w policy worker incoming (Some None) f = (λ e. absurd cc, λ e. absurd cc)
by_query w policy worker incoming (Some (Some pending)) f = (λ e. cc, λ e. cc)

by_pending : (w : World) (goes_on : PendingQuery → SessionsState × Output) (slot : Option (Option PendingQuery)) (f : CoreFault) → (with_sessions w (pending_step goes_on slot) ≡ Err f) ↔ (fact_fault slot ≡ Some f)
by_pending w goes_on None f = (λ e. cc, λ e. cc)
by_pending w goes_on (Some None) f = (λ e. cc, λ e. cc)
by_pending w goes_on (Some (Some pending)) f = (λ e. absurd cc, λ e. absurd cc)

pub refused_by_state : (w : World) (e : Event) (f : CoreFault) → (world_step w e ≡ Err f) ↔ (fault_of w e ≡ Some f)
unfolding world_step
refused_by_state w (Transfer number stream) f = by_transfer w number stream (zone_at (policy_of w).zones number) f
refused_by_state w (Full number) f = by_full w number (zone_at (policy_of w).zones number) f
refused_by_state w (Query worker transport client message) f = by_query w (policy_of w) worker (incoming_of (is_allowed w.allowed client) message client transport) (slice_get w.sessions.workers worker) f
refused_by_state w (Give worker message) f = by_pending w (answered_step w.clock w.sessions worker message) (slice_get w.sessions.workers worker) f
refused_by_state w (Fail worker) f = by_pending w (λ pending. resumed_step w.clock w.sessions worker pending (Broken Failed)) (slice_get w.sessions.workers worker) f
refused_by_state w (Notify client message) f = (λ e. absurd cc, λ e. absurd cc)
refused_by_state w Due f = (λ e. absurd cc, λ e. absurd cc)
refused_by_state w (Clock seconds) f = (λ e. absurd cc, λ e. absurd cc)
