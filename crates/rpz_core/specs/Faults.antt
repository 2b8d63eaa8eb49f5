-- Which events the core refuses, and why.
use Rattle.std.specs.Prelude.{Option, Some, None, slice_get}
use Rattle.zone_rows.specs.declared.zone.PlainZone.{PlainZone}
use Rattle.policy_snapshot.specs.Policy.{zone_at}
use Rattle.rpz_core.specs.declared.event.CoreFault.{CoreFault}
use Rattle.rpz_core.specs.declared.event.CoreFault.TheVariants as fault
use Rattle.rpz_core.specs.declared.event.Event.{Event}
use Rattle.rpz_core.specs.declared.event.Event.TheVariants.{Transfer, Full, Query, Give, Fail, Notify, Due, Clock}
use Rattle.rpz_core.specs.Sessions.{PendingQuery}
use Rattle.rpz_core.specs.World.{World, policy_of}

-- there is no zone of the number
abbrev pub zone_fault : Option PlainZone → Option CoreFault
zone_fault None = Some fault.NoZone
zone_fault (Some zone) = None

-- there is no such worker, or its query is pending
abbrev pub query_fault : Option (Option PendingQuery) → Option CoreFault
query_fault None = Some fault.NoWorker
query_fault (Some None) = None
query_fault (Some (Some pending)) = Some fault.Pending

-- there is no such worker, or it has no pending query
abbrev pub fact_fault : Option (Option PendingQuery) → Option CoreFault
fact_fault None = Some fault.NoWorker
fact_fault (Some None) = Some fault.NotPending
fact_fault (Some (Some pending)) = None

-- Why an event is refused in a world, if it is.
abbrev pub fault_of : World → Event → Option CoreFault
fault_of world (Transfer number stream) = zone_fault (zone_at (policy_of world).zones number)
fault_of world (Full number) = zone_fault (zone_at (policy_of world).zones number)
fault_of world (Query worker transport client message) =
    query_fault (slice_get world.sessions.workers worker)
fault_of world (Give worker message) = fact_fault (slice_get world.sessions.workers worker)
fault_of world (Fail worker) = fact_fault (slice_get world.sessions.workers worker)
fault_of world (Notify client message) = None
fault_of world Due = None
fault_of world (Clock seconds) = None

-- the event outputs nothing: it is Full or Clock
abbrev pub IsQuiet : Event → Type 0
IsQuiet (Transfer number stream) = ⊥
IsQuiet (Full number) = Unit {0}
IsQuiet (Query worker transport client message) = ⊥
IsQuiet (Give worker message) = ⊥
IsQuiet (Fail worker) = ⊥
IsQuiet (Notify client message) = ⊥
IsQuiet Due = ⊥
IsQuiet (Clock seconds) = Unit {0}

-- the event is neither Transfer nor Notify
abbrev pub LeavesTimers : Event → Type 0
LeavesTimers (Transfer number stream) = ⊥
LeavesTimers (Full number) = Unit {0}
LeavesTimers (Query worker transport client message) = Unit {0}
LeavesTimers (Give worker message) = Unit {0}
LeavesTimers (Fail worker) = Unit {0}
LeavesTimers (Notify client message) = ⊥
LeavesTimers Due = Unit {0}
LeavesTimers (Clock seconds) = Unit {0}
