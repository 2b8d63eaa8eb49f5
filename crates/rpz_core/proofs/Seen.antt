-- The core does in its state what the world does.
use Rattle.std.proofs.Common.{◌≡◌, ℕ, ◌-◌, Bool, List, [], ◌∷◌, ◌++◌, Option, Some, None, Result, Ok, Err, length, refl, sym, ap, ◌∙◌, length-append}
use Rattle.std.specs.Prelude.{slice_set}
use Rattle.zone_rows.specs.declared.fault.ApplyFault.{ApplyFault}
use Rattle.zone_rows.specs.declared.transfer.Transfer as transfers
use Rattle.zone_rows.specs.declared.zone.PlainZone.{PlainZone}
use Rattle.zone_rows.specs.Zone.{apply_outcome}
use Rattle.axfr_apply.specs.declared.taken.Taken.TheVariants as taken
use Rattle.axfr_apply.specs.Reading.{TransferOutcome}
use Rattle.ixfr_apply.specs.Stream.{reading}
use Rattle.ip_prefix.specs.Prefix.{PlainPrefix}
use Rattle.networks.specs.Allowed.{is_allowed}
use Rattle.policy_override.specs.declared.zone_set.ZoneSet.{ZoneSet}
use Rattle.policy_override.specs.ZoneSet.{origins_in, overrides_in}
use Rattle.policy_snapshot.specs.declared.entry.Entry.{Entry}
use Rattle.policy_snapshot.specs.Policy.{PlainZones, zone_at, zones_behind}
use Rattle.policy_snapshot.specs.Stands.{next_count, count_of}
use Rattle.policy_snapshot.proofs.Standing.{policy_next, count_after}
use Rattle.rpz_core.specs.declared.event.CoreFault.{CoreFault}
use Rattle.rpz_core.specs.declared.event.Event.{Event}
use Rattle.rpz_core.specs.declared.event.Event.TheVariants.{Transfer, Full, Query, Give, Fail, Notify, Due, Clock}
use Rattle.rpz_core.specs.declared.event.Output.{Output}
use Rattle.ixfr_apply.specs.Marks.{mark_at, with_mark}
use Rattle.notify_poll.specs.declared.timer.Timer.{Timer}
use Rattle.notify_poll.specs.Notifying.{changed_at}
use Rattle.notify_poll.specs.Timers.{after_poll}
use Rattle.ixfr_apply.specs.Offer.{Offer, takes, is_current, refuses, offer, offer_by_outcome, offer_by_reading, request_of, mark_after, wanted_of}
use Rattle.rpz_core.specs.Offer.{content_taken, polling_of}
use Rattle.rpz_core.specs.Sessions.{SessionsState, take_query, take_answer, take_failure}
use Rattle.rpz_core.specs.State as core
use Rattle.rpz_core.specs.State.{CoreState, state_of, as_core_outcome, core_after_offer}
use Rattle.rpz_core.specs.World.{World, policy_of, world_after_offer, transfer_step, full_step, with_sessions, world_step}

state_with : List ZoneSet → List PlainPrefix → List Bool → List Timer → SessionsState → ℕ → Output → PlainZones → ℕ → CoreState × Output
state_with settings allowed marks timers sessions now out zones accepted =
    (record { origins = origins_in settings; allowed = allowed; policy = record { zones = zones; overrides = overrides_in settings; accepted = accepted }; marks = marks; timers = timers; sessions = sessions; clock = now }, out)

-- the marks after an offer
abbrev marks_after : World → ℕ → PlainZone → Offer → List Bool
marks_after w number zone offered = let marked = mark_at w.marks number in with_mark w.marks number (mark_after marked (wanted_of marked zone.content) offered)

-- the timers after an offer
abbrev timers_after : World → ℕ → PlainZone → Offer → List Timer
timers_after w number zone offered = changed_at (after_poll (polling_of zone offered) w.clock) w.timers (number - 1)

-- an offer after which the core has the policy of the world
offer_seen : (w : World) (number : ℕ) (zone : PlainZone) (stream : List ℕ) (offered : Offer) → zone_at (policy_of w).zones number ≡ Some zone
    → ((transfer : transfers.Transfer) (next : PlainZone) → offered ≡ takes transfer next → apply_outcome zone transfer ≡ Ok next)
    → core_after_offer (state_of w) number zone offered ≡ (state_of (world_after_offer w number zone offered).0, (world_after_offer w number zone offered).1)
unfolding state_with
offer_seen w number zone stream (is_current theirs) at takes_it = refl
offer_seen w number zone stream (refuses why) at takes_it = refl
offer_seen w number zone stream (takes transfer next) at takes_it =
    let is : apply_outcome zone transfer ≡ Ok next = takes_it transfer next refl in
    let entry : Entry = record { zone = number; transfer = transfer } in
    let zones : slice_set (policy_of w).zones (number - 1) next ≡ zones_behind (origins_in w.settings) (w.accepted ++ entry ∷ []) = sym (policy_next (origins_in w.settings) w.accepted number transfer zone next at is) in
    let count : next_count (count_of (length w.accepted)) ≡ count_of (length (w.accepted ++ entry ∷ [])) = count_after (length w.accepted) ∙ ap count_of (sym (length-append w.accepted (entry ∷ []))) in
    λ i. state_with w.settings w.allowed (marks_after w number zone (takes transfer next)) (timers_after w number zone (takes transfer next)) w.sessions w.clock (content_taken number next.content) (zones i) (count i)

-- what is taken is what the zone can take
outcome_takes : (zone : PlainZone) (t : transfers.Transfer) (r : Result PlainZone ApplyFault) → apply_outcome zone t ≡ r → (transfer : transfers.Transfer) (next : PlainZone) → offer_by_outcome t r ≡ takes transfer next
    → apply_outcome zone transfer ≡ Ok next
outcome_takes zone t (Ok after) is transfer next e =
    let same_transfer : t ≡ transfer = cc in
    let same_zone : after ≡ next = cc in
    ap (apply_outcome zone) (sym same_transfer) ∙ is ∙ ap (λ (z : PlainZone). let r : Result PlainZone ApplyFault = Ok z in r) same_zone
outcome_takes zone t (Err fault) is transfer next e = absurd cc

pub reading_takes : (zone : PlainZone) (read : TransferOutcome) (transfer : transfers.Transfer) (next : PlainZone) → offer_by_reading zone read ≡ takes transfer next → apply_outcome zone transfer ≡ Ok next
reading_takes zone (Ok (taken.Current theirs)) transfer next e = absurd cc
reading_takes zone (Ok (taken.New t)) transfer next e = outcome_takes zone t (apply_outcome zone t) refl transfer next e
reading_takes zone (Err fault) transfer next e = absurd cc

transfer_seen : (w : World) (number : ℕ) (stream : List ℕ) (zone : Option PlainZone) → zone_at (policy_of w).zones number ≡ zone → core.transfer_step (state_of w) number stream zone ≡ as_core_outcome (transfer_step w number stream zone)
transfer_seen w number stream None at = refl
transfer_seen w number stream (Some zone) at =
    let marked = mark_at w.marks number in
    ap (λ (g : CoreState × Output). Ok g) (offer_seen w number zone stream (offer 0 marked zone stream) at (reading_takes zone (reading (request_of 0 marked zone) stream).0))

full_seen : (w : World) (number : ℕ) (zone : Option PlainZone) → core.full_step (state_of w) number zone ≡ as_core_outcome (full_step w number zone)
full_seen w number None = refl
full_seen w number (Some zone) = refl

sessions_seen : (w : World) (r : Result (SessionsState × Output) CoreFault) → core.with_sessions (state_of w) r ≡ as_core_outcome (with_sessions w r)
sessions_seen w (Ok next) = refl
sessions_seen w (Err fault) = refl

pub step_seen : (w : World) (e : Event) → core.core_step (state_of w) e ≡ as_core_outcome (world_step w e)
unfolding core.core_step world_step
step_seen w (Transfer number stream) = transfer_seen w number stream (zone_at (policy_of w).zones number) refl
step_seen w (Full number) = full_seen w number (zone_at (policy_of w).zones number)
step_seen w (Query worker transport client message) = sessions_seen w (take_query w.clock w.sessions (policy_of w) (is_allowed w.allowed client) worker transport client message)
step_seen w (Give worker message) = sessions_seen w (take_answer w.clock w.sessions worker message)
step_seen w (Fail worker) = sessions_seen w (take_failure w.clock w.sessions worker)
step_seen w (Notify client message) = refl
step_seen w Due = refl
step_seen w (Clock seconds) = refl
