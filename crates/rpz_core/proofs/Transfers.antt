-- What a transfer changes in the world.
use Rattle.std.proofs.Common.{◌≡◌, ◌≢◌, ℕ, ◌-◌, false, List, Option, Some, None, Result, Ok, Err, refl, ap, subst}
use Rattle.std.specs.Prelude.{slice_get}
use Rattle.std.proofs.lemmas.List.{get_or-set_other}
use Rattle.notify_poll.specs.declared.timer.Polling.TheVariants.{Faulty}
use Rattle.notify_poll.specs.Notifying.{changed_at}
use Rattle.notify_poll.specs.Timers.{after_poll}
use Rattle.zone_rows.specs.declared.zone.PlainZone.{PlainZone}
use Rattle.policy_snapshot.specs.declared.entry.Entry.{Entry}
use Rattle.rpz_core.specs.declared.event.CoreFault.{CoreFault}
use Rattle.rpz_core.specs.declared.event.Output.{Output}
use Rattle.rpz_core.specs.declared.event.Output.TheVariants.{Refused}
use Rattle.ixfr_apply.specs.declared.refusal.Refusal.{Refusal}
use Rattle.ixfr_apply.specs.Offer.{Offer, takes, is_current, refuses, offer}
use Rattle.rpz_core.specs.Offer.{offer_output, polling_of}
use Rattle.ixfr_apply.specs.Marks.{mark_at}
use Rattle.rpz_core.specs.World.{World, accepted_after, world_after_offer, transfer_step}
use Rattle.rpz_core.proofs.Timed.{changed_other}

gave : (gives next : World) (out other : Output) → ◌≡◌ {A = Result (World × Output) CoreFault} (Ok (gives, out)) (Ok (next, other)) → (gives ≡ next) × (out ≡ other)
gave gives next out other e =
    let both : World × Output = (gives, out) in
    let same : both ≡ (next, other) = cc in
    (ap (λ (g : World × Output). g.0) same, ap (λ (g : World × Output). g.1) same)

failed : (fault : CoreFault) (next : World) (out : Output) → ◌≡◌ {A = Result (World × Output) CoreFault} (Err fault) (Ok (next, out)) → ⊥
failed fault next out e = absurd cc

refused_adds_none : (accepted : List Entry) (number zone : ℕ) (why : Refusal) (o : Offer) → offer_output number o ≡ Refused zone why → accepted_after accepted number o ≡ accepted
refused_adds_none accepted number zone why (takes transfer next) e = absurd cc
refused_adds_none accepted number zone why (is_current theirs) e = refl
refused_adds_none accepted number zone why (refuses refusal) e = refl

-- a refused transfer adds none to the accepted ones
pub refused_keeps : (w next : World) (number zone : ℕ) (stream : List ℕ) (why : Refusal) (found : Option PlainZone) → transfer_step w number stream found ≡ Ok (next, Refused zone why) → next.accepted ≡ w.accepted
refused_keeps w next number zone stream why None e = absurd (failed _ next _ e)
refused_keeps w next number zone stream why (Some z) e =
    let offered = offer 0 (mark_at w.marks number) z stream in
    let same = gave (world_after_offer w number z offered).0 next (offer_output number offered) (Refused zone why) e in
    subst (λ (x : World). x.accepted ≡ w.accepted) same.0 (refused_adds_none w.accepted number zone why offered same.1)

-- no transfer changes a pending query
pub keeps_sessions : (w next : World) (number : ℕ) (stream : List ℕ) (found : Option PlainZone) (out : Output) → transfer_step w number stream found ≡ Ok (next, out) → next.sessions ≡ w.sessions
keeps_sessions w next number stream None out e = absurd (failed _ next out e)
keeps_sessions w next number stream (Some z) out e =
    let offered = offer 0 (mark_at w.marks number) z stream in
    let same = gave (world_after_offer w number z offered).0 next (offer_output number offered) out e in
    subst (λ (x : World). x.sessions ≡ w.sessions) same.0 refl

-- nor the mark of another zone
pub keeps_marks : (w next : World) (number other : ℕ) (stream : List ℕ) (found : Option PlainZone) (out : Output) → transfer_step w number stream found ≡ Ok (next, out) → other - 1 ≢ number - 1
    → mark_at next.marks other ≡ mark_at w.marks other
keeps_marks w next number other stream None out e differs = absurd (failed _ next out e)
keeps_marks w next number other stream (Some z) out e differs =
    let offered = offer 0 (mark_at w.marks number) z stream in
    let same = gave (world_after_offer w number z offered).0 next (offer_output number offered) out e in
    subst (λ (x : World). mark_at x.marks other ≡ mark_at w.marks other) same.0 (get_or-set_other w.marks (number - 1) (other - 1) _ false differs)

-- nor the settings or the clock
pub keeps_clock : (w next : World) (number : ℕ) (stream : List ℕ) (found : Option PlainZone) (out : Output) → transfer_step w number stream found ≡ Ok (next, out) → (next.settings ≡ w.settings) × (next.clock ≡ w.clock)
keeps_clock w next number stream None out e = absurd (failed _ next out e)
keeps_clock w next number stream (Some z) out e =
    let offered = offer 0 (mark_at w.marks number) z stream in
    let same = gave (world_after_offer w number z offered).0 next (offer_output number offered) out e in
    subst (λ (x : World). (x.settings ≡ w.settings) × (x.clock ≡ w.clock)) same.0 (refl, refl)

faulty : (w : World) (number zone : ℕ) (why : Refusal) (z : PlainZone) (o : Offer) → offer_output number o ≡ Refused zone why
    → changed_at (after_poll (polling_of z o) w.clock) w.timers (number - 1) ≡ changed_at (after_poll Faulty w.clock) w.timers (number - 1)
faulty w number zone why z (takes transfer next) e = absurd cc
faulty w number zone why z (is_current theirs) e = absurd cc
faulty w number zone why z (refuses refusal) e = refl

-- behind a refused transfer its zone waits for the last retry
pub refused_retries : (w next : World) (number zone : ℕ) (stream : List ℕ) (why : Refusal) (found : Option PlainZone) → transfer_step w number stream found ≡ Ok (next, Refused zone why)
    → next.timers ≡ changed_at (after_poll Faulty w.clock) w.timers (number - 1)
refused_retries w next number zone stream why None e = absurd (failed _ next _ e)
refused_retries w next number zone stream why (Some z) e =
    let offered = offer 0 (mark_at w.marks number) z stream in
    let same = gave (world_after_offer w number z offered).0 next (offer_output number offered) (Refused zone why) e in
    subst (λ (x : World). x.timers ≡ changed_at (after_poll Faulty w.clock) w.timers (number - 1)) same.0 (faulty w number zone why z offered same.1)

-- no transfer moves the timer of another zone
pub keeps_timers : (w next : World) (number other : ℕ) (stream : List ℕ) (found : Option PlainZone) (out : Output) → transfer_step w number stream found ≡ Ok (next, out) → other - 1 ≢ number - 1
    → slice_get next.timers (other - 1) ≡ slice_get w.timers (other - 1)
keeps_timers w next number other stream None out e differs = absurd (failed _ next out e)
keeps_timers w next number other stream (Some z) out e differs =
    let offered = offer 0 (mark_at w.marks number) z stream in
    let same = gave (world_after_offer w number z offered).0 next (offer_output number offered) out e in
    subst (λ (x : World). slice_get x.timers (other - 1) ≡ slice_get w.timers (other - 1)) same.0 (changed_other (after_poll (polling_of z offered) w.clock) w.timers (number - 1) (other - 1) differs)
