-- What an event that isn't refused outputs, and what it leaves.
use Rattle.std.proofs.Common.{◌≡◌, ℕ, ◌-◌, ◌↔◌, true, List, [], Option, Some, None, Result, Ok, Err, length, refl, sym, ap, ◌∙◌, subst}
use Rattle.std.specs.Prelude.{slice_get}
use Rattle.std.proofs.lemmas.List.{length-set}
use Rattle.dns_message.specs.declared.request.Incoming.{Incoming}
use Rattle.dns_message.specs.Request.{incoming_of}
use Rattle.networks.specs.Allowed.{is_allowed}
use Rattle.zone_rows.specs.declared.zone.PlainZone.{PlainZone}
use Rattle.upstream_link.specs.declared.fact.Fact.{Fact}
use Rattle.upstream_link.specs.declared.fact.Fact.TheVariants.{Broken}
use Rattle.upstream_link.specs.declared.fact.AnswerFault.TheVariants.{Failed}
use Rattle.upstream_link.specs.Facts.{PlainFacts}
use Rattle.upstream_link.specs.Vouched.{fact_at}
use Rattle.policy_snapshot.specs.Policy.{PlainPolicy, zone_at}
use Rattle.reply_build.specs.declared.said.Said.TheVariants as said
use Rattle.reply_build.specs.declared.turn.Turn.{Turn}
use Rattle.reply_build.specs.declared.turn.Turn.TheVariants.{Ask, Said}
use Rattle.policy_override.specs.ZoneSet.{origins_in}
use Rattle.rpz_core.specs.declared.event.CoreFault.{CoreFault}
use Rattle.rpz_core.specs.declared.event.Event.{Event}
use Rattle.rpz_core.specs.declared.event.Event.TheVariants.{Transfer, Full, Query, Give, Fail, Notify, Due, Clock}
use Rattle.rpz_core.specs.declared.event.Output.{Output}
use Rattle.rpz_core.specs.declared.event.Output.TheVariants as output
use Rattle.rpz_core.specs.Faults.{IsQuiet}
use Rattle.ixfr_apply.specs.Marks.{mark_at, with_mark}
use Rattle.notify_poll.specs.declared.notifying.Notified.{Notified}
use Rattle.notify_poll.specs.declared.notifying.Notified.TheVariants as notified
use Rattle.notify_poll.specs.Notifying.{answer_to, as_notified}
use Rattle.ixfr_apply.specs.Offer.{Offer, takes, is_current, refuses, offer}
use Rattle.rpz_core.specs.Offer.{offer_output}
use Rattle.rpz_core.specs.Resolving.{Resolved, resolve}
use Rattle.rpz_core.specs.Sessions.{PendingQuery, SessionsState, answered_step, with_learned, facts_with, learned_by, pending_step, query_step, resolved_step, resumed_step, turn_step, with_cached}
use Rattle.rpz_core.specs.World.{World, clock_step, notified_output, notify_step, policy_of, transfer_step, full_step, with_sessions, world_step}
use Rattle.rpz_core.proofs.Timed.{brought_length, changed_length}

-- the output says something
abbrev Speaks : Output → Type 0
Speaks output.None = ⊥
Speaks out = Unit {0}

silent : (out : Output) → Speaks out → out ≡ output.None → ⊥
silent out h e = subst Speaks e h

-- the zones, who may ask, the number of marks, of timers and of workers stay
pub record Keeps (w next : World) : Type 0 where
  pub settings : next.settings ≡ w.settings
  pub allowed : next.allowed ≡ w.allowed
  pub marks : length next.marks ≡ length w.marks
  pub timers : length next.timers ≡ length w.timers
  pub workers : length next.sessions.workers ≡ length w.sessions.workers

-- ---- transfers

offer_speaks : (number : ℕ) (o : Offer) → Speaks (offer_output number o)
offer_speaks number (takes transfer next) = tt
offer_speaks number (is_current theirs) = tt
offer_speaks number (refuses why) = tt

-- what a step gave
abbrev Gave : World × Output → World → Output → Type 0
Gave gives next out = gives ≡ (next, out)

given : (gives : World × Output) (next : World) (out : Output) → ◌≡◌ {A = Result (World × Output) CoreFault} (Ok gives) (Ok (next, out)) → Gave gives next out
given gives next out e = cc

refused : (fault : CoreFault) (next : World) (out : Output) → ◌≡◌ {A = Result (World × Output) CoreFault} (Err fault) (Ok (next, out)) → ⊥
refused fault next out e = absurd cc

transfer_keeps : (w next : World) (number : ℕ) (stream : List ℕ) (zone : Option PlainZone) (out : Output) → transfer_step w number stream zone ≡ Ok (next, out) → Keeps w next
transfer_keeps w next number stream None out e = absurd (refused _ next out e)
transfer_keeps w next number stream (Some zone) out e =
    subst (λ (g : World × Output). Keeps w g.0) (given _ next out e) (record { settings = refl; allowed = refl; marks = length-set w.marks (number - 1) _; timers = changed_length _ w.timers (number - 1); workers = refl })

transfer_speaks : (w next : World) (number : ℕ) (stream : List ℕ) (zone : Option PlainZone) (out : Output) → transfer_step w number stream zone ≡ Ok (next, out) → Speaks out
transfer_speaks w next number stream None out e = absurd (refused _ next out e)
transfer_speaks w next number stream (Some zone) out e = subst (λ (g : World × Output). Speaks g.1) (given _ next out e) (offer_speaks number (offer 0 (mark_at w.marks number) zone stream))

full_is : (w next : World) (number : ℕ) (zone : Option PlainZone) (out : Output) → full_step w number zone ≡ Ok (next, out) → Keeps w next × (out ≡ output.None)
full_is w next number None out e = absurd (refused _ next out e)
full_is w next number (Some zone) out e =
    let same = given (record { settings = w.settings; allowed = w.allowed; accepted = w.accepted; marks = with_mark w.marks number true; timers = w.timers; sessions = w.sessions; clock = w.clock }, output.None) next out e in (
      subst (λ (g : World × Output). Keeps w g.0) same (record { settings = refl; allowed = refl; marks = length-set w.marks (number - 1) true; timers = refl; workers = refl }),
      sym (ap (λ (g : World × Output). g.1) same),
    )

-- ---- turns

turn_length : (s : SessionsState) (worker : ℕ) (policy : PlainPolicy) (incoming : Incoming) (facts : PlainFacts) (turn : Turn) → length (turn_step s worker policy incoming facts turn).0.workers ≡ length s.workers
turn_length s worker policy incoming facts (Ask question) = length-set s.workers worker _
turn_length s worker policy incoming facts (Said out) = length-set s.workers worker _

turn_speaks : (s : SessionsState) (worker : ℕ) (policy : PlainPolicy) (incoming : Incoming) (facts : PlainFacts) (turn : Turn) → Speaks (turn_step s worker policy incoming facts turn).1
turn_speaks s worker policy incoming facts (Ask question) = tt
turn_speaks s worker policy incoming facts (Said (said.Reply octets)) = tt
turn_speaks s worker policy incoming facts (Said said.Silent) = tt

-- what the turns of a query gave, in a world whose sessions were these
turn_does : (w next : World) (s : SessionsState) (worker : ℕ) (policy : PlainPolicy) (incoming : Incoming) (r : Resolved) (out : Output) → length s.workers ≡ length w.sessions.workers
    → with_sessions w (Ok (resolved_step s worker policy incoming r)) ≡ Ok (next, out) → Keeps w next × Speaks out
turn_does w next s worker policy incoming r out many e =
    let same = given _ next out e in (
      subst (λ (g : World × Output). Keeps w g.0) same (record { settings = refl; allowed = refl; marks = refl; timers = refl; workers = turn_length (with_cached s r.cached) worker policy incoming r.facts r.turn ∙ many }),
      subst (λ (g : World × Output). Speaks g.1) same (turn_speaks (with_cached s r.cached) worker policy incoming r.facts r.turn),
    )

query_does : (w next : World) (policy : PlainPolicy) (worker : ℕ) (incoming : Incoming) (slot : Option (Option PendingQuery)) (out : Output) → with_sessions w (query_step w.clock w.sessions policy worker incoming slot) ≡ Ok (next, out) → Keeps w next × Speaks out
query_does w next policy worker incoming None out e = absurd (refused _ next out e)
query_does w next policy worker incoming (Some (Some pending)) out e = absurd (refused _ next out e)
query_does w next policy worker incoming (Some None) out e = turn_does w next w.sessions worker policy incoming (resolve w.clock policy incoming w.sessions.cached []) out refl e

-- what comes for a pending query, whether it is cached or not
resumed_does : (w next : World) (s : SessionsState) (worker : ℕ) (pending : PendingQuery) (fact : Fact) (out : Output) → length s.workers ≡ length w.sessions.workers
    → with_sessions w (Ok (resumed_step w.clock s worker pending fact)) ≡ Ok (next, out) → Keeps w next × Speaks out
resumed_does w next s worker pending fact out many e =
    turn_does w next s worker pending.policy pending.incoming (resolve w.clock pending.policy pending.incoming s.cached (facts_with pending fact)) out many e

answer_does : (w next : World) (worker : ℕ) (message : List ℕ) (slot : Option (Option PendingQuery)) (out : Output) → with_sessions w (pending_step (answered_step w.clock w.sessions worker message) slot) ≡ Ok (next, out) → Keeps w next × Speaks out
answer_does w next worker message None out e = absurd (refused _ next out e)
answer_does w next worker message (Some None) out e = absurd (refused _ next out e)
answer_does w next worker message (Some (Some pending)) out e =
    let entry = learned_by pending message w.clock in
    resumed_does w next (with_learned w.sessions entry) worker pending (fact_at w.clock entry) out refl e

failure_does : (w next : World) (worker : ℕ) (slot : Option (Option PendingQuery)) (out : Output) → with_sessions w (pending_step (λ pending. resumed_step w.clock w.sessions worker pending (Broken Failed)) slot) ≡ Ok (next, out) → Keeps w next × Speaks out
failure_does w next worker None out e = absurd (refused _ next out e)
failure_does w next worker (Some None) out e = absurd (refused _ next out e)
failure_does w next worker (Some (Some pending)) out e = resumed_does w next w.sessions worker pending (Broken Failed) out refl e

pub step_keeps : (w next : World) (e : Event) (out : Output) → world_step w e ≡ Ok (next, out) → Keeps w next
unfolding world_step
step_keeps w next (Transfer number stream) out is = transfer_keeps w next number stream (zone_at (policy_of w).zones number) out is
step_keeps w next (Full number) out is = (full_is w next number (zone_at (policy_of w).zones number) out is).0
step_keeps w next (Query worker transport client message) out is = (query_does w next (policy_of w) worker (incoming_of (is_allowed w.allowed client) message client transport) (slice_get w.sessions.workers worker) out is).0
step_keeps w next (Give worker message) out is = (answer_does w next worker message (slice_get w.sessions.workers worker) out is).0
step_keeps w next (Fail worker) out is = (failure_does w next worker (slice_get w.sessions.workers worker) out is).0
step_keeps w next (Notify client message) out is =
    subst (λ (g : World × Output). Keeps w g.0) (given (notify_step w client message) next out is) (record { settings = refl; allowed = refl; marks = refl; timers = brought_length w.clock w.timers _; workers = refl })
step_keeps w next Due out is = subst (λ (g : World × Output). Keeps w g.0) (given (w, output.Due _) next out is) (record { settings = refl; allowed = refl; marks = refl; timers = refl; workers = refl })
step_keeps w next (Clock seconds) out is = subst (λ (g : World × Output). Keeps w g.0) (given (clock_step w seconds) next out is) (record { settings = refl; allowed = refl; marks = refl; timers = refl; workers = refl })

notified_speaks : (n : Notified) → Speaks (notified_output n)
notified_speaks (notified.Reply octets) = tt
notified_speaks notified.Silent = tt

loud : (out : Output) → Speaks out → (out ≡ output.None) ↔ ⊥
loud out h = (λ e. silent out h e, λ e. absurd e)

pub step_outputs : (w next : World) (e : Event) (out : Output) → world_step w e ≡ Ok (next, out) → (out ≡ output.None) ↔ IsQuiet e
unfolding world_step
step_outputs w next (Transfer number stream) out is = loud out (transfer_speaks w next number stream (zone_at (policy_of w).zones number) out is)
step_outputs w next (Full number) out is = (λ _. tt, λ _. (full_is w next number (zone_at (policy_of w).zones number) out is).1)
step_outputs w next (Query worker transport client message) out is = loud out (query_does w next (policy_of w) worker (incoming_of (is_allowed w.allowed client) message client transport) (slice_get w.sessions.workers worker) out is).1
step_outputs w next (Give worker message) out is = loud out (answer_does w next worker message (slice_get w.sessions.workers worker) out is).1
step_outputs w next (Fail worker) out is = loud out (failure_does w next worker (slice_get w.sessions.workers worker) out is).1
step_outputs w next (Notify client message) out is =
    loud out (subst (λ (g : World × Output). Speaks g.1) (given (notify_step w client message) next out is) (notified_speaks (as_notified (answer_to (is_allowed w.allowed client) message client (origins_in w.settings) w.timers).0)))
step_outputs w next Due out is = loud out (subst (λ (g : World × Output). Speaks g.1) (given (w, output.Due _) next out is) tt)
step_outputs w next (Clock seconds) out is = (λ _. tt, λ _. sym (ap (λ (g : World × Output). g.1) (given (clock_step w seconds) next out is)))
