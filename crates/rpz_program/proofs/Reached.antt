-- In a world that a script reaches, a line of the grammar is done.
use Rattle.std.proofs.Common.{◌≡◌, ℕ, zero, suc, ◌+◌, ◌-◌, ◌==◌, ◌<◌, ◌≤◌, Bool, true, false, if◌then◌else◌, nat_lt, List, [], ◌∷◌, ◌++◌, Option, Some, None, Result, Ok, Err, length, map, replicate, refl, sym, ap, subst, ◌∙◌, arith, append-nil, append_assoc}
use Rattle.std.proofs.lemmas.Bool.Decides.{nat_tests}
use Rattle.std.specs.Prelude.{IsOk, is_some, slice_get, slice_index_or}
use Rattle.std.proofs.lemmas.List.{length-map}
use Rattle.policy_override.specs.declared.zone_set.ZoneSet.{ZoneSet}
use Rattle.policy_override.specs.ZoneSet.{origins_in}
use Rattle.ip_prefix.specs.declared.Addr.{Addr}
use Rattle.ip_prefix.specs.Prefix.{PlainPrefix}
use Rattle.ip_prefix.specs.declared.Transport.{Transport}
use Rattle.networks.specs.Allowed.{is_allowed}
use Rattle.script_codec.specs.declared.line.Line.{Line}
use Rattle.script_codec.specs.declared.line.Line.TheVariants.{Zone, Primary, Allow, Transfer, Full, Query, Give, Fail, Notify, Due, Clock}
use Rattle.script_codec.specs.declared.line_fault.LineFault.{LineFault}
use Rattle.script_codec.specs.Line.{unnumbered_line}
use Rattle.script_codec.specs.State.{zone_count, is_pending}
use Rattle.script_codec.specs.Within.{IsWithin, IsZone, MayAllow, MayHavePrimary, MayOpen}
use Rattle.script_codec.proofs.LineBounds.{line_within}
use Rattle.script_loop.specs.Abstraction.{outcome_along}
use Rattle.script_loop.specs.declared.limits.TheConstants.{LINE_BYTES, LINES}
use Rattle.script_loop.specs.Fold.{counting_on, line_outcome, run_of, run_on}
use Rattle.zone_rows.specs.declared.zone.PlainZone.{PlainZone}
use Rattle.policy_snapshot.specs.Policy.{zone_at}
use Rattle.policy_snapshot.proofs.Standing.{policy_length}
use Rattle.rpz_core.specs.declared.event.CoreFault.{CoreFault}
use Rattle.rpz_core.specs.declared.event.Event.{Event}
use Rattle.rpz_core.specs.declared.event.Event.TheVariants as event
use Rattle.rpz_core.specs.declared.event.Output.{Output}
use Rattle.rpz_core.specs.declared.sessions.TheConstants.{WORKERS}
use Rattle.rpz_core.specs.History.{Reaches, begins, goes_on}
use Rattle.rpz_core.specs.Faults.{zone_fault, query_fault, fact_fault, fault_of}
use Rattle.query_session.specs.Session.{said_outside}
use Rattle.rpz_core.specs.Sessions.{PendingQuery, said_output}
use Rattle.rpz_core.specs.World.{World, policy_of, world_step}
use Rattle.rpz_core.proofs.Outputs.{step_keeps}
use Rattle.rpz_core.proofs.Refusals.{refused_by_state}
use Rattle.rpz_program.specs.Opened.{OpenZones, with_network, with_primary, with_open_zone}
use Rattle.rpz_program.specs.Script.{ScriptWorld, opened, answering, IsReached, at_start, after_line, event_of, event_read, line_outside, state_in, with_event, world_in, zones_opened, shown_outcome, event_outcome, zone_outcome, network_outcome, primary_outcome, world_after_line, step, text_outcome, too_long, too_many}

-- ---- events lead to a world that is reached, and it has its workers

abbrev IsLed : OpenZones → List Event → ScriptWorld → Type 0
IsLed zones events (opened these) = (these ≡ zones) × (events ≡ [])
IsLed zones events (answering world) = Reaches zones.settings zones.primaries zones.allowed events world

events_in : (zones : OpenZones) (events : List Event) (w : ScriptWorld) → IsLed zones events w → Reaches zones.settings zones.primaries zones.allowed events (world_in w)
events_in zones events (opened these) h =
    subst (λ (es : List Event). Reaches zones.settings zones.primaries zones.allowed es (world_in (opened these))) (sym h.1)
    (subst (λ (zs : OpenZones). Reaches zs.settings zs.primaries zs.allowed [] (world_in (opened these))) h.0 begins)
events_in zones events (answering world) h = h

-- a line that is no event
stays : (zones : OpenZones) (events : List Event) (w : ScriptWorld) → IsLed zones events w → IsLed (zones_opened w zones) events w
stays zones events (opened these) h = (refl, h.1)
stays zones events (answering world) h = h

worker_count : (settings : List ZoneSet) (primaries : List (Option Addr)) (allowed : List PlainPrefix) (events : List Event) (world : World) → Reaches settings primaries allowed events world → length world.sessions.workers ≡ WORKERS
worker_count settings primaries allowed _ _ begins = refl
worker_count settings primaries allowed _ _ (goes_on events e world next out before is) = (step_keeps world next e out is).workers ∙ worker_count settings primaries allowed events world before

workers_in : (zones : OpenZones) (events : List Event) (w : ScriptWorld) → IsLed zones events w → length (world_in w).sessions.workers ≡ WORKERS
workers_in zones events w h = worker_count zones.settings zones.primaries zones.allowed events (world_in w) (events_in zones events w h)

abbrev Outcome : Type 0
Outcome = Result (ScriptWorld × List ℕ) LineFault

pairs_are : (given next : ScriptWorld × List ℕ) → (let o : Outcome = Ok given in o ≡ Ok next) → given ≡ next
pairs_are given next e = cc

counted_is : (given next : (ℕ × ScriptWorld) × List ℕ) → (let o : Result ((ℕ × ScriptWorld) × List ℕ) LineFault = Ok given in o ≡ Ok next) → given ≡ next
counted_is given next e = cc

ended_is : (given next : ℕ × ScriptWorld) → (let o : Result (ℕ × ScriptWorld) (ℕ × LineFault) = Ok given in o ≡ Ok next) → given ≡ next
ended_is given next e = cc

done_is : (given next : ScriptWorld) (octets out : List ℕ) → (let o : Outcome = Ok (given, octets) in o ≡ Ok (next, out)) → given ≡ next
done_is given next octets out e = ap (λ (p : ScriptWorld × List ℕ). p.0) (pairs_are (given, octets) (next, out) e)

-- what is done leads on
module _ (zones : OpenZones) where
  abbrev Goes : List Event → ScriptWorld → Outcome → Type 0
  Goes events next outcome = (out : List ℕ) → outcome ≡ Ok (next, out) → IsLed (zones_opened next zones) events next

  given_goes : (events : List Event) (given next : ScriptWorld) (octets : List ℕ) → IsLed (zones_opened given zones) events given → Goes events next (Ok (given, octets))
  given_goes events given next octets h out is = subst (λ (w : ScriptWorld). IsLed (zones_opened w zones) events w) (done_is given next octets out is) h

  event_if : (events : List Event) (world : World) (next : ScriptWorld) (e : Event) (r : Result (World × Output) CoreFault) → Reaches zones.settings zones.primaries zones.allowed events world → world_step world e ≡ r → Goes (e ∷ events) next (outcome_along answering (shown_outcome r))
  event_if events world next e (Ok given) h is = given_goes (e ∷ events) (answering given.0) next _ (goes_on events e world given.0 given.1 h is)
  event_if events world next e (Err fault) h is = λ out same. absurd cc

  event_goes : (events : List Event) (w next : ScriptWorld) (e : Event) → IsLed zones events w → Goes (e ∷ events) next (event_outcome w e)
  event_goes events w next e h = event_if events (world_in w) next e (world_step (world_in w) e) (events_in zones events w h) refl

  zone_goes : (events : List Event) (w next : ScriptWorld) (zone : ZoneSet) → IsLed zones events w → Goes events next (zone_outcome w zone)
  zone_goes events (opened these) next zone h = given_goes events (opened (with_open_zone these zone)) next [] (refl, h.1)
  zone_goes events (answering world) next zone h = λ out is. absurd cc

  primary_goes : (events : List Event) (w next : ScriptWorld) (zone : ℕ) (address : Addr) → IsLed zones events w → Goes events next (primary_outcome w zone address)
  primary_goes events (opened these) next zone address h = given_goes events (opened (with_primary these zone address)) next [] (refl, h.1)
  primary_goes events (answering world) next zone address h = λ out is. absurd cc

  network_goes : (events : List Event) (w next : ScriptWorld) (network : PlainPrefix) → IsLed zones events w → Goes events next (network_outcome w network)
  network_goes events (opened these) next network h = given_goes events (opened (with_network these network)) next [] (refl, h.1)
  network_goes events (answering world) next network h = λ out is. absurd cc

  line_goes : (events : List Event) (w next : ScriptWorld) (line : Line) → IsLed zones events w → Goes (with_event (event_of line) events) next (world_after_line w line)
  unfolding world_after_line
  line_goes events w next (Zone origin over) h = zone_goes events w next (record { origin = origin; over = over }) h
  line_goes events w next (Primary zone address) h = primary_goes events w next zone address h
  line_goes events w next (Allow network) h = network_goes events w next network h
  line_goes events w next (Transfer zone stream) h = event_goes events w next (event.Transfer zone stream) h
  line_goes events w next (Full zone) h = event_goes events w next (event.Full zone) h
  line_goes events w next (Query worker transport client message) h = event_goes events w next (event.Query worker transport client message) h
  line_goes events w next (Give worker message) h = event_goes events w next (event.Give worker message) h
  line_goes events w next (Fail worker) h = event_goes events w next (event.Fail worker) h
  line_goes events w next (Notify client message) h = event_goes events w next (event.Notify client message) h
  line_goes events w next Due h = event_goes events w next event.Due h
  line_goes events w next (Clock seconds) h = event_goes events w next (event.Clock seconds) h

  text_goes : (events : List Event) (w next : ScriptWorld) (read : Result (Option Line) LineFault) → IsLed zones events w → Goes (with_event (event_read read) events) next (text_outcome w read)
  text_goes events w next (Err why) h = λ out is. absurd cc
  text_goes events w next (Ok None) h = given_goes events w next [] (stays zones events w h)
  text_goes events w next (Ok (Some line)) h = line_goes events w next line h

reached_led : (lines : List (List ℕ)) (zones : OpenZones) (events : List Event) (w : ScriptWorld) → IsReached lines zones events w → IsLed zones events w
reached_led _ _ _ _ at_start = (refl, refl)
reached_led _ _ _ _ (after_line lines more zones after events all world next text out before is lines_are zones_are events_are) =
    subst (λ (es : List Event). IsLed after es next) (sym events_are)
    (subst (λ (zs : OpenZones). IsLed zs (with_event (event_read (unnumbered_line text (state_in world))) events) next) (sym zones_are)
    (text_goes zones events world next (unnumbered_line text (state_in world)) (reached_led lines zones events world before) out is))

pub reached_events : (lines : List (List ℕ)) (zones : OpenZones) (events : List Event) (w : ScriptWorld) → IsReached lines zones events w → Reaches zones.settings zones.primaries zones.allowed events (world_in w)
reached_events lines zones events w reached = events_in zones events w (reached_led lines zones events w reached)

-- ---- the world after lines is reached

abbrev Counted : Type 0
Counted = Result ((ℕ × ScriptWorld) × List ℕ) LineFault

-- reached by just these lines
abbrev pub IsReachedBy : List (List ℕ) → ScriptWorld → Type 0
IsReachedBy lines w = (zones : OpenZones) × (events : List Event) × IsReached lines zones events w

line_reached : (many long : Bool) (number : ℕ) (lines : List (List ℕ)) (w : ScriptWorld) (line : List ℕ) (r : Outcome) (next : (ℕ × ScriptWorld) × List ℕ) → IsReachedBy lines w → step w line ≡ r
    → (let o : Counted = (if many then Err too_many else (if long then Err too_long else counting_on number r)) in o ≡ Ok next) → IsReachedBy (lines ++ line ∷ []) next.0.1
line_reached true long number lines w line r next reached is took = absurd cc
line_reached false true number lines w line r next reached is took = absurd cc
line_reached false false number lines w line (Err why) next reached is took = absurd cc
line_reached false false number lines w line (Ok (given, out)) next reached is took =
    subst (λ (n : (ℕ × ScriptWorld) × List ℕ). IsReachedBy (lines ++ line ∷ []) n.0.1) (counted_is ((number + 1, given), out) next took) (
      zones_opened given reached.0,
      with_event (event_read (unnumbered_line line (state_in w))) reached.1,
      after_line lines (lines ++ line ∷ []) reached.0 (zones_opened given reached.0) reached.1 (with_event (event_read (unnumbered_line line (state_in w))) reached.1) w given line out reached.2 is refl refl refl,
    )

abbrev Ended : Type 0
Ended = Result (ℕ × ScriptWorld) (ℕ × LineFault)

on_reached : (number : ℕ) (r : Counted) (before lines : List (List ℕ)) (line : List ℕ) (end : ℕ × ScriptWorld) → ((next : (ℕ × ScriptWorld) × List ℕ) → r ≡ Ok next → IsReachedBy (before ++ line ∷ []) next.0.1)
    → ((next : ℕ × ScriptWorld) → IsReachedBy (before ++ line ∷ []) next.1 → (run_of too_many too_long step next lines).1 ≡ Ok end → IsReachedBy ((before ++ line ∷ []) ++ lines) end.1)
    → (run_on number r (λ next. run_of too_many too_long step next lines)).1 ≡ Ok end → IsReachedBy ((before ++ line ∷ []) ++ lines) end.1
on_reached number (Err why) before lines line end took rest is = absurd cc
on_reached number (Ok next) before lines line end took rest is = rest next.0 (took next refl) is

pub run_reached : (before lines : List (List ℕ)) (old : ℕ × ScriptWorld) (end : ℕ × ScriptWorld) → IsReachedBy before old.1 → (run_of too_many too_long step old lines).1 ≡ Ok end → IsReachedBy (before ++ lines) end.1
run_reached before [] old end reached is =
    subst (λ (e : ℕ × ScriptWorld). IsReachedBy (before ++ []) e.1) (ended_is old end is)
    (subst (λ (ls : List (List ℕ)). IsReachedBy ls old.1) (sym (append-nil before)) reached)
run_reached before (line ∷ lines) old end reached is =
    subst (λ (ls : List (List ℕ)). IsReachedBy ls end.1) (append_assoc before (line ∷ []) lines)
    (on_reached old.0 (line_outcome too_many too_long step old line) before lines line end
    (λ next took. line_reached (nat_lt LINES old.0) (nat_lt LINE_BYTES (length line)) old.0 before old.1 line (step old.1 line) next reached refl took)
    (λ next. run_reached (before ++ line ∷ []) lines next end)
    is)

-- ---- a line within its state has no fault

zone_there : (zones : List PlainZone) (place : ℕ) → place < length zones → zone_fault (slice_get zones place) ≡ None
zone_there [] place h = absurd (omega (arith, h))
zone_there (zone ∷ zones) zero h = refl
zone_there (zone ∷ zones) (suc place) h = zone_there zones place (omega (arith, h))

number_there : (zones : List PlainZone) (number : ℕ) → 1 ≤ number → number ≤ length zones → zone_fault (zone_at zones number) ≡ None
number_there zones number low high =
    let counts : (number == 0) ≡ false = grind (arith, nat_tests) in
    rw counts (zone_there zones (number - 1) (omega (arith, low, high)))

query_free : (workers : List (Option PendingQuery)) (k : ℕ) → k < length workers → slice_index_or (map is_some workers) k false ≡ false → query_fault (slice_get workers k) ≡ None
query_free [] k h free = absurd (omega (arith, h))
query_free (None ∷ workers) zero h free = refl
query_free (Some pending ∷ workers) zero h free = absurd cc
query_free (worker ∷ workers) (suc k) h free = query_free workers k (omega (arith, h)) free

fact_awaited : (workers : List (Option PendingQuery)) (k : ℕ) → k < length workers → slice_index_or (map is_some workers) k false ≡ true → fact_fault (slice_get workers k) ≡ None
fact_awaited [] k h busy = absurd (omega (arith, h))
fact_awaited (None ∷ workers) zero h busy = absurd cc
fact_awaited (Some pending ∷ workers) zero h busy = refl
fact_awaited (worker ∷ workers) (suc k) h busy = fact_awaited workers k (omega (arith, h)) busy

none_pending : (count k : ℕ) → slice_index_or (map is_some (replicate {A = Option PendingQuery} count None)) k false ≡ false
none_pending zero k = refl
none_pending (suc count) zero = refl
none_pending (suc count) (suc k) = none_pending count k

-- which workers are pending, in the world of the core
pending_in : (w : ScriptWorld) (k : ℕ) → is_pending (state_in w) k ≡ slice_index_or (map is_some (world_in w).sessions.workers) k false
pending_in (opened zones) k = sym (none_pending WORKERS k)
pending_in (answering world) k = refl

zones_in : (w : ScriptWorld) → length (policy_of (world_in w)).zones ≡ zone_count (state_in w)
zones_in (opened zones) = policy_length (origins_in zones.settings) []
zones_in (answering world) = policy_length (origins_in world.settings) world.accepted ∙ length-map world.settings (λ (zone : ZoneSet). zone.origin)

zone_found : (w : ScriptWorld) (number : ℕ) → IsZone (state_in w) number → zone_fault (zone_at (policy_of (world_in w)).zones number) ≡ None
zone_found w number h = number_there (policy_of (world_in w)).zones number h.0 (subst (λ (n : ℕ). number ≤ n) (sym (zones_in w)) h.1)

abbrev HasWorkers : ScriptWorld → Type 0
HasWorkers w = length (world_in w).sessions.workers ≡ WORKERS

worker_found : (w : ScriptWorld) (k : ℕ) → HasWorkers w → k < WORKERS → k < length (world_in w).sessions.workers
worker_found w k has h = subst (λ (n : ℕ). k < n) (sym has) h

query_found : (w : ScriptWorld) (k : ℕ) → HasWorkers w → k < WORKERS → is_pending (state_in w) k ≡ false → query_fault (slice_get (world_in w).sessions.workers k) ≡ None
query_found w k has h free = query_free (world_in w).sessions.workers k (worker_found w k has h) (sym (pending_in w k) ∙ free)

fact_found : (w : ScriptWorld) (k : ℕ) → HasWorkers w → k < WORKERS → is_pending (state_in w) k ≡ true → fact_fault (slice_get (world_in w).sessions.workers k) ≡ None
fact_found w k has h busy = fact_awaited (world_in w).sessions.workers k (worker_found w k has h) (sym (pending_in w k) ∙ busy)

-- ---- so it is done

event_done_if : (world : World) (e : Event) (r : Result (World × Output) CoreFault) → fault_of world e ≡ None → world_step world e ≡ r → IsOk (outcome_along answering (shown_outcome r))
event_done_if world e (Ok next) h is = refl
event_done_if world e (Err fault) h is = let faulty = (refused_by_state world e fault).0 is in absurd cc

event_done : (w : ScriptWorld) (e : Event) → fault_of (world_in w) e ≡ None → IsOk (event_outcome w e)
event_done w e h = event_done_if (world_in w) e (world_step (world_in w) e) h refl

zone_done : (w : ScriptWorld) (zone : ZoneSet) → MayOpen (state_in w) zone.origin → IsOk (zone_outcome w zone)
zone_done (opened zones) origin h = refl
zone_done (answering world) origin h = absurd h

primary_done : (w : ScriptWorld) (zone : ℕ) (address : Addr) → MayHavePrimary (state_in w) zone → IsOk (primary_outcome w zone address)
primary_done (opened zones) zone address h = refl
primary_done (answering world) zone address h = absurd h

network_done : (w : ScriptWorld) (network : PlainPrefix) → MayAllow (state_in w) network → IsOk (network_outcome w network)
network_done (opened zones) network h = refl
network_done (answering world) network h = absurd h

within_done : (w : ScriptWorld) (line : Line) → HasWorkers w → IsWithin (state_in w) line → IsOk (world_after_line w line)
unfolding world_after_line
within_done w (Zone origin over) has h = zone_done w (record { origin = origin; over = over }) h.1
within_done w (Primary zone address) has h = primary_done w zone address h.1
within_done w (Allow network) has h = network_done w network h.1
within_done w (Transfer zone stream) has h = event_done w (event.Transfer zone stream) (zone_found w zone h)
within_done w (Full zone) has h = event_done w (event.Full zone) (zone_found w zone h)
within_done w (Query worker transport client message) has h = event_done w (event.Query worker transport client message) (query_found w worker has h.0 h.2)
within_done w (Give worker message) has h = event_done w (event.Give worker message) (fact_found w worker has h.0 h.2)
within_done w (Fail worker) has h = event_done w (event.Fail worker) (fact_found w worker has h.0 h.1)
within_done w (Notify client message) has h = event_done w (event.Notify client message) refl
within_done w Due has h = event_done w event.Due refl
within_done w (Clock seconds) has h = event_done w (event.Clock seconds) refl

-- A line of the grammar is done in every world that is reached.
pub line_done : (lines : List (List ℕ)) (zones : OpenZones) (events : List Event) (w : ScriptWorld) (text : List ℕ) (line : Line) → IsReached lines zones events w → unnumbered_line text (state_in w) ≡ Ok (Some line) → IsOk (world_after_line w line)
line_done lines zones events w text line reached is = within_done w line (workers_in zones events w (reached_led lines zones events w reached)) (line_within text (state_in w) line is)

-- ---- a query of a client that may not ask

who_may_ask : (settings : List ZoneSet) (primaries : List (Option Addr)) (allowed : List PlainPrefix) (events : List Event) (world : World) → Reaches settings primaries allowed events world → world.allowed ≡ allowed
who_may_ask settings primaries allowed _ _ begins = refl
who_may_ask settings primaries allowed _ _ (goes_on events e world next out before is) = (step_keeps world next e out is).allowed ∙ who_may_ask settings primaries allowed events world before

slot_free : (workers : List (Option PendingQuery)) (k : ℕ) → k < length workers → slice_index_or (map is_some workers) k false ≡ false → slice_get workers k ≡ Some None
slot_free [] k h free = absurd (omega (arith, h))
slot_free (None ∷ workers) zero h free = refl
slot_free (Some pending ∷ workers) zero h free = absurd cc
slot_free (worker ∷ workers) (suc k) h free = slot_free workers k (omega (arith, h)) free

-- what the law of the core says
abbrev pub ChangesNothing : Type 0
ChangesNothing = (world : World) (worker : ℕ) (transport : Transport) (client : Addr) (message : List ℕ) → is_allowed world.allowed client ≡ false → slice_get world.sessions.workers worker ≡ Some None
    → world_step world (event.Query worker transport client message) ≡ Ok (world, said_output worker (said_outside message))

-- a line of such a query is done, leaves the world, and writes what the message alone says
pub query_outside : ChangesNothing → (lines : List (List ℕ)) (zones : OpenZones) (events : List Event) (w : ScriptWorld) (text : List ℕ) (worker : ℕ) (transport : Transport) (client : Addr) (message : List ℕ) → IsReached lines zones events w
    → unnumbered_line text (state_in w) ≡ Ok (Some (Query worker transport client message)) → is_allowed zones.allowed client ≡ false → step w text ≡ Ok (answering (world_in w), line_outside worker message)
unfolding world_after_line
query_outside nothing lines zones events w text worker transport client message reached is outside =
    let led = reached_led lines zones events w reached in
    let within = line_within text (state_in w) (Query worker transport client message) is in
    let allowed : (world_in w).allowed ≡ zones.allowed = who_may_ask zones.settings zones.primaries zones.allowed events (world_in w) (events_in zones events w led) in
    let free = slot_free (world_in w).sessions.workers worker (worker_found w worker (workers_in zones events w led) within.0) (sym (pending_in w worker) ∙ within.2) in
    ap (text_outcome w) is
    ∙ ap (λ (r : Result (World × Output) CoreFault). outcome_along answering (shown_outcome r))
    (nothing (world_in w) worker transport client message (ap (λ (networks : List PlainPrefix). is_allowed networks client) allowed ∙ outside) free)
