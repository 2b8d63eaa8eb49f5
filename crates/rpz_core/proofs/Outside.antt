-- What a client does that may not ask: nothing.
use Rattle.std.proofs.Common.{◌≡◌, ℕ, zero, suc, Bool, true, false, if◌then◌else◌, List, [], Option, Some, None, Result, Ok, refl, ap, ◌∙◌}
use Rattle.std.specs.Prelude.{◌==◌, not, slice_get}
use Rattle.ip_prefix.specs.declared.Addr.{Addr}
use Rattle.ip_prefix.specs.declared.Transport.{Transport}
use Rattle.networks.specs.Allowed.{is_allowed}
use Rattle.dns_name.specs.Labels.{Name}
use Rattle.dns_message.specs.declared.request.Incoming.{Incoming}
use Rattle.dns_message.specs.declared.triage.TheConstants.{NOT_IMPLEMENTED}
use Rattle.dns_message.specs.Reading.{header_in, message_of}
use Rattle.dns_message.specs.Request.{header_alone, incoming_of, query_parts_in, speaks_in, turned_away}
use Rattle.notify_poll.specs.declared.timer.Timer.{Timer}
use Rattle.notify_poll.specs.declared.notifying.TheConstants.{NOTIFY}
use Rattle.notify_poll.specs.Notifying.{Answer, answer_to, is_of_primary, notify_answer}
use Rattle.policy_override.specs.ZoneSet.{origins_in}
use Rattle.policy_snapshot.specs.Policy.{PlainPolicy}
use Rattle.query_session.specs.Session.{said_outside, turn_by}
use Rattle.reply_build.specs.declared.said.Said as replies
use Rattle.reply_build.specs.declared.turn.Turn.TheVariants.{Said}
use Rattle.upstream_link.specs.declared.facts.TheConstants.{FACT_LIMIT}
use Rattle.upstream_link.specs.Facts.{PlainFacts}
use Rattle.upstream_link.specs.Vouched.{PlainLearned}
use Rattle.rpz_core.specs.declared.event.CoreFault.{CoreFault}
use Rattle.rpz_core.specs.declared.event.Event.TheVariants.{Notify, Query}
use Rattle.rpz_core.specs.declared.event.Output.{Output}
use Rattle.rpz_core.specs.Resolving.{Resolved, by_turn, resolution, resolve_within}
use Rattle.rpz_core.specs.Sessions.{PendingQuery, query_step, resolved_step, said_output}
use Rattle.rpz_core.specs.World.{World, policy_of, with_sessions, with_timers, world_step}
use Rattle.rpz_core.proofs.Moved.{notify_moves, unnamed_leaves}
use Rattle.rpz_core.proofs.Slots.{set_same}

-- what the law of sessions says
abbrev pub WhatIsSaidOutside : Type 0
WhatIsSaidOutside = (bytes : List ℕ) (client : Addr) (transport : Transport) (policy : PlainPolicy) (facts : PlainFacts) → turn_by policy (incoming_of false bytes client transport) facts ≡ Said (said_outside bytes)

-- ---- queries

-- a query that is answered at once looks nothing up
resolve_said : (left now : ℕ) (policy : PlainPolicy) (incoming : Incoming) (cached : List PlainLearned) (facts : PlainFacts) (s : replies.Said) → turn_by policy incoming facts ≡ Said s
    → resolve_within left now policy incoming cached facts ≡ resolution cached facts (Said s)
unfolding resolve_within
resolve_said zero now policy incoming cached facts s says = ap (resolution cached facts) says
resolve_said (suc left) now policy incoming cached facts s says = ap (by_turn (resolve_within left now policy incoming) now cached facts) says

-- it leaves the world
said_at_once : (w : World) (worker : ℕ) (policy : PlainPolicy) (incoming : Incoming) (s : replies.Said) → slice_get w.sessions.workers worker ≡ Some None → turn_by policy incoming [] ≡ Said s
    → with_sessions w (query_step w.clock w.sessions policy worker incoming (slice_get w.sessions.workers worker)) ≡ Ok (w, said_output worker s)
said_at_once w worker policy incoming s free says =
    ap (λ (slot : Option (Option PendingQuery)). with_sessions w (query_step w.clock w.sessions policy worker incoming slot)) free
    ∙ ap (λ (r : Resolved). with_sessions w (Ok (resolved_step w.sessions worker policy incoming r))) (resolve_said FACT_LIMIT w.clock policy incoming w.sessions.cached [] s says)
    ∙ ap (λ (ws : List (Option PendingQuery)). let r : Result (World × Output) CoreFault = Ok (
      record {
        settings = w.settings;
        allowed = w.allowed;
        accepted = w.accepted;
        marks = w.marks;
        timers = w.timers;
        sessions = record { workers = ws; last_id = w.sessions.last_id; cached = w.sessions.cached };
        clock = w.clock;
      },
      said_output worker s,
    ) in r) (set_same w.sessions.workers worker None free)

pub query_outside : WhatIsSaidOutside → (w : World) (worker : ℕ) (transport : Transport) (client : Addr) (message : List ℕ) → is_allowed w.allowed client ≡ false → slice_get w.sessions.workers worker ≡ Some None
    → world_step w (Query worker transport client message) ≡ Ok (w, said_output worker (said_outside message))
unfolding world_step
query_outside said w worker transport client message outside free =
    let policy = policy_of w in
    said_at_once w worker policy (incoming_of (is_allowed w.allowed client) message client transport) (said_outside message) free
    (ap (λ (may_ask : Bool). turn_by policy (incoming_of may_ask message client transport) []) outside ∙ said message client transport policy [])

-- ---- NOTIFYs

-- by whether the message is one to which anything is said
no_place : (speaks primary : Bool) (away others : Answer) → primary ≡ false → away.1 ≡ None → (let a : Answer = if not speaks then (None, None) else (if not primary then away else others) in a.1) ≡ None
no_place false primary away others stranger none = refl
no_place true true away others stranger none = absurd cc
no_place true false away others stranger none = none

noted_outside : (bytes : List ℕ) (client : Addr) (origins : List Name) (timers : List Timer) → is_of_primary timers client ≡ false → (answer_to false bytes client origins timers).1 ≡ None
unfolding answer_to
noted_outside bytes client origins timers stranger =
    let h = header_in bytes in
    let others : Answer = if h.opcode == NOTIFY then notify_answer h (query_parts_in (message_of bytes)) origins timers client else (Some (header_alone NOT_IMPLEMENTED h), None) in
    no_place (speaks_in bytes) (is_of_primary timers client) (Some (turned_away bytes), None) others stranger refl

pub notify_outside : (w next : World) (client : Addr) (message : List ℕ) (out : Output) → is_allowed w.allowed client ≡ false → is_of_primary w.timers client ≡ false → world_step w (Notify client message) ≡ Ok (next, out) → next ≡ w
notify_outside w next client message out outside stranger e =
    let origins = origins_in w.settings in
    let none : (answer_to (is_allowed w.allowed client) message client origins w.timers).1 ≡ None =
    ap (λ (may_ask : Bool). (answer_to may_ask message client origins w.timers).1) outside ∙ noted_outside message client origins w.timers stranger in
    notify_moves w next client message out e ∙ ap (with_timers w) (unnamed_leaves w next client message out e none)
