-- What led to a reply: by induction over the events.
use Rattle.std.proofs.Common.{◌≡◌, ℕ, zero, suc, ◌⊎◌, inl, inr, Bool, true, false, cond, List, [], ◌∷◌, ◌++◌, take, replicate, Option, Some, None, Result, Ok, Err, Contains, length, refl, sym, ap, ◌∙◌, subst, arith, length-append}
use Rattle.std.specs.Prelude.{slice_get, slice_set}
use Rattle.std.proofs.lemmas.List.{append-nil, take-append-le, take_all}
use Rattle.zone_rows.specs.declared.transfer.Transfer as transfers
use Rattle.zone_rows.specs.declared.zone.PlainZone.{PlainZone}
use Rattle.zone_rows.specs.Zone.{apply_outcome}
use Rattle.answer_cache.specs.Recent.{AreApart, live_entry}
use Rattle.answer_cache.proofs.Apart.{apart_kept, apart_none}
use Rattle.answer_cache.proofs.Touched.{among_kept}
use Rattle.ip_prefix.specs.declared.Addr.{Addr}
use Rattle.ip_prefix.specs.Prefix.{PlainPrefix}
use Rattle.networks.specs.Allowed.{is_allowed}
use Rattle.ip_prefix.specs.declared.Transport.{Transport}
use Rattle.dns_message.specs.declared.fault.MessageFault.{MessageFault}
use Rattle.dns_message.specs.declared.message.Message.{Message}
use Rattle.dns_message.specs.declared.question.Question.{Question}
use Rattle.dns_message.specs.declared.request.Incoming.{Incoming}
use Rattle.dns_message.specs.Reading.{message_of}
use Rattle.dns_message.specs.Request.{incoming_of}
use Rattle.upstream_link.specs.declared.fact.Fact.{Fact}
use Rattle.upstream_link.specs.declared.fact.Fact.TheVariants.{Answer, Broken}
use Rattle.upstream_link.specs.declared.fact.AnswerFault.TheVariants.{Failed, Unusable, Rcode}
use Rattle.upstream_link.specs.Fact.{answer_in, answers_to, fact_by, fact_from, fact_in, is_answer_rcode}
use Rattle.upstream_link.specs.Facts.{PlainFacts}
use Rattle.upstream_link.specs.Life.{with_age}
use Rattle.upstream_link.specs.Question.{question_bytes}
use Rattle.upstream_link.specs.Vouched.{PlainLearned, fact_at}
use Rattle.reply_build.specs.declared.said.Said as replies
use Rattle.reply_build.specs.declared.said.Said.TheVariants as said
use Rattle.reply_build.specs.declared.turn.Turn.{Turn}
use Rattle.reply_build.specs.declared.turn.Turn.TheVariants.{Ask, Said}
use Rattle.policy_override.specs.declared.zone_set.ZoneSet.{ZoneSet}
use Rattle.policy_override.specs.ZoneSet.{origins_in}
use Rattle.policy_snapshot.specs.declared.entry.Entry.{Entry}
use Rattle.policy_snapshot.specs.Policy.{AreAccepted, PlainPolicy, policy_after, zone_at, zones_behind}
use Rattle.query_session.specs.Session.{turn_by}
use Rattle.rpz_core.specs.declared.event.CoreFault.{CoreFault}
use Rattle.rpz_core.specs.declared.event.Event.{Event}
use Rattle.rpz_core.specs.declared.event.Event.TheVariants.{Transfer, Full, Query, Give, Fail, Notify, Due, Clock}
use Rattle.rpz_core.specs.declared.event.Output.{Output}
use Rattle.rpz_core.specs.declared.event.Output.TheVariants as output
use Rattle.ixfr_apply.specs.Marks.{mark_at}
use Rattle.ixfr_apply.specs.Offer.{Offer, takes, is_current, refuses, offer, request_of}
use Rattle.ixfr_apply.specs.Stream.{reading}
use Rattle.notify_poll.specs.declared.notifying.Notified.{Notified}
use Rattle.notify_poll.specs.declared.notifying.Notified.TheVariants as notified
use Rattle.notify_poll.specs.Notifying.{answer_to, as_notified}
use Rattle.rpz_core.specs.declared.sessions.TheConstants.{CACHE_LIMIT, WORKERS}
use Rattle.rpz_core.specs.Answered.{AreAnswered}
use Rattle.rpz_core.specs.History.{AreObtained, IsAnsweredAs, IsAskedAs, IsLearned, IsPendingAs, IsPendingAt, IsEarlierPolicy, Reaches, comes, failed, given, waits, begins, goes_on, now, before}
use Rattle.rpz_core.specs.Offer.{offer_output}
use Rattle.rpz_core.specs.Resolving.{resolve}
use Rattle.rpz_core.specs.Sessions.{PendingQuery, SessionsState, answered_step, facts_with, learned_by, next_id, next_turn, pending_step, query_step, resolved_step, resumed_step, said_output, turn_step, with_cached, with_learned}
use Rattle.rpz_core.specs.World.{World, clock_step, full_step, new_world, notified_output, notify_step, policy_of, transfer_step, with_sessions, world_after_offer, world_step}
use Rattle.rpz_core.proofs.Answered.{resolve_asks, resolve_explained}
use Rattle.rpz_core.proofs.Seen.{reading_takes}
use Rattle.rpz_core.proofs.Slots.{set_get}

-- ---- places of workers

module _ {X : Type 0} where
  -- what stands at a place after one was set: what stood there, or what was set
  placed : (xs : List (Option X)) (place : ℕ) (set : Option X) (other : ℕ) (x : X) → slice_get (slice_set xs place set) other ≡ Some (Some x)
      → (slice_get xs other ≡ Some (Some x)) ⊎ ((other ≡ place) × (set ≡ Some x))
  placed [] place set other x e = inl e
  placed (y ∷ xs) zero set zero x e = inr (refl, cc)
  placed (y ∷ xs) zero set (suc other) x e = inl e
  placed (y ∷ xs) (suc place) set zero x e = inl e
  placed (y ∷ xs) (suc place) set (suc other) x e = elim (placed xs place set other x e) [ inl same ↦ inl same | inr is ↦ inr (ap suc is.0, is.1) ]

  none_there : (place : ℕ) (x : X) → slice_get {X = Option X} [] place ≡ Some (Some x) → ⊥
  none_there place x e = absurd cc

-- ---- what came in this second

same_age : (b : Bool) (m : Message) → with_age 0 (cond b (Answer (answer_in m)) (Broken (Rcode m.header.rcode))) ≡ cond b (Answer (answer_in m)) (Broken (Rcode m.header.rcode))
same_age true m = refl
same_age false m = refl

same_usable : (b : Bool) (octets : List ℕ) (fact : Fact) → with_age 0 fact ≡ fact → with_age 0 (cond b fact (Broken (Unusable octets))) ≡ cond b fact (Broken (Unusable octets))
same_usable true octets fact same = same
same_usable false octets fact same = refl

new_by : (octets : List ℕ) (id : ℕ) (question : Question) (read : Result Message MessageFault) → with_age 0 (fact_by octets id question read) ≡ fact_by octets id question read
new_by octets id question (Ok m) = same_usable (answers_to id question m) octets (fact_in m) (same_age (is_answer_rcode m.header.rcode) m)
new_by octets id question (Err fault) = refl

pub new_fact : (octets : List ℕ) (id : ℕ) (question : Question) → with_age 0 (fact_from octets id question) ≡ fact_from octets id question
unfolding fact_from
new_fact octets id question = new_by octets id question (message_of octets)

came_now : (moment : ℕ) (message : List ℕ) (pending : PendingQuery) → fact_at moment (learned_by pending message moment) ≡ fact_from message pending.id pending.question
came_now moment message pending =
    ap (λ (seconds : ℕ). with_age seconds (fact_from message pending.id pending.question)) (omega arith)
    ∙ new_fact message pending.id pending.question

-- ---- the policy of an earlier world

earlier_now : (w : World) → IsEarlierPolicy w (policy_of w)
earlier_now w = record {
  count = length w.accepted;
  within = omega arith;
  policy_is = ap (policy_after w.settings) (sym (take_all (length w.accepted) w.accepted (omega arith)));
}

earlier_later : (w next : World) (policy : PlainPolicy) (more : List Entry) → next.settings ≡ w.settings → next.accepted ≡ w.accepted ++ more → IsEarlierPolicy w policy → IsEarlierPolicy next policy
earlier_later w next policy more settings accepted earlier = record {
  count = earlier.count;
  within = omega (arith, earlier.within, ap length accepted, length-append w.accepted more);
  policy_is =
      earlier.policy_is
      ∙ (λ i. policy_after (sym settings i) (sym (take-append-le earlier.count w.accepted more earlier.within) i))
      ∙ ap (λ (l : List Entry). policy_after next.settings (take earlier.count l)) (sym accepted);
}

-- ---- what an event did

-- the accepted transfers are as before, or one more is, which its zone takes
abbrev Grows : World → World → Type 0
Grows w next =
    (next.accepted ≡ w.accepted)
    ⊎ ((number : ℕ) × (transfer : transfers.Transfer) × (zone : PlainZone) × (after : PlainZone) × (zone_at (policy_of w).zones number ≡ Some zone) × (apply_outcome zone transfer ≡ Ok after)
    × (next.accepted ≡ w.accepted ++ record { zone = number; transfer = transfer } ∷ []))

-- the output is none of a query
abbrev Other : Output → Type 0
Other (output.Ask worker message) = ⊥
Other (output.Reply worker message) = ⊥
Other (output.Silent worker) = ⊥
Other out = Unit {0}

-- the queries and the cache stay
record Stays (w next : World) (out : Output) : Type 0 where
  settings : next.settings ≡ w.settings
  allowed_stays : next.allowed ≡ w.allowed
  sessions : next.sessions ≡ w.sessions
  grows : Grows w next
  other : Other out

-- what a worker's place has after a turn
abbrev place_after : PlainPolicy → Incoming → PlainFacts → ℕ → Turn → Option PendingQuery
place_after policy incoming facts id (Ask question) = Some (record { policy = policy; incoming = incoming; facts = facts; question = question; id = id })
place_after policy incoming facts id (Said s) = None

abbrev turn_output : ℕ → ℕ → Turn → Output
turn_output worker id (Ask question) = output.Ask worker (question_bytes id question)
turn_output worker id (Said s) = said_output worker s

-- a query of a worker had its turns
record Turned (settings : List ZoneSet) (primaries : List (Option Addr)) (allowed : List PlainPrefix) (events : List Event) (w next : World) (out : Output) : Type 0 where
  worker : ℕ
  policy : PlainPolicy
  incoming : Incoming
  facts : PlainFacts
  turn : Turn
  id : ℕ
  there : Option PendingQuery
  was_there : slice_get w.sessions.workers worker ≡ Some there
  settings_are : next.settings ≡ w.settings
  allowed_are : next.allowed ≡ w.allowed
  accepted : next.accepted ≡ w.accepted
  workers : next.sessions.workers ≡ slice_set w.sessions.workers worker (place_after policy incoming facts id turn)
  turn_is : turn_by policy incoming facts ≡ turn
  fresh : (question : Question) → turn ≡ Ask question → live_entry question w.clock next.sessions.cached ≡ None
  clock : next.clock ≡ w.clock
  out_is : out ≡ turn_output worker id turn
  earlier : IsEarlierPolicy w policy
  obtained : AreObtained settings primaries allowed worker events policy incoming facts
  cached : (entry : PlainLearned) → Contains next.sessions.cached entry → IsLearned settings primaries allowed events entry
  apart : AreApart next.sessions.cached

-- ---- the world after some events

pub record Holds (settings : List ZoneSet) (primaries : List (Option Addr)) (allowed : List PlainPrefix) (events : List Event) (w : World) : Type 0 where
  pub settings_are : w.settings ≡ settings
  pub allowed_are : w.allowed ≡ allowed
  pub accepted : AreAccepted (origins_in w.settings) w.accepted
  pub pending : (worker : ℕ) (p : PendingQuery) → IsPendingAt w worker p → IsPendingAs settings primaries allowed events w worker p
  pub cached : (entry : PlainLearned) → Contains w.sessions.cached entry → IsLearned settings primaries allowed events entry
  pub apart : AreApart w.sessions.cached

-- what the laws of policies say
abbrev pub OneMoreIsAccepted : Type 0
OneMoreIsAccepted =
    (origins : List (List (List ℕ))) (entries : List Entry) (number : ℕ) (transfer : transfers.Transfer) (zone next : PlainZone) → AreAccepted origins entries
    → zone_at (zones_behind origins entries) number ≡ Some zone → apply_outcome zone transfer ≡ Ok next → AreAccepted origins (entries ++ record { zone = number; transfer = transfer } ∷ [])

-- ---- transfers, marks, the clock

ok_world : (gives next : World) (out other : Output) → ◌≡◌ {A = Result (World × Output) CoreFault} (Ok (gives, out)) (Ok (next, other)) → (gives ≡ next) × (out ≡ other)
ok_world gives next out other e =
    let both : World × Output = (gives, out) in
    let same : both ≡ (next, other) = cc in
    (ap (λ (g : World × Output). g.0) same, ap (λ (g : World × Output). g.1) same)

no_world : (fault : CoreFault) (next : World) (out : Output) → ◌≡◌ {A = Result (World × Output) CoreFault} (Err fault) (Ok (next, out)) → ⊥
no_world fault next out e = absurd cc

offer_grows : (w : World) (number : ℕ) (zone : PlainZone) (offered : Offer) → zone_at (policy_of w).zones number ≡ Some zone
    → ((transfer : transfers.Transfer) (after : PlainZone) → offered ≡ takes transfer after → apply_outcome zone transfer ≡ Ok after)
    → Stays w (world_after_offer w number zone offered).0 (offer_output number offered)
offer_grows w number zone (takes transfer after) at takes_it =
    record { settings = refl; allowed_stays = refl; sessions = refl; grows = inr (number, transfer, zone, after, at, takes_it transfer after refl, refl); other = tt }
offer_grows w number zone (is_current theirs) at takes_it = record { settings = refl; allowed_stays = refl; sessions = refl; grows = inl refl; other = tt }
offer_grows w number zone (refuses why) at takes_it = record { settings = refl; allowed_stays = refl; sessions = refl; grows = inl refl; other = tt }

stays_as : (w gives next : World) (out other : Output) → (gives ≡ next) × (out ≡ other) → Stays w gives out → Stays w next other
stays_as w gives next out other same h = subst (λ (g : World). Stays w g other) same.0 (subst (λ (o : Output). Stays w gives o) same.1 h)

transfer_stays : (w next : World) (number : ℕ) (stream : List ℕ) (found : Option PlainZone) (out : Output) → zone_at (policy_of w).zones number ≡ found → transfer_step w number stream found ≡ Ok (next, out) → Stays w next out
transfer_stays w next number stream None out at e = absurd (no_world _ next out e)
transfer_stays w next number stream (Some zone) out at e =
    let marked = mark_at w.marks number in
    let offered = offer 0 marked zone stream in
    let gives = world_after_offer w number zone offered in
    stays_as w gives.0 next (offer_output number offered) out (ok_world gives.0 next (offer_output number offered) out e)
    (offer_grows w number zone offered at (reading_takes zone (reading (request_of 0 marked zone) stream).0))

full_stays : (w next : World) (number : ℕ) (found : Option PlainZone) (out : Output) → full_step w number found ≡ Ok (next, out) → Stays w next out
full_stays w next number None out e = absurd (no_world _ next out e)
full_stays w next number (Some zone) out e = stays_as w _ next output.None out (ok_world _ next output.None out e) (record { settings = refl; allowed_stays = refl; sessions = refl; grows = inl refl; other = tt })

clock_stays : (w next : World) (seconds : ℕ) (out : Output) → ◌≡◌ {A = Result (World × Output) CoreFault} (Ok (clock_step w seconds)) (Ok (next, out)) → Stays w next out
clock_stays w next seconds out e = stays_as w _ next output.None out (ok_world _ next output.None out e) (record { settings = refl; allowed_stays = refl; sessions = refl; grows = inl refl; other = tt })

notified_other : (n : Notified) → Other (notified_output n)
notified_other (notified.Reply octets) = tt
notified_other notified.Silent = tt

notify_stays : (w next : World) (client : Addr) (message : List ℕ) (out : Output) → ◌≡◌ {A = Result (World × Output) CoreFault} (Ok (notify_step w client message)) (Ok (next, out)) → Stays w next out
notify_stays w next client message out e =
    let gives = notify_step w client message in
    stays_as w gives.0 next gives.1 out (ok_world gives.0 next gives.1 out e)
    (record { settings = refl; allowed_stays = refl; sessions = refl; grows = inl refl; other = notified_other (as_notified (answer_to (is_allowed w.allowed client) message client (origins_in w.settings) w.timers).0) })

due_stays : (w next : World) (zone : ℕ) (out : Output) → ◌≡◌ {A = Result (World × Output) CoreFault} (Ok (w, output.Due zone)) (Ok (next, out)) → Stays w next out
due_stays w next zone out e = stays_as w w next (output.Due zone) out (ok_world w next (output.Due zone) out e) (record { settings = refl; allowed_stays = refl; sessions = refl; grows = inl refl; other = tt })

-- ---- the turns of a query

turn_workers : (s : SessionsState) (worker : ℕ) (policy : PlainPolicy) (incoming : Incoming) (facts : PlainFacts) (turn : Turn)
    → ((turn_step s worker policy incoming facts turn).0.workers ≡ slice_set s.workers worker (place_after policy incoming facts (next_id s.last_id) turn))
    × ((turn_step s worker policy incoming facts turn).0.cached ≡ s.cached) × ((turn_step s worker policy incoming facts turn).1 ≡ turn_output worker (next_id s.last_id) turn)
turn_workers s worker policy incoming facts (Ask question) = (refl, refl, refl)
turn_workers s worker policy incoming facts (Said s') = (refl, refl, refl)

module _ (settings : List ZoneSet) (primaries : List (Option Addr)) (allowed : List PlainPrefix) (events : List Event) (w next : World) (worker : ℕ) (policy : PlainPolicy) (incoming : Incoming) where
  -- the turns with these sessions, of a query of which this is known
  turned : (s : SessionsState) (facts : PlainFacts) (there : Option PendingQuery) (out : Output) → s.workers ≡ w.sessions.workers → slice_get w.sessions.workers worker ≡ Some there
      → with_sessions w (Ok (next_turn w.clock s worker policy incoming facts)) ≡ Ok (next, out) → IsEarlierPolicy w policy
      → ((later : PlainFacts) → AreAnswered w.clock policy incoming s.cached facts later → AreObtained settings primaries allowed worker events policy incoming later)
      → ((entry : PlainLearned) → Contains s.cached entry → IsLearned settings primaries allowed events entry) → AreApart s.cached
      → Turned settings primaries allowed events w next out
  turned s facts there out same at e earlier obtained cached apart =
      let r = resolve w.clock policy incoming s.cached facts in
      let explains = resolve_explained w.clock policy incoming s.cached facts in
      let mid = with_cached s r.cached in
      let gives = resolved_step s worker policy incoming r in
      let is = turn_workers mid worker policy incoming r.facts r.turn in
      let after : World = record { settings = w.settings; allowed = w.allowed; accepted = w.accepted; marks = w.marks; timers = w.timers; sessions = gives.0; clock = w.clock } in
      let done = ok_world after next gives.1 out e in
      let sessions : gives.0 ≡ next.sessions = ap (λ (x : World). x.sessions) done.0 in
      record {
        worker = worker;
        policy = policy;
        incoming = incoming;
        facts = r.facts;
        turn = r.turn;
        id = next_id s.last_id;
        there = there;
        was_there = at;
        settings_are = sym (ap (λ (x : World). x.settings) done.0);
        allowed_are = sym (ap (λ (x : World). x.allowed) done.0);
        accepted = sym (ap (λ (x : World). x.accepted) done.0);
        workers = sym (ap (λ (x : SessionsState). x.workers) sessions) ∙ is.0 ∙ ap (λ (l : List (Option PendingQuery)). slice_set l worker (place_after policy incoming r.facts (next_id s.last_id) r.turn)) same;
        turn_is = sym explains.turn;
        fresh = λ question asks. subst (λ (l : List PlainLearned). live_entry question w.clock l ≡ None) (sym is.1 ∙ ap (λ (x : SessionsState). x.cached) sessions) (resolve_asks w.clock policy incoming s.cached facts question asks);
        clock = sym (ap (λ (x : World). x.clock) done.0);
        out_is = sym done.1 ∙ is.2;
        earlier = earlier;
        obtained = obtained r.facts explains.known;
        cached = λ entry among. cached entry ((explains.same entry).0 (subst (λ (l : List PlainLearned). Contains l entry) (ap (λ (x : SessionsState). x.cached) (sym sessions) ∙ is.1) among));
        apart = subst AreApart (sym is.1 ∙ ap (λ (x : SessionsState). x.cached) sessions) (explains.apart apart);
      }

module _ (settings : List ZoneSet) (primaries : List (Option Addr)) (allowed : List PlainPrefix) (events : List Event) (w next : World) (holds : Holds settings primaries allowed events w) (reached : Reaches settings primaries allowed events w) where
  query_turns : (worker : ℕ) (transport : Transport) (client : Addr) (message : List ℕ) (slot : Option (Option PendingQuery)) (out : Output) → slice_get w.sessions.workers worker ≡ slot
      → with_sessions w (query_step w.clock w.sessions (policy_of w) worker (incoming_of (is_allowed w.allowed client) message client transport) slot) ≡ Ok (next, out)
      → Turned settings primaries allowed (Query worker transport client message ∷ events) w next out
  query_turns worker transport client message None out at e = absurd (no_world _ next out e)
  query_turns worker transport client message (Some (Some pending)) out at e = absurd (no_world _ next out e)
  query_turns worker transport client message (Some None) out at e =
      let event = Query worker transport client message in
      turned settings primaries allowed (event ∷ events) w next worker (policy_of w) (incoming_of (is_allowed w.allowed client) message client transport) w.sessions [] None out refl at e (earlier_now w)
      (λ later known. comes events w transport client message later reached known) (λ entry among. before events event entry (holds.cached entry among)) holds.apart

  answer_turns : (worker : ℕ) (message : List ℕ) (slot : Option (Option PendingQuery)) (out : Output) → slice_get w.sessions.workers worker ≡ slot
      → with_sessions w (pending_step (answered_step w.clock w.sessions worker message) slot) ≡ Ok (next, out) → Turned settings primaries allowed (Give worker message ∷ events) w next out
  answer_turns worker message None out at e = absurd (no_world _ next out e)
  answer_turns worker message (Some None) out at e = absurd (no_world _ next out e)
  answer_turns worker message (Some (Some pending)) out at e =
      let event = Give worker message in
      let entry = learned_by pending message w.clock in
      let s = with_learned w.sessions entry in
      let so = holds.pending worker pending at in
      turned settings primaries allowed (event ∷ events) w next worker pending.policy pending.incoming s (facts_with pending (fact_at w.clock entry)) (Some pending) out refl at e so.earlier
      (λ later known. given events w message pending later reached at so.obtained so.asks (subst (λ (fact : Fact). AreAnswered w.clock pending.policy pending.incoming s.cached (facts_with pending fact) later) (came_now w.clock message pending) known))
      (λ x among. elim (among_kept CACHE_LIMIT entry w.sessions.cached x among) [
        | inl old ↦ before events event x (holds.cached x old)
        | inr is ↦ subst (IsLearned settings primaries allowed (event ∷ events)) is (now events w worker message pending reached at)
      ]) (apart_kept CACHE_LIMIT entry w.sessions.cached holds.apart)

  failure_turns : (worker : ℕ) (slot : Option (Option PendingQuery)) (out : Output) → slice_get w.sessions.workers worker ≡ slot
      → with_sessions w (pending_step (λ pending. resumed_step w.clock w.sessions worker pending (Broken Failed)) slot) ≡ Ok (next, out) → Turned settings primaries allowed (Fail worker ∷ events) w next out
  failure_turns worker None out at e = absurd (no_world _ next out e)
  failure_turns worker (Some None) out at e = absurd (no_world _ next out e)
  failure_turns worker (Some (Some pending)) out at e =
      let event = Fail worker in
      let so = holds.pending worker pending at in
      turned settings primaries allowed (event ∷ events) w next worker pending.policy pending.incoming w.sessions (facts_with pending (Broken Failed)) (Some pending) out refl at e so.earlier
      (λ later known. failed events w pending later reached at so.obtained so.asks known) (λ x among. before events event x (holds.cached x among)) holds.apart

  did : (event : Event) (out : Output) → world_step w event ≡ Ok (next, out) → (Stays w next out) ⊎ (Turned settings primaries allowed (event ∷ events) w next out)
  unfolding world_step
  did (Transfer number stream) out e = inl (transfer_stays w next number stream (zone_at (policy_of w).zones number) out refl e)
  did (Full number) out e = inl (full_stays w next number (zone_at (policy_of w).zones number) out e)
  did (Query worker transport client message) out e = inr (query_turns worker transport client message (slice_get w.sessions.workers worker) out refl e)
  did (Give worker message) out e = inr (answer_turns worker message (slice_get w.sessions.workers worker) out refl e)
  did (Fail worker) out e = inr (failure_turns worker (slice_get w.sessions.workers worker) out refl e)
  did (Notify client message) out e = inl (notify_stays w next client message out e)
  did Due out e = inl (due_stays w next _ out e)
  did (Clock seconds) out e = inl (clock_stays w next seconds out e)

-- ---- by induction over the events

module _ (one_more : OneMoreIsAccepted) (settings : List ZoneSet) (primaries : List (Option Addr)) (allowed : List PlainPrefix) where
  grown : (w next : World) → next.settings ≡ w.settings → Grows w next → AreAccepted (origins_in w.settings) w.accepted → AreAccepted (origins_in next.settings) next.accepted
  grown w next same (inl is) accepted = (subst (λ (l : List Entry). AreAccepted (origins_in next.settings) l) (sym is) (subst (λ (s : List ZoneSet). AreAccepted (origins_in s) w.accepted) (sym same) accepted))
  grown w next same (inr (number, transfer, zone, after, at, takes_it, is)) accepted =
      subst (λ (l : List Entry). AreAccepted (origins_in next.settings) l) (sym is)
      (subst (λ (s : List ZoneSet). AreAccepted (origins_in s) (w.accepted ++ record { zone = number; transfer = transfer } ∷ [])) (sym same) (one_more (origins_in w.settings) w.accepted number transfer zone after accepted at takes_it))

  more_accepted : (w next : World) → Grows w next → (more : List Entry) × (next.accepted ≡ w.accepted ++ more)
  more_accepted w next (inl is) = ([], is ∙ sym (append-nil w.accepted))
  more_accepted w next (inr (number, transfer, zone, after, at, takes_it, is)) = (record { zone = number; transfer = transfer } ∷ [], is)

  module _ (events : List Event) (event : Event) (w next : World) (holds : Holds settings primaries allowed events w) (reached : Reaches settings primaries allowed events w) (after : Reaches settings primaries allowed (event ∷ events) next) where
    -- a query that waits as before
    waits_on : (worker : ℕ) (p : PendingQuery) (more : List Entry) → next.settings ≡ w.settings → next.accepted ≡ w.accepted ++ more → IsPendingAt w worker p → IsPendingAt next worker p → IsPendingAs settings primaries allowed (event ∷ events) next worker p
    waits_on worker p more same grows at is =
        let so = holds.pending worker p at in
        record { earlier = earlier_later w next p.policy more same grows so.earlier; obtained = waits events event w next p reached at after is so.obtained; asks = so.asks }

    stays_holds : (out : Output) → Stays w next out → Holds settings primaries allowed (event ∷ events) next
    stays_holds out stays =
        let more = more_accepted w next stays.grows in
        record {
          settings_are = stays.settings ∙ holds.settings_are;
          allowed_are = stays.allowed_stays ∙ holds.allowed_are;
          accepted = grown w next stays.settings stays.grows holds.accepted;
          pending = λ worker p at. waits_on worker p more.0 stays.settings more.1 (subst (λ (s : SessionsState). slice_get s.workers worker ≡ Some (Some p)) stays.sessions at) at;
          cached = λ entry among. before events event entry (holds.cached entry (subst (λ (s : SessionsState). Contains s.cached entry) stays.sessions among));
          apart = subst (λ (s : SessionsState). AreApart s.cached) (sym stays.sessions) holds.apart;
        }

    none_more : next.accepted ≡ w.accepted → next.accepted ≡ w.accepted ++ []
    none_more is = is ∙ sym (append-nil w.accepted)

    -- the query that had its turns
    asks_on : (policy : PlainPolicy) (incoming : Incoming) (facts : PlainFacts) (id worker : ℕ) (turn : Turn) (p : PendingQuery) → place_after policy incoming facts id turn ≡ Some p → turn_by policy incoming facts ≡ turn
        → IsEarlierPolicy next policy → AreObtained settings primaries allowed worker (event ∷ events) policy incoming facts → IsPendingAs settings primaries allowed (event ∷ events) next worker p
    asks_on policy incoming facts id worker (Said s) p e is earlier obtained = absurd cc
    asks_on policy incoming facts id worker (Ask question) p e is earlier obtained =
        let same : record { policy = policy; incoming = incoming; facts = facts; question = question; id = id } ≡ p = cc in
        subst (IsPendingAs settings primaries allowed (event ∷ events) next worker) same (record { earlier = earlier; obtained = obtained; asks = is })

    turned_pending : (out : Output) (t : Turned settings primaries allowed (event ∷ events) w next out) (worker : ℕ) (p : PendingQuery) → IsPendingAt next worker p → IsPendingAs settings primaries allowed (event ∷ events) next worker p
    turned_pending out t worker p at =
        let set = place_after t.policy t.incoming t.facts t.id t.turn in
        let there : slice_get (slice_set w.sessions.workers t.worker set) worker ≡ Some (Some p) = subst (λ (l : List (Option PendingQuery)). slice_get l worker ≡ Some (Some p)) t.workers at in
        elim (placed w.sessions.workers t.worker set worker p there) [
          | inl same ↦ waits_on worker p [] t.settings_are (none_more t.accepted) same at
          | inr is ↦ subst (λ (k : ℕ). IsPendingAs settings primaries allowed (event ∷ events) next k p) (sym is.0)
              (asks_on t.policy t.incoming t.facts t.id t.worker t.turn p is.1 t.turn_is (earlier_later w next t.policy [] t.settings_are (none_more t.accepted) t.earlier) t.obtained)
        ]

    turned_holds : (out : Output) → Turned settings primaries allowed (event ∷ events) w next out → Holds settings primaries allowed (event ∷ events) next
    turned_holds out t = record {
      settings_are = t.settings_are ∙ holds.settings_are;
      allowed_are = t.allowed_are ∙ holds.allowed_are;
      accepted = grown w next t.settings_are (inl t.accepted) holds.accepted;
      pending = turned_pending out t;
      cached = t.cached;
      apart = t.apart;
    }

    -- ---- what is output

    asked_by : (out : Output) (t : Turned settings primaries allowed (event ∷ events) w next out) (turn : Turn) (worker : ℕ) (message : List ℕ) → t.turn ≡ turn → turn_output t.worker t.id turn ≡ output.Ask worker message → IsAskedAs next worker message
    asked_by out t (Said (said.Reply octets)) worker message is e = absurd cc
    asked_by out t (Said said.Silent) worker message is e = absurd cc
    asked_by out t (Ask question) worker message is e =
        let same : t.worker ≡ worker = cc in
        let octets : question_bytes t.id question ≡ message = cc in
        let p : PendingQuery = record { policy = t.policy; incoming = t.incoming; facts = t.facts; question = question; id = t.id } in
        let place : place_after t.policy t.incoming t.facts t.id t.turn ≡ Some p = ap (place_after t.policy t.incoming t.facts t.id) is in
        record {
          pending = p;
          is_pending = subst (λ (k : ℕ). IsPendingAt next k p) same
              (ap (λ (l : List (Option PendingQuery)). slice_get l t.worker) t.workers
              ∙ set_get w.sessions.workers t.worker t.there (place_after t.policy t.incoming t.facts t.id t.turn) t.was_there
              ∙ ap Some place);
          message_is = sym octets;
          unanswered = subst (λ (moment : ℕ). live_entry question moment next.sessions.cached ≡ None) (sym t.clock) (t.fresh question is);
        }

    said_same : (a b : ℕ) (s other : replies.Said) → said_output a s ≡ said_output b other → (a ≡ b) × (s ≡ other)
    said_same a b (said.Reply octets) (said.Reply others) e = let same : octets ≡ others = cc in (cc, ap said.Reply same)
    said_same a b (said.Reply octets) said.Silent e = absurd cc
    said_same a b said.Silent (said.Reply others) e = absurd cc
    said_same a b said.Silent said.Silent e = (cc, refl)

    not_asked : (a id b : ℕ) (question : Question) (s : replies.Said) → turn_output a id (Ask question) ≡ said_output b s → ⊥
    not_asked a id b question (said.Reply octets) e = absurd cc
    not_asked a id b question said.Silent e = absurd cc

    answered_by : (out : Output) (t : Turned settings primaries allowed (event ∷ events) w next out) (turn : Turn) (worker : ℕ) (s : replies.Said) → t.turn ≡ turn → turn_output t.worker t.id turn ≡ said_output worker s → IsAnsweredAs settings primaries allowed (event ∷ events) next worker s
    answered_by out t (Ask question) worker s is e = absurd (not_asked t.worker t.id worker question s e)
    answered_by out t (Said other) worker s is e =
        let same = said_same t.worker worker other s e in
        record {
          policy = t.policy;
          incoming = t.incoming;
          facts = t.facts;
          earlier = earlier_later w next t.policy [] t.settings_are (none_more t.accepted) t.earlier;
          obtained = subst (λ (k : ℕ). AreObtained settings primaries allowed k (event ∷ events) t.policy t.incoming t.facts) same.0 t.obtained;
          answers = t.turn_is ∙ is ∙ ap Said same.1;
        }

  new_place : (count worker : ℕ) (p : PendingQuery) → slice_get (replicate {A = Option PendingQuery} count None) worker ≡ Some (Some p) → ⊥
  new_place zero worker p e = absurd cc
  new_place (suc count) zero p e = absurd cc
  new_place (suc count) (suc worker) p e = new_place count worker p e

  new_holds : Holds settings primaries allowed [] (new_world settings primaries allowed)
  new_holds = record {
    settings_are = refl;
    allowed_are = refl;
    accepted = tt;
    pending = λ worker p at. absurd (new_place WORKERS worker p at);
    cached = λ entry among. absurd (omega (arith, among.1));
    apart = apart_none;
  }

  did_holds : (events : List Event) (event : Event) (w next : World) (out : Output) → Holds settings primaries allowed events w → Reaches settings primaries allowed events w → Reaches settings primaries allowed (event ∷ events) next
      → (Stays w next out) ⊎ (Turned settings primaries allowed (event ∷ events) w next out) → Holds settings primaries allowed (event ∷ events) next
  did_holds events event w next out holds reached after (inl stays) = stays_holds events event w next holds reached after out stays
  did_holds events event w next out holds reached after (inr t) = turned_holds events event w next holds reached after out t

  pub all_hold : (events : List Event) (w : World) → Reaches settings primaries allowed events w → Holds settings primaries allowed events w
  all_hold _ _ begins = new_holds
  all_hold _ _ (goes_on events event w next out reached is) =
      let holds = all_hold events w reached in
      did_holds events event w next out holds reached (goes_on events event w next out reached is) (did settings primaries allowed events w next holds reached event out is)

  asked_did : (events : List Event) (event : Event) (w next : World) (worker : ℕ) (message : List ℕ) → Holds settings primaries allowed events w → Reaches settings primaries allowed events w → Reaches settings primaries allowed (event ∷ events) next
      → (Stays w next (output.Ask worker message)) ⊎ (Turned settings primaries allowed (event ∷ events) w next (output.Ask worker message)) → IsAskedAs next worker message
  asked_did events event w next worker message holds reached after (inl stays) = absurd stays.other
  asked_did events event w next worker message holds reached after (inr t) = asked_by events event w next holds reached after (output.Ask worker message) t t.turn worker message refl (sym t.out_is)

  pub each_is_asked : (events : List Event) (event : Event) (w next : World) (worker : ℕ) (message : List ℕ) → Reaches settings primaries allowed events w → world_step w event ≡ Ok (next, output.Ask worker message) → IsAskedAs next worker message
  each_is_asked events event w next worker message reached is =
      let holds = all_hold events w reached in
      asked_did events event w next worker message holds reached (goes_on events event w next (output.Ask worker message) reached is) (did settings primaries allowed events w next holds reached event (output.Ask worker message) is)

  said_other : (worker : ℕ) (s : replies.Said) → Other (said_output worker s) → ⊥
  said_other worker (said.Reply octets) h = h
  said_other worker said.Silent h = h

  said_did : (events : List Event) (event : Event) (w next : World) (worker : ℕ) (s : replies.Said) → Holds settings primaries allowed events w → Reaches settings primaries allowed events w → Reaches settings primaries allowed (event ∷ events) next
      → (Stays w next (said_output worker s)) ⊎ (Turned settings primaries allowed (event ∷ events) w next (said_output worker s)) → IsAnsweredAs settings primaries allowed (event ∷ events) next worker s
  said_did events event w next worker s holds reached after (inl stays) = absurd (said_other worker s stays.other)
  said_did events event w next worker s holds reached after (inr t) = answered_by events event w next holds reached after (said_output worker s) t t.turn worker s refl (sym t.out_is)

  pub each_is_answered : (events : List Event) (event : Event) (w next : World) (worker : ℕ) (s : replies.Said) → Reaches settings primaries allowed events w → world_step w event ≡ Ok (next, said_output worker s) → IsAnsweredAs settings primaries allowed (event ∷ events) next worker s
  each_is_answered events event w next worker s reached is =
      let holds = all_hold events w reached in
      said_did events event w next worker s holds reached (goes_on events event w next (said_output worker s) reached is) (did settings primaries allowed events w next holds reached event (said_output worker s) is)
