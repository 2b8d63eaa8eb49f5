-- The places of workers.
use Rattle.std.proofs.Common.{◌≡◌, ℕ, zero, suc, ◌-◌, Bool, true, false, Option, Some, None, Result, Ok, Err, List, [], ◌∷◌, refl, sym, ap, ◌∙◌}
use Rattle.std.specs.Prelude.{slice_get, slice_set, slice_index_or, if◌then◌else◌, ◌==◌}
use Rattle.std.specs.Prelude.{OnOk}
use Rattle.std.specs.declared.alloc.AllocError.{AllocError}
use Rattle.answer_cache.specs.Recent.{Recent, after_keep, recent}
use Rattle.dns_message.specs.declared.request.Incoming.{Incoming}
use Rattle.upstream_link.specs.declared.fact.Fact.{Fact}
use Rattle.upstream_link.specs.Facts.{PlainFacts}
use Rattle.upstream_link.specs.Vouched.{PlainLearned, fact_at}
use Rattle.policy_snapshot.specs.Policy.{PlainPolicy, PlainZones, zone_at}
use Rattle.zone_rows.specs.declared.zone.PlainZone.{PlainZone}
use Rattle.reply_build.specs.declared.turn.Turn.{Turn}
use Rattle.reply_build.specs.declared.turn.Turn.TheVariants.{Ask, Said}
use Rattle.rpz_core.specs.declared.sessions.TheConstants.{CACHE_LIMIT}
use Rattle.rpz_core.specs.declared.event.Output.{Output}
use Rattle.rpz_core.specs.Resolving.{resolve}
use Rattle.rpz_core.specs.Sessions.{PendingQuery, SessionsState, with_learned, facts_with, resumed_step, turn_step, uncached, with_cached}
use Rattle.rpz_core.specs.State.{TurnsBare, TurnsOrPutsBack}

module _ {X : Type 0} where
  pub set_set : (xs : List X) (i : ℕ) (a b : X) → slice_set (slice_set xs i a) i b ≡ slice_set xs i b
  set_set [] i a b = refl
  set_set (x ∷ xs) zero a b = refl
  set_set (x ∷ xs) (suc i) a b = ap (λ (l : List X). x ∷ l) (set_set xs i a b)

  pub set_same : (xs : List X) (i : ℕ) (x : X) → slice_get xs i ≡ Some x → slice_set xs i x ≡ xs
  set_same [] i x e = refl
  set_same (y ∷ xs) zero x e = let same : y ≡ x = cc in ap (λ (z : X). z ∷ xs) (sym same)
  set_same (y ∷ xs) (suc i) x e = ap (λ (l : List X). y ∷ l) (set_same xs i x e)

  pub get_index : (xs : List X) (i : ℕ) (x d : X) → slice_get xs i ≡ Some x → slice_index_or xs i d ≡ x
  get_index [] i x d e = absurd cc
  get_index (y ∷ xs) zero x d e = cc
  get_index (y ∷ xs) (suc i) x d e = get_index xs i x d e

  pub set_get : (xs : List X) (i : ℕ) (x y : X) → slice_get xs i ≡ Some x → slice_get (slice_set xs i y) i ≡ Some y
  set_get [] i x y e = absurd cc
  set_get (z ∷ xs) zero x y e = refl
  set_get (z ∷ xs) (suc i) x y e = set_get xs i x y e

-- the sessions with an empty place
abbrev pub emptied : SessionsState → ℕ → SessionsState
emptied s worker = record { workers = slice_set s.workers worker None; last_id = s.last_id; cached = s.cached }

turn_emptied : (s : SessionsState) (worker : ℕ) (policy : PlainPolicy) (incoming : Incoming) (facts : PlainFacts) (turn : Turn) → turn_step (emptied s worker) worker policy incoming facts turn ≡ turn_step s worker policy incoming facts turn
turn_emptied s worker policy incoming facts (Ask question) =
    ap (λ (ws : List (Option PendingQuery)). let p : SessionsState × Output = (record { workers = ws; last_id = (turn_step s worker policy incoming facts (Ask question)).0.last_id; cached = s.cached }, (turn_step s worker policy incoming facts (Ask question)).1) in p) (set_set s.workers worker None _)
turn_emptied s worker policy incoming facts (Said out) =
    ap (λ (ws : List (Option PendingQuery)). let p : SessionsState × Output = (record { workers = ws; last_id = s.last_id; cached = s.cached }, (turn_step s worker policy incoming facts (Said out)).1) in p) (set_set s.workers worker None None)

next_emptied : (now : ℕ) (s : SessionsState) (worker : ℕ) (pending : PendingQuery) (fact : Fact) → resumed_step now (emptied s worker) worker pending fact ≡ resumed_step now s worker pending fact
next_emptied now s worker pending fact =
    let r = resolve now pending.policy pending.incoming s.cached (facts_with pending fact) in
    turn_emptied (with_cached s r.cached) worker pending.policy pending.incoming r.facts r.turn

-- a query that was taken out, and then made its turn
pub resumed : (now : ℕ) (s new : SessionsState) (worker : ℕ) (pending taken : PendingQuery) (fact : Fact) (result : Result Output AllocError) → slice_get s.workers worker ≡ Some (Some pending) → Some taken ≡ slice_index_or s.workers worker None
    → TurnsOrPutsBack worker taken (resumed_step now (emptied s worker) worker taken fact) result (emptied s worker) new
    → TurnsBare uncached (resumed_step now s worker pending fact) result s new
resumed now s new worker pending taken fact (Ok out) at is turns =
    let same : taken ≡ pending = let e : Some taken ≡ Some pending = is ∙ get_index s.workers worker (Some pending) None at in cc in
    ap (λ (p : PendingQuery). resumed_step now s worker p fact) (sym same)
    ∙ sym (next_emptied now s worker taken fact)
    ∙ turns
resumed now s new worker pending taken fact (Err e) at is turns =
    let same : Some taken ≡ Some pending = is ∙ get_index s.workers worker (Some pending) None at in
    turns ∙ ap (λ (ws : List (Option PendingQuery)). let p : SessionsState = record { workers = ws; last_id = s.last_id; cached = [] } in p) (set_set s.workers worker None (Some taken) ∙ ap (slice_set s.workers worker) same ∙ set_same s.workers worker (Some pending) at)

-- a query that got what was learned for it, which was cached
-- what was learned is cached
pub learned_within : {X Y : Type 0} (result : Result X Y) (inside s : SessionsState) (before after : Recent) (entry : PlainLearned) → inside ≡ s → inside.cached ≡ before.entries → before.limit ≡ CACHE_LIMIT
    → OnOk result (after ≡ recent (after_keep before.limit entry before.entries) before.limit)
    → OnOk result (with_cached inside after.entries ≡ with_learned s entry)
learned_within (Ok x) inside s before after entry same cached limit kept =
    ap (λ (r : Recent). with_cached inside r.entries) kept
    ∙ ap (λ (n : ℕ). with_cached inside (after_keep n entry before.entries)) limit
    ∙ ap (λ (l : List PlainLearned). with_cached inside (after_keep CACHE_LIMIT entry l)) (sym cached)
    ∙ ap (λ (t : SessionsState). with_learned t entry) same
learned_within (Err y) inside s before after entry same cached limit kept = kept

pub resumed_learned : (now : ℕ) (s mid new : SessionsState) (worker : ℕ) (pending : PendingQuery) (entry : PlainLearned) (fact : Fact) (result : Result Output AllocError) → mid ≡ with_learned s entry → fact ≡ fact_at now entry
    → TurnsBare uncached (resumed_step now mid worker pending fact) result mid new
    → TurnsBare uncached (resumed_step now (with_learned s entry) worker pending (fact_at now entry)) result s new
resumed_learned now s mid new worker pending entry fact (Ok out) is says turns =
    (λ i. resumed_step now (sym is i) worker pending (sym says i)) ∙ turns
resumed_learned now s mid new worker pending entry fact (Err e) is says turns = turns ∙ ap uncached is

found_if : (b : Bool) (found : Option PlainZone) (zone : PlainZone) → (if b then None else found) ≡ Some zone → found ≡ Some zone
found_if true found zone e = absurd cc
found_if false found zone e = e

set_if : (b : Bool) (zone other : PlainZone) (before after : Option PlainZone) → (if b then None else before) ≡ Some zone → (before ≡ Some zone → after ≡ Some other) → (if b then None else after) ≡ Some other
set_if true zone other before after e f = absurd cc
set_if false zone other before after e f = f e

-- the zone of a number that was put there
pub zone_set : (zones : PlainZones) (number : ℕ) (zone next : PlainZone) → zone_at zones number ≡ Some zone → zone_at (slice_set zones (number - 1) next) number ≡ Some next
zone_set zones number zone next at = set_if (number == 0) zone next (slice_get zones (number - 1)) (slice_get (slice_set zones (number - 1) next) (number - 1)) at (λ e. set_get zones (number - 1) zone next e)
