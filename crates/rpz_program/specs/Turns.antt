-- The turns of a server: what it does with one wake after another.
use Rattle.std.specs.Prelude.{◌≡◌, ◌≤◌, ◌+◌, ◌⊎◌, ℕ, zero, suc, Bool, true, false, List, [], ◌∷◌, ◌++◌, length, Option, Some, None, IsSome, is_none, Ok}
use Rattle.std.specs.Option.{option_map}
use Rattle.ip_prefix.specs.Prefix.{PlainPrefix}
use Rattle.policy_override.specs.declared.zone_set.ZoneSet.{ZoneSet}
use Rattle.policy_override.specs.ZoneSet.{origins_in}
use Rattle.edge_io.specs.Chain.{Chain, Stage}
use Rattle.edge_io.specs.Edge.{Rose}
use Rattle.edge_io.specs.Told.{ComesNext}
use Rattle.edge_io.specs.declared.endpoint.Endpoint.{Endpoint}
use Rattle.server_io.specs.Wired.{BlamesOrder, GivesNext, PlainWires, with_admitted, with_bound, with_inlet, with_later_wakes, with_linked, with_turns as with_limit}
use Rattle.server_io.specs.declared.wake.Wake.{Wake}
use Rattle.server_io.specs.declared.wake.Wake.TheVariants as wake
use Rattle.policy_snapshot.specs.Stands.{new_snapshot}
use Rattle.ixfr_apply.specs.Marks.{no_marks}
use Rattle.policy_publish.specs.Lists.{Published}
use Rattle.policy_feed.specs.Feed.{Feed, PlainFeeder, feed_of, first_feeder}
use Rattle.policy_feed.specs.Hastening.{IsLoaded}
use Rattle.policy_feed.specs.Ordering.{OrdersDue}
use Rattle.policy_feed.specs.Waking.{TakesWake}
use Rattle.policy_feed.specs.declared.notice.Notice.{Notice}
use Rattle.policy_feed.specs.declared.notice.Notice.TheVariants as notice
use Rattle.rpz_program.specs.Sums.{saturated}
use Rattle.rpz_program.specs.declared.plan.ServerPlan.{ServerPlan}
use Rattle.rpz_program.specs.declared.sums.Sums.{Sums}

-- what contracts see between two turns: the zones with the wires and the IDs, the seconds that the clock is still to give, where they
-- are known, and the one that it gave last, and whether the endpoint is open
pub record ServerState : Type 0 where
  pub feed : Feed
  pub moments : Option (List ℕ)
  pub second : ℕ
  pub is_open : Bool

abbrev pub server_state : PlainFeeder → Option PlainWires → ℕ → Option (List ℕ) → Option (List ℕ) →
    ℕ → Bool → ServerState
server_state feeder told faults ids moments second is_open =
    record {
      feed = feed_of feeder told faults ids;
      moments = moments;
      second = second;
      is_open = is_open;
    }

-- what wires tell that take so many arrivals, where there is such a limit
abbrev pub limited_told : Option ℕ → Option PlainWires → Option PlainWires
limited_told None told = told
limited_told (Some turns) told = option_map (with_limit turns) told

-- what wires tell of which the endpoints of a server were opened, for so many connections and arrivals
abbrev pub opened_told : ServerPlan → Option PlainWires → Option PlainWires
opened_told plan told =
    limited_told plan.turns
    (option_map (with_bound plan.listen) (option_map (with_admitted plan.admitted) told))

-- the endpoint is open from the start on, unless it is held back
abbrev pub opens_at_once : ServerPlan → Bool
opens_at_once plan = is_none plan.hold

-- what wires tell at the start of a server
abbrev pub told_at_start : Bool → ServerPlan → Option PlainWires → Option PlainWires
told_at_start true plan told = opened_told plan told
told_at_start false plan told = told

-- what a server begins with: its zones, the networks whose clients may ask, and what it does, and what is told once the endpoint is
-- open, where it is opened at once
pub record ServerStart : Type 0 where
  pub zones : List ZoneSet
  pub primaries : List Endpoint
  pub allowed : List PlainPrefix
  pub plan : ServerPlan
  pub told : Option PlainWires
  pub faults : ℕ
  pub ids : Option (List ℕ)
  pub moments : Option (List ℕ)

-- what is published where a policy of these zones begins: nothing, and no zone is marked
abbrev pub nothing_published : List ZoneSet → Published
nothing_published zones =
    record { list = []; version = new_snapshot zones; marks = no_marks (origins_in zones) }

-- what wires tell after so many links were made
abbrev pub linked_told : Endpoint → ℕ → Option PlainWires → Option PlainWires
linked_told at zero told = told
linked_told at (suc n) told = option_map (with_linked at) (linked_told at n told)

-- what wires tell after so many inlets for the datagrams of this listener were made
abbrev pub inlet_told : ℕ → ℕ → Option PlainWires → Option PlainWires
inlet_told listener zero told = told
inlet_told listener (suc n) told = option_map (with_inlet listener) (inlet_told listener n told)

-- what they tell after so many were made for each of so many listeners, those of the first before those of the others
abbrev pub inlets_told : ℕ → ℕ → Option PlainWires → Option PlainWires
inlets_told workers zero told = told
inlets_told workers (suc n) told = inlet_told n workers (inlets_told workers n told)

-- A turn: the endpoint is opened; the workers are started; or a wake came at this second, these lines were written, and this became of
-- a NOTIFY.
pub data RunTurn : Type 0 where
  binds : RunTurn
  starts : RunTurn
  wakes : ℕ → Wake → List ℕ → Option Notice → RunTurn

-- the seconds for which the endpoint is held back at the most are over; 0 is without end
abbrev pub IsOver : Option ℕ → ℕ → ℕ → Type 0
IsOver None began second = ⊥
IsOver (Some zero) began second = ⊥
IsOver (Some (suc seconds)) began second = began + suc seconds ≤ second

-- The endpoint is opened, which was held back: each zone was loaded once, or the time is over.
pub record Opens (plan : ServerPlan) (began : ℕ) (before after : ServerState) : Type 0 where
  pub was_closed : before.is_open ≡ false
  pub may_open : IsLoaded before.feed.feeder ⊎ IsOver plan.hold began before.second
  pub after_is : after
      ≡ server_state before.feed.feeder (opened_told plan before.feed.told) before.feed.faults
      before.feed.ids before.moments before.second true

-- The workers are started over so many links to the upstream and so many inlets for the datagrams of each endpoint, behind the opening
-- of the endpoints.
pub record Starts (plan : ServerPlan) (before after : ServerState) : Type 0 where
  pub is_open : before.is_open ≡ true
  pub after_is : after
      ≡ server_state before.feed.feeder
      (inlets_told plan.workers (length plan.listen)
      (linked_told plan.upstream plan.askers before.feed.told))
      before.feed.faults before.feed.ids before.moments before.second true

-- The next wake is waited for, the clock is read, and the wake does what it does; then what is due is ordered. Polls are tried anew only
-- where the endpoint is to be held back.
pub record TakesNext (plan : ServerPlan) (before : ServerState) (second : ℕ) (woken : Wake)
    (lines : List ℕ) (what : Option Notice) (after : ServerState) : Type 0 where
  pub next : GivesNext before.feed.told (Ok woken)
  pub faults : ℕ
  pub count : before.feed.faults ≤ faults
  pub blames : BlamesOrder (Ok woken) (Rose before.feed.faults faults)
  pub moment : ComesNext before.moments second after.moments
  pub second_is : after.second ≡ second
  pub is_open : after.is_open ≡ before.is_open
  pub is_anew : Bool
  pub may_try : is_anew ≡ true → IsSome plan.hold
  pub takes : TakesWake second is_anew
      (feed_of before.feed.feeder (option_map with_later_wakes before.feed.told) faults
      before.feed.ids)
      woken lines what after.feed

-- what a turn of a server does that began at this second
abbrev pub Turns : ServerPlan → ℕ → ServerState → RunTurn → ServerState → Type 0
Turns plan began before binds after = Opens plan began before after
Turns plan began before starts after = Starts plan before after
Turns plan began before (wakes second woken lines what) after =
    TakesNext plan before second woken lines what after

-- the lines of a turn, and those of turns, of which the last stands first
abbrev pub turn_lines : RunTurn → List ℕ
turn_lines binds = []
turn_lines starts = []
turn_lines (wakes second woken lines what) = lines

abbrev pub run_lines : List (Stage ServerState RunTurn) → List ℕ
run_lines [] = []
run_lines (stage ∷ stages) = run_lines stages ++ turn_lines stage.turn

-- how often the workers were started
abbrev pub starts_in : RunTurn → ℕ
starts_in binds = 0
starts_in starts = 1
starts_in (wakes second woken lines what) = 0

abbrev pub start_count : List (Stage ServerState RunTurn) → ℕ
start_count [] = 0
start_count (stage ∷ stages) = starts_in stage.turn + start_count stages

-- sums with what became of one NOTIFY more, and of those of turns
abbrev pub with_notice : Sums → Option Notice → Sums
with_notice sums None = sums
with_notice sums (Some notice.Replied) = record sums { replies = saturated sums.replies 1 }
with_notice sums (Some notice.Silent) = record sums { silent = saturated sums.silent 1 }
with_notice sums (Some notice.Memory) = record sums { memory = saturated sums.memory 1 }
with_notice sums (Some notice.Failed) = record sums { failed = saturated sums.failed 1 }

abbrev pub with_turn_notice : Sums → RunTurn → Sums
with_turn_notice sums binds = sums
with_turn_notice sums starts = sums
with_turn_notice sums (wakes second woken lines what) = with_notice sums what

abbrev pub with_turn_notices : Sums → List (Stage ServerState RunTurn) → Sums
with_turn_notices sums [] = sums
with_turn_notices sums (stage ∷ stages) = with_turn_notice (with_turn_notices sums stages) stage.turn

-- What is due at the second of the start is ordered; then these turns, of which the last stands first, lead to this state. These lines
-- were written.
pub record RunsOn (plan : ServerPlan) (second : ℕ) (before : ServerState)
    (stages : List (Stage ServerState RunTurn)) (lines : List ℕ) (last : ServerState) : Type 0 where
  pub begun : ServerState
  pub first : List ℕ
  pub orders : OrdersDue second before.feed first begun.feed
  pub moments : begun.moments ≡ before.moments
  pub second_is : begun.second ≡ before.second
  pub is_open : begun.is_open ≡ before.is_open
  pub chain : Chain (Turns plan second) begun stages last
  pub lines_are : lines ≡ first ++ run_lines stages

-- The clock is read, and at that second all zones are due; from there these turns lead to this state.
pub record RunsTo (start : ServerStart) (stages : List (Stage ServerState RunTurn))
    (lines : List ℕ) (last : ServerState) : Type 0 where
  pub second : ℕ
  pub moments : Option (List ℕ)
  pub moment : ComesNext start.moments second moments
  pub runs : RunsOn start.plan second
      (server_state
      (first_feeder start.allowed (origins_in start.zones) start.primaries
      (nothing_published start.zones) second)
      start.told start.faults start.ids moments second (opens_at_once start.plan))
      stages lines last

-- the wake of the turn says that all inlets have ended, and so many datagrams were dropped
abbrev pub IsEnd : RunTurn → ℕ → Type 0
IsEnd binds dropped = ⊥
IsEnd starts dropped = ⊥
IsEnd (wakes second (wake.Ended count) lines what) dropped = count ≡ dropped
IsEnd (wakes second woken lines what) dropped = ⊥

-- so does the last of these turns
abbrev pub HasEnded : List (Stage ServerState RunTurn) → ℕ → Type 0
HasEnded [] dropped = ⊥
HasEnded (stage ∷ stages) dropped = IsEnd stage.turn dropped
