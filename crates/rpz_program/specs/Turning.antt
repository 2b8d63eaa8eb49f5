-- How far turns bring a server: see src/turning.rt and src/serving.rt.
use Rattle.std.specs.Prelude.{◌≡◌, ◌≤◌, ◌⊎◌, ℕ, List, ◌++◌, Bool, true, false, Option, Some, None, IsSome, Ok, ⊤}
use Rattle.std.specs.Option.{option_map}
use Rattle.edge_io.specs.Chain.{Chain, Stage}
use Rattle.edge_io.specs.Edge.{Rose, WritesPrefix}
use Rattle.server_io.specs.Wired.{BlamesOrder, GivesNext, PlainWires, with_later_wakes}
use Rattle.server_io.specs.declared.wake.Wake.{Wake}
use Rattle.server_io.specs.declared.wake.Wake.TheVariants as wake
use Rattle.server_io.specs.declared.wires.WireError.{WireError}
use Rattle.server_io.specs.declared.wires.WireError.TheVariants as wire
use Rattle.rpz_program.specs.Serving.{Wrote}
use Rattle.rpz_program.specs.Sums.{no_sums}
use Rattle.rpz_program.specs.Turns.{HasEnded, ServerState, RunTurn, RunsOn, Turns, run_lines, start_count, with_turn_notices}
use Rattle.policy_feed.specs.Feed.{Feed}
use Rattle.policy_feed.specs.Ordering.{OrdersDue}
use Rattle.rpz_program.specs.declared.plan.ServerPlan.{ServerPlan}
use Rattle.rpz_program.specs.declared.progress.Progress.{Progress}
use Rattle.rpz_program.specs.declared.serve_error.ServeError.{ServeError}
use Rattle.rpz_program.specs.declared.serve_error.ServeError.TheVariants as error

-- why a run ends in which a call of the wires gave nothing
abbrev pub error_of : WireError → ServeError
error_of wire.Failed = error.SocketFault
error_of wire.OutOfMemory = error.OutOfMemory

-- the next wake was waited for, and is this
pub record WakesUp (woken : Wake) (told told_then : Option PlainWires) (faults faults_then : ℕ) : Type
    0 where
  pub next : GivesNext told (Ok woken)
  pub told_is : told_then ≡ option_map with_later_wakes told
  pub count : faults ≤ faults_then
  pub blames : BlamesOrder (Ok woken) (Rose faults faults_then)

-- how many datagrams were dropped, where the wake says that all inlets have ended
abbrev pub ended_by : Wake → Option ℕ
ended_by (wake.Ended dropped) = Some dropped
ended_by woken = None

-- the last turn has ended so, where it is known to have ended
abbrev pub EndsIf : Option ℕ → List (Stage ServerState RunTurn) → Type 0
EndsIf None stages = ⊤
EndsIf (Some dropped) stages = HasEnded stages dropped

-- polls may be tried anew in a server that does this
abbrev pub MayTry : Bool → ServerPlan → Type 0
MayTry false plan = ⊤
MayTry true plan = IsSome plan.hold

-- These turns were taken, none of which starts workers, and their lines were written behind those before. Polls were tried anew where
-- that is said.
pub record Advances (tries : Bool) (before : ServerState) (from : Progress) (held : Option (List ℕ))
    (ended : Option ℕ) (after : ServerState) (to : Progress) (held_then : Option (List ℕ)) : Type
    0 where
  pub stages : List (Stage ServerState RunTurn)
  pub chain : (plan : ServerPlan) (began : ℕ) → MayTry tries plan →
      Chain (Turns plan began) before stages after
  pub wrote : (lines : List ℕ) (first : Option (List ℕ)) → Wrote from.is_cut lines first held →
      Wrote to.is_cut (lines ++ run_lines stages) first held_then
  pub notices : to.notices ≡ with_turn_notices from.notices stages
  pub starts : start_count stages ≡ 0
  pub ends : EndsIf ended stages

-- These turns were taken before a run ended early, and what was written begins their lines, behind those before.
pub record StopsAdvancing (tries : Bool) (before : ServerState) (from : Progress)
    (held held_then : Option (List ℕ)) : Type 0 where
  pub stages : List (Stage ServerState RunTurn)
  pub last : ServerState
  pub chain : (plan : ServerPlan) (began : ℕ) → MayTry tries plan →
      Chain (Turns plan began) before stages last
  pub written : (lines : List ℕ) (first : Option (List ℕ)) → Wrote from.is_cut lines first held →
      WritesPrefix (lines ++ run_lines stages) first held_then

-- These turns of a server were taken that began at this second, none of which starts workers, and their lines were written behind those
-- before.
pub record Reaches (plan : ServerPlan) (began : ℕ) (before : ServerState) (from : Progress)
    (held : Option (List ℕ)) (after : ServerState) (to : Progress)
    (held_then : Option (List ℕ)) : Type 0 where
  pub stages : List (Stage ServerState RunTurn)
  pub chain : Chain (Turns plan began) before stages after
  pub wrote : (lines : List ℕ) (first : Option (List ℕ)) → Wrote from.is_cut lines first held →
      Wrote to.is_cut (lines ++ run_lines stages) first held_then
  pub notices : to.notices ≡ with_turn_notices from.notices stages
  pub starts : start_count stages ≡ 0

-- These turns were taken before a run ended early, and what was written begins their lines, behind those before.
pub record StopsReaching (plan : ServerPlan) (began : ℕ) (before : ServerState)
    (from : Progress) (held held_then : Option (List ℕ)) : Type 0 where
  pub stages : List (Stage ServerState RunTurn)
  pub last : ServerState
  pub chain : Chain (Turns plan began) before stages last
  pub written : (lines : List ℕ) (first : Option (List ℕ)) → Wrote from.is_cut lines first held →
      WritesPrefix (lines ++ run_lines stages) first held_then

-- why turns may end a run
abbrev pub IsOfTurns : ServeError → Type 0
IsOfTurns error.SocketFault = ⊤
IsOfTurns error.OutOfMemory = ⊤
IsOfTurns why = ⊥

-- What was due at this second was ordered, and the lines of what could not be begun were written.
pub record OrdersFirst (second : ℕ) (before : Feed) (held : Option (List ℕ)) (after : Feed)
    (to : Progress) (held_then : Option (List ℕ)) : Type 0 where
  pub lines : List ℕ
  pub orders : OrdersDue second before lines after
  pub notices : to.notices ≡ no_sums
  pub second_is : to.second ≡ second
  pub wrote : Wrote to.is_cut lines held held_then

-- The same before a run ended early; or nothing was written.
abbrev pub StopsFirst : ℕ → Feed → Option (List ℕ) → Option (List ℕ) → Type 0
StopsFirst second before held held_then =
    (held_then ≡ held)
    ⊎ ((lines : List ℕ) × (after : Feed) × OrdersDue second before lines after
    × WritesPrefix lines held held_then)

-- All turns of a run were taken, the last of which says that so many datagrams were dropped.
pub record RunsAll (plan : ServerPlan) (second : ℕ) (before : ServerState)
    (held : Option (List ℕ)) (after : ServerState) (to : Progress) (dropped : ℕ)
    (held_then : Option (List ℕ)) : Type 0 where
  pub stages : List (Stage ServerState RunTurn)
  pub lines : List ℕ
  pub runs : RunsOn plan second before stages lines after
  pub started : start_count stages ≡ 1
  pub ended : HasEnded stages dropped
  pub notices : to.notices ≡ with_turn_notices no_sums stages
  pub wrote : Wrote to.is_cut lines held held_then

-- Some turns of a run were taken, and what was written begins their lines.
pub record RunsSome (plan : ServerPlan) (second : ℕ) (before : ServerState)
    (held held_then : Option (List ℕ)) : Type 0 where
  pub stages : List (Stage ServerState RunTurn)
  pub lines : List ℕ
  pub last : ServerState
  pub runs : RunsOn plan second before stages lines last
  pub written : WritesPrefix lines held held_then

-- the same, or nothing was written
abbrev pub StopsRunning : ServerPlan → ℕ → ServerState → Option (List ℕ) → Option (List ℕ) → Type 0
StopsRunning plan second before held held_then =
    (held_then ≡ held) ⊎ RunsSome plan second before held held_then

-- why the last line may end a run
abbrev pub IsOfLines : ServeError → Type 0
IsOfLines error.WriteFault = ⊤
IsOfLines error.OutOfMemory = ⊤
IsOfLines why = ⊥
