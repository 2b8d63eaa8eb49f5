-- A machine and a more abstract one, whose state is seen through a view.
use Rattle.std.specs.Prelude.{◌≡◌, ℕ, List, Result, Ok, Err}
use Rattle.script_loop.specs.Fold.{Run}

-- the same output or refusal, and the abstract state
abbrev pub outcome_along : {M N W : Type 0} → (M → N) → Result (M × List ℕ) W →
    Result (N × List ℕ) W
outcome_along view (Ok next) = Ok (view next.0, next.1)
outcome_along view (Err why) = Err why

-- each step of the abstract machine is that of the other, through the view
abbrev pub StepsAlong : {M N W : Type 0} → (M → N) → (M → List ℕ → Result (M × List ℕ) W) →
    (N → List ℕ → Result (N × List ℕ) W) → Type 0
StepsAlong {M} view step abstract_step =
    (machine : M) (line : List ℕ) →
    abstract_step (view machine) line ≡ outcome_along view (step machine line)

-- the same number, and the abstract state, or the same refusal
abbrev pub verdict_along : {M N W : Type 0} → (M → N) → Result (ℕ × M) (ℕ × W) →
    Result (ℕ × N) (ℕ × W)
verdict_along view (Ok end) = Ok (end.0, view end.1)
verdict_along view (Err bad) = Err bad

-- the same output, and the end seen through the view
abbrev pub run_along : {M N W : Type 0} → (M → N) → Run M W → Run N W
run_along view run = (run.0, verdict_along view run.1)
