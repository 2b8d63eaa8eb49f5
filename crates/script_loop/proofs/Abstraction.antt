-- A machine does to a script what a more abstract one does, where each of its steps does.
use Rattle.std.proofs.Common.{◌≡◌, ℕ, List, [], ◌∷◌, ◌++◌, Ok, Err, Result, refl, ◌∙◌, ap, length, nat_lt, true, false}
use Rattle.std.specs.Prelude.{Bool, ◌-◌, ◌^◌, if◌then◌else◌}
use Rattle.script_loop.specs.Lines.{lines_of}
use Rattle.script_loop.specs.Fold.{Run, run_of, run_on, line_outcome, counting_on, transcript, verdict}
use Rattle.script_loop.specs.Abstraction.{StepsAlong, outcome_along, run_along, verdict_along}

module _ {M N W : Type 0} (too_many too_long : W) (view : M → N) (first : M → List ℕ → Result (M × List ℕ) W) (second : N → List ℕ → Result (N × List ℕ) W) (same : StepsAlong view first second) where
  -- the number of the next line, and the abstract state
  abbrev view_of : ℕ × M → ℕ × N
  view_of old = (old.0, view old.1)

  -- a line's verdict, by whether there are too many lines and whether it is too long
  abbrev tested : {S : Type 0} → Bool → Bool → Result ((ℕ × S) × List ℕ) W → Result ((ℕ × S) × List ℕ) W
  tested many long stepped = if many then Err too_many else (if long then Err too_long else stepped)

  tested-along : (number : ℕ) (many long : Bool) (stepped : Result (M × List ℕ) W) → tested many long (counting_on number (outcome_along view stepped)) ≡ outcome_along view_of (tested many long (counting_on number stepped))
  tested-along number true long stepped = refl
  tested-along number false true stepped = refl
  tested-along number false false (Ok next) = refl
  tested-along number false false (Err why) = refl

  line_outcome-along : (old : ℕ × M) (line : List ℕ) → line_outcome too_many too_long second (view_of old) line ≡ outcome_along view_of (line_outcome too_many too_long first old line)
  line_outcome-along old line =
      let many = nat_lt (2 ^ 32 - 1) old.0 in
      let long = nat_lt 200000 (length line) in
      ap (λ (s : Result (N × List ℕ) W). tested many long (counting_on old.0 s)) (same old.1 line) ∙ tested-along old.0 many long (first old.1 line)

  on-along : (number : ℕ) (stepped : Result ((ℕ × M) × List ℕ) W) (lines : List (List ℕ))
      → ((old : ℕ × M) → run_of too_many too_long second (view_of old) lines ≡ run_along view (run_of too_many too_long first old lines))
      → run_on number (outcome_along view_of stepped) (λ next. run_of too_many too_long second next lines) ≡ run_along view (run_on number stepped (λ next. run_of too_many too_long first next lines))
  on-along number (Ok next) lines goes = ap (λ (r : Run N W). (next.1 ++ r.0, r.1)) (goes next.0)
  on-along number (Err why) lines goes = refl

  -- the runs have the same output, and their ends are the same through the view
  pub run_of-along : (old : ℕ × M) (lines : List (List ℕ)) → run_of too_many too_long second (old.0, view old.1) lines ≡ run_along view (run_of too_many too_long first old lines)
  run_of-along old [] = refl
  run_of-along old (line ∷ lines) =
      ap (λ (s : Result ((ℕ × N) × List ℕ) W). run_on old.0 s (λ next. run_of too_many too_long second next lines)) (line_outcome-along old line)
      ∙ on-along old.0 (line_outcome too_many too_long first old line) lines (λ next. run_of-along next lines)

  -- a script has the same transcript
  pub transcript-along : (machine : M) (script : List ℕ) → transcript too_many too_long second (view machine) script ≡ transcript too_many too_long first machine script
  transcript-along machine script = ap (λ (r : Run N W). r.0) (run_of-along (1, machine) (lines_of script))

  -- and the same verdict, through the view
  pub verdict-along : (machine : M) (script : List ℕ) → verdict too_many too_long second (view machine) script ≡ verdict_along view (verdict too_many too_long first machine script)
  verdict-along machine script = ap (λ (r : Run N W). r.1) (run_of-along (1, machine) (lines_of script))
