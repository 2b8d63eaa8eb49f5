-- What the lines of a script do to a machine, one after another.
use Rattle.std.specs.Prelude.{ℕ, ◌+◌, List, [], ◌∷◌, ◌++◌, if◌then◌else◌, nat_lt, Result, Ok, Err, length}
use Rattle.script_loop.specs.declared.limits.TheConstants.{LINE_BYTES, LINES}
use Rattle.script_loop.specs.Lines.{lines_of}

-- Counting lines: after a line that was taken, the state is the machine with the number of the line that comes next, and the line's
-- output is as it was. A line that is refused is passed on as it is.
abbrev pub counting_on : {M W : Type 0} → ℕ → Result (M × List ℕ) W → Result ((ℕ × M) × List ℕ) W
counting_on line_number (Ok (machine, output)) = Ok ((line_number + 1, machine), output)
counting_on line_number (Err why) = Err why

-- a run of lines: what it outputs, and the state after it, or the number of the line that was refused, and why
abbrev pub Run : Type 0 → Type 0 → Type 0
Run M W = List ℕ × Result (ℕ × M) (ℕ × W)

-- the run that begins with a line
abbrev pub run_on : {M W : Type 0} → ℕ → Result ((ℕ × M) × List ℕ) W → ((ℕ × M) → Run M W) → Run M W
run_on number (Ok next) more = (next.1 ++ (more next.0).0, (more next.0).1)
run_on number (Err why) more = ([], Err (number, why))

-- why a line that is too long is refused: its number comes first
abbrev pub why_unread : {W : Type 0} → W → W → ℕ → W
why_unread too_many too_long number = if nat_lt LINES number then too_many else too_long

-- The machine names why a line is refused whatever it says: there are too many lines, or it is too long.
module _ {M W : Type 0} (too_many too_long : W) (step : M → List ℕ → Result (M × List ℕ) W) where
  -- the state after a line, and what it outputs
  abbrev pub line_outcome : ℕ × M → List ℕ → Result ((ℕ × M) × List ℕ) W
  line_outcome old line =
      if nat_lt LINES old.0 then Err too_many
      else (if nat_lt LINE_BYTES (length line) then Err too_long
      else counting_on old.0 (step old.1 line))

  -- what lines output, and the state after them or the first that is refused
  abbrev pub run_of : ℕ × M → List (List ℕ) → Run M W
  run_of old [] = ([], Ok old)
  run_of old (line ∷ lines) = run_on old.0 (line_outcome old line) (λ next. run_of next lines)

  -- what a script outputs: the outputs of its lines, up to the first that is refused
  abbrev pub transcript : M → List ℕ → List ℕ
  transcript machine script = (run_of (1, machine) (lines_of script)).0

  -- the state after a script, or the number of its first line that is refused, and why
  abbrev pub verdict : M → List ℕ → Result (ℕ × M) (ℕ × W)
  verdict machine script = (run_of (1, machine) (lines_of script)).1
