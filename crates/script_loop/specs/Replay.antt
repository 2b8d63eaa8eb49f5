-- What a replay reads, writes and answers.
use Rattle.std.specs.Prelude.{◌≡◌, ℕ, ◌+◌, ◌<◌, ◌≤◌, ◌⊎◌, List, [], ◌++◌, Option, Some, Result, Ok, Err, take, length, IfSome, IsOkAnd, ⊤}
use Rattle.edge_io.specs.Edge.{prepended, appended}
use Rattle.script_loop.specs.declared.machine.AnswerError.{AnswerError}
use Rattle.script_loop.specs.declared.machine.AnswerError.TheVariants.{Refused, OutOfMemory as NoMemory}
use Rattle.script_loop.specs.declared.reader.SourceError.{SourceError}
use Rattle.script_loop.specs.declared.reader.SourceError.TheVariants.{ReadFault as Fault, OutOfMemory as Memory}
use Rattle.script_loop.specs.declared.limits.TheConstants.{CHUNK}
use Rattle.script_loop.specs.declared.replay.Stop.{Stop}
use Rattle.script_loop.specs.declared.replay.Stop.TheVariants.{BadLine, ReadFault, WriteFault, OutOfMemory}
use Rattle.script_loop.specs.Lines.{whole_lines}
use Rattle.script_loop.specs.Fold.{line_outcome, run_of, transcript, verdict}

-- what an answer to a line did to a machine, by what its step gives
abbrev pub Steps : {M W : Type 0} → Result (M × List ℕ) W → Result (Unit {0}) (AnswerError W) → M →
    List ℕ → Type 0
Steps gives (Ok u) new reply = gives ≡ Ok (new, reply)
Steps gives (Err (Refused why)) new reply = gives ≡ Err why
Steps gives (Err NoMemory) new reply = ⊤

-- The second list begins with the first.
abbrev pub IsPrefix : List ℕ → List ℕ → Type 0
IsPrefix first all = (rest : List ℕ) × (all ≡ first ++ rest)

-- Where both are known: these bytes were read and those written, and P holds of them.
pub record Moves (left_before left_after out_before out_after : Option (List ℕ))
    (P : List ℕ → List ℕ → Type 0) : Type 0 where
  pub read : List ℕ
  pub written : List ℕ
  pub from_source : left_before ≡ prepended read left_after
  pub to_sink : out_after ≡ appended out_before written
  pub have : P read written

-- No more of the source was read than the chunk in which the line ends. What was read is, but for a chunk at its end, too short
-- to have the line feed of this line.
pub record ReadsNoFurther (line : ℕ) (left_before left_after : Option (List ℕ)) : Type 0 where
  pub first : List ℕ
  pub chunk : List ℕ
  pub from_source : left_before ≡ prepended (first ++ chunk) left_after
  pub is_chunk : length chunk ≤ CHUNK
  pub is_short : length (whole_lines first) < line

-- the fault that the error names has happened
abbrev pub Blames : {W : Type 0} → Stop W → Type 0 → Type 0 → Type 0
Blames ReadFault source sink = source
Blames WriteFault source sink = sink
Blames OutOfMemory source sink = ⊤
Blames (BadLine line why) source sink = ⊤

-- what stops a script where no line can be read
abbrev pub StopsAt : {W : Type 0} → SourceError → Stop W → Type 0
StopsAt Fault stop = stop ≡ ReadFault
StopsAt Memory stop = stop ≡ OutOfMemory

-- the error blames the sink only where this holds
abbrev pub BlamesSink : {W : Type 0} → Stop W → Type 0 → Type 0
BlamesSink WriteFault blame = blame
BlamesSink OutOfMemory blame = ⊤
BlamesSink ReadFault blame = ⊥
BlamesSink (BadLine line why) blame = ⊤

module _ {M W : Type 0} (too_many too_long : W) (step : M → List ℕ → Result (M × List ℕ) W) where
  -- the line took this state to that, and what it outputs went out
  pub record Takes (old : ℕ × M) (line : List ℕ) (new : ℕ × M)
      (before after : Option (List ℕ)) : Type 0 where
    pub written : List ℕ
    pub does : line_outcome too_many too_long step old line ≡ Ok (new, written)
    pub to_sink : after ≡ appended before written

  -- the first of what the line outputs went out
  pub record TakesPart (old : ℕ × M) (line : List ℕ) (before after : Option (List ℕ)) : Type 0 where
    pub next : ℕ × M
    pub written : List ℕ
    pub count : ℕ
    pub does : line_outcome too_many too_long step old line ≡ Ok (next, written)
    pub to_sink : after ≡ appended before (take count written)

  -- what an answer to one line did
  abbrev pub Answers : Result (Unit {0}) (Stop W) → ℕ → M → List ℕ → M → Option (List ℕ) →
      Option (List ℕ) → Type 0
  Answers (Ok u) number old line new before after =
      Takes (number, old) line (number + 1, new) before after
  Answers (Err (BadLine bad why)) number old line new before after =
      (bad ≡ number) × (line_outcome too_many too_long step (number, old) line ≡ Err why)
      × (after ≡ before)
  Answers (Err WriteFault) number old line new before after =
      TakesPart (number, old) line before after
  Answers (Err OutOfMemory) number old line new before after =
      (after ≡ before) ⊎ TakesPart (number, old) line before after
  Answers (Err ReadFault) number old line new before after = ⊥

  -- each line whose line feed was read is answered, and none is refused
  abbrev pub AnswersWholeLines : M → List ℕ → List ℕ → Type 0
  AnswersWholeLines machine read written =
      (end : ℕ × M)
      × (run_of too_many too_long step (1, machine) (whole_lines read) ≡ (written, Ok end))

  -- what was written begins the transcript of what was read
  abbrev pub BeginsTranscript : M → List ℕ → List ℕ → Type 0
  BeginsTranscript machine read written =
      IsPrefix written (transcript too_many too_long step machine read)

  -- how a replay ends
  abbrev pub Ends : Result (Unit {0}) (Stop W) → M → M → Option (List ℕ) → Option (List ℕ) →
      Option (List ℕ) → Option (List ℕ) → Type 0
  Ends (Ok u) old new left_before left_after out_before out_after =
      IfSome left_before (λ script. (left_after ≡ Some [])
      × IsOkAnd (verdict too_many too_long step old script) (λ end. end.1 ≡ new)
      × (out_after ≡ appended out_before (transcript too_many too_long step old script)))
  Ends (Err (BadLine line why)) old new left_before left_after out_before out_after =
      IfSome left_before (λ script. (verdict too_many too_long step old script ≡ Err (line, why))
      × (out_after ≡ appended out_before (transcript too_many too_long step old script)))
  Ends (Err ReadFault) old new left_before left_after out_before out_after =
      Moves left_before left_after out_before out_after (AnswersWholeLines old)
  Ends (Err WriteFault) old new left_before left_after out_before out_after = ⊤
  Ends (Err OutOfMemory) old new left_before left_after out_before out_after = ⊤
