-- How a run ends.
use Rattle.std.specs.Prelude.{◌≡◌, ◌≢◌, ℕ, List, [], Option, Some, Result, Ok, Err, IsOk, IfSome, String, true, ⊤}
use Rattle.std.specs.declared.alloc.Global.{Global}
use Rattle.edge_io.specs.Edge.{appended}
use Rattle.script_loop.specs.declared.replay.Stop.{Stop}
use Rattle.script_loop.specs.declared.replay.Stop.TheVariants as stop
use Rattle.rpz_program.specs.declared.status.Status.{Status}
use Rattle.rpz_program.specs.declared.status.Status.TheVariants.{Done, Usage, BadLine, ReadFault, WriteFault, SocketFault, StartFault, OutOfMemory}
use Rattle.script_codec.specs.declared.line_fault.LineFault.{LineFault}
use Rattle.script_loop.specs.Fold.{run_of}
use Rattle.script_loop.specs.Lines.{whole_lines}
use Rattle.script_loop.specs.Replay.{IsPrefix, Moves}
use Rattle.clap.specs.Faults.{fault_of}
use Rattle.clap.specs.Words.{takes}
use Rattle.rpz_words.specs.Words.{argv, rpz_app}
use Rattle.rpz_program.specs.Serving.{Gathering, StopsServing}
use Rattle.rpz_program.specs.Status.{status_of_error}
use Rattle.rpz_program.specs.Turns.{ServerStart}
use Rattle.rpz_program.specs.declared.serve_error.ServeError.{ServeError}
use Rattle.rpz_program.specs.Script.{ScriptWorld, start, step, too_many, too_long, script_transcript, script_verdict}

-- the words are those of a command, as the command line's grammar takes them
abbrev pub AreTaken : List (String Global) → Type 0
AreTaken words = takes rpz_app (argv words) ≡ true

-- the words are refused by it
abbrev pub AreRefused : List (String Global) → Type 0
AreRefused words = fault_of rpz_app (argv words) ≢ []

-- a server's run that ended early: its status says why
pub record StopsBy (status : Status) (start : ServerStart) (turns : Option ℕ)
    (gathering : Gathering) (before after : Option (List ℕ)) : Type 0 where
  pub why : ServeError
  pub status_is : status ≡ status_of_error why
  pub stops : StopsServing start turns gathering before after

-- The script was read to its end, each line is of the form, and its transcript was written.
abbrev pub IsWholeScript : List ℕ → Option (List ℕ) → Option (List ℕ) → Option (List ℕ) → Type 0
IsWholeScript script left held_before held_after =
    (left ≡ Some []) × IsOk (script_verdict script)
    × (held_after ≡ appended held_before (script_transcript script))

-- The line is the first that is refused, and what the lines before it output was written.
abbrev pub IsFirstBadLine : List ℕ → ℕ → LineFault → Option (List ℕ) → Option (List ℕ) → Type 0
IsFirstBadLine script line why held_before held_after =
    (script_verdict script ≡ Err (line, why))
    × (held_after ≡ appended held_before (script_transcript script))

-- each line whose line feed was read is of the form, and what these lines output was written
abbrev pub AnswersWholeLines : List ℕ → List ℕ → Type 0
AnswersWholeLines read written =
    (end : ℕ × ScriptWorld)
    × (run_of too_many too_long step (1, start) (whole_lines read) ≡ (written, Ok end))

-- what was written begins the transcript of what was read
abbrev pub BeginsTranscript : List ℕ → List ℕ → Type 0
BeginsTranscript read written = IsPrefix written (script_transcript read)

-- the status says what the verdict on the script says
abbrev pub IsVerdict : Result (ℕ × ScriptWorld) (ℕ × LineFault) → Status → Type 0
IsVerdict (Ok end) status = status ≡ Done
IsVerdict (Err bad) status = status ≡ BadLine bad.0 bad.1

-- a page ends so: it was shown, or a write failed, or there was no memory
abbrev pub EndsPage : Status → Type 0
EndsPage Done = ⊤
EndsPage (Usage cause) = ⊥
EndsPage (BadLine line why) = ⊥
EndsPage ReadFault = ⊥
EndsPage WriteFault = ⊤
EndsPage SocketFault = ⊥
EndsPage StartFault = ⊥
EndsPage OutOfMemory = ⊤

-- how a replay ends
abbrev pub Ends : Result (Unit {0}) (Stop LineFault) → Option (List ℕ) → Option (List ℕ) →
    Option (List ℕ) → Option (List ℕ) → Type 0
Ends (Ok u) left_before left_after held_before held_after =
    IfSome left_before (λ script. IsWholeScript script left_after held_before held_after)
Ends (Err (stop.BadLine line why)) left_before left_after held_before held_after =
    IfSome left_before (λ script. IsFirstBadLine script line why held_before held_after)
Ends (Err stop.ReadFault) left_before left_after held_before held_after =
    Moves left_before left_after held_before held_after AnswersWholeLines
Ends (Err stop.WriteFault) left_before left_after held_before held_after = ⊤
Ends (Err stop.OutOfMemory) left_before left_after held_before held_after = ⊤
