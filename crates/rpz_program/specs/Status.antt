-- What a run ends with, as the number of the process and as text on standard error.
use Rattle.std.specs.Prelude.{ℕ, List, ◌++◌, Option, Some, None, Result, Ok, Err, codes, decimal, ⊤}
use Rattle.edge_io.specs.declared.edge.SinkError.{SinkError}
use Rattle.edge_io.specs.declared.edge.SinkError.TheVariants as sink_error
use Rattle.script_codec.specs.LineFault.{why_text}
use Rattle.script_codec.specs.declared.line_fault.LineFault.{LineFault}
use Rattle.rpz_words.specs.Cause.{cause_text}
use Rattle.rpz_words.specs.declared.pages.TheConstants.{USAGE}
use Rattle.script_loop.specs.declared.replay.Stop.{Stop}
use Rattle.script_loop.specs.declared.replay.Stop.TheVariants as stop
use Rattle.rpz_program.specs.declared.serve_error.ServeError.{ServeError}
use Rattle.rpz_program.specs.declared.serve_error.ServeError.TheVariants as error
use Rattle.rpz_program.specs.declared.status.Status.{Status}
use Rattle.rpz_program.specs.declared.status.Status.TheVariants.{Done, Usage, BadLine, ReadFault, WriteFault, SocketFault, StartFault, OutOfMemory}

abbrev pub code_of : Status → ℕ
code_of Done = 0
code_of (Usage cause) = 2
code_of (BadLine number why) = 3
code_of ReadFault = 4
code_of WriteFault = 5
code_of SocketFault = 6
code_of StartFault = 7
code_of OutOfMemory = 9

-- nothing where the run is done
abbrev pub text_of : Status → Option (List ℕ)
text_of Done = None
text_of (Usage cause) = Some (codes "rpz: " ++ (cause_text cause ++ (codes "\n" ++ USAGE.now)))
text_of (BadLine number why) =
    Some (codes "rpz: line " ++ (decimal number ++ (codes ": " ++ why_text why)))
text_of ReadFault = Some (codes "rpz: read fault")
text_of WriteFault = Some (codes "rpz: write fault")
text_of SocketFault = Some (codes "rpz: socket fault")
text_of StartFault = Some (codes "rpz: start fault")
text_of OutOfMemory = Some (codes "rpz: out of memory")

-- The words of the command line were refused.
abbrev pub IsUsage : Status → Type 0
IsUsage Done = ⊥
IsUsage (Usage cause) = ⊤
IsUsage (BadLine number why) = ⊥
IsUsage ReadFault = ⊥
IsUsage WriteFault = ⊥
IsUsage SocketFault = ⊥
IsUsage StartFault = ⊥
IsUsage OutOfMemory = ⊥

-- how a script ends a run before the script's end
abbrev pub status_of_stop : Stop LineFault → Status
status_of_stop (stop.BadLine line why) = BadLine line why
status_of_stop stop.ReadFault = ReadFault
status_of_stop stop.WriteFault = WriteFault
status_of_stop stop.OutOfMemory = OutOfMemory

-- how a script ends a run
abbrev pub status_of_replay : Result (Unit {0}) (Stop LineFault) → Status
status_of_replay (Ok u) = Done
status_of_replay (Err why) = status_of_stop why

-- how a server that stops early ends a run
abbrev pub status_of_error : ServeError → Status
status_of_error error.WriteFault = WriteFault
status_of_error error.SocketFault = SocketFault
status_of_error error.StartFault = StartFault
status_of_error error.OutOfMemory = OutOfMemory

-- how a server ends a run
abbrev pub status_of_server : Result (Unit {0}) ServeError → Status
status_of_server (Ok u) = Done
status_of_server (Err why) = status_of_error why

-- how a load run, or a page, ends a run: by how its writing ended
abbrev pub status_of_written : Result (Unit {0}) SinkError → Status
status_of_written (Ok u) = Done
status_of_written (Err sink_error.WriteFault) = WriteFault
status_of_written (Err sink_error.OutOfMemory) = OutOfMemory
