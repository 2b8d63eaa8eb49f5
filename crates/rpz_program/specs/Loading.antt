-- What a load run does.
use Rattle.std.specs.Prelude.{List, ℕ, ⊤}
use Rattle.load_gen.specs.Made.{load_of}
use Rattle.load_gen.specs.Summed.{summary, summary_line}
use Rattle.rpz_words.specs.declared.settings.LoadSettings.{LoadSettings}
use Rattle.rpz_program.specs.declared.status.Status.{Status}
use Rattle.rpz_program.specs.declared.status.Status.TheVariants.{Done, Usage, BadLine, ReadFault, WriteFault, SocketFault, StartFault, OutOfMemory}

-- the line of a load run: the summary of what the seed makes, whatever the number of workers
abbrev pub load_line : LoadSettings → List ℕ
load_line settings = summary_line (summary (load_of settings.seed settings.rules settings.queries))

-- a load run ends so, and never by a fault of the script, a socket or a worker
abbrev pub EndsLoad : Status → Type 0
EndsLoad Done = ⊤
EndsLoad (Usage cause) = ⊤
EndsLoad (BadLine line why) = ⊥
EndsLoad ReadFault = ⊥
EndsLoad WriteFault = ⊤
EndsLoad SocketFault = ⊥
EndsLoad StartFault = ⊥
EndsLoad OutOfMemory = ⊤
