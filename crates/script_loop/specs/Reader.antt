-- What a line reader takes out of its source.
use Rattle.std.specs.Prelude.{◌≡◌, ◌<◌, ℕ, List, [], ◌∷◌, ◌++◌, Option, Result, Ok, Err, length, ⊤}
use Rattle.edge_io.specs.Edge.{prepended, IsAtEnd}
use Rattle.script_loop.specs.declared.reader.Next.{Next}
use Rattle.script_loop.specs.declared.reader.Next.TheVariants.{Whole, Last, Cut}
use Rattle.script_loop.specs.declared.reader.SourceError.{SourceError}
use Rattle.script_loop.specs.declared.reader.SourceError.TheVariants.{ReadFault, OutOfMemory}
use Rattle.script_loop.specs.declared.limits.TheConstants.{LINE_BYTES}
use Rattle.script_loop.specs.Lines.{NoFeed}

-- the buffer begins with the rest of a line and its line feed, which went to the line
pub record TakesLine (buffer line buffer_after line_after : List ℕ) : Type 0 where
  pub piece : List ℕ
  pub no_feed : NoFeed piece
  pub split : buffer ≡ piece ++ 10 ∷ buffer_after
  pub added : line_after ≡ line ++ piece

-- the buffer has no line feed, and went to the line
pub record TakesAll (buffer line buffer_after line_after : List ℕ) : Type 0 where
  pub no_feed : NoFeed buffer
  pub is_empty : buffer_after ≡ []
  pub added : line_after ≡ line ++ buffer

-- what was to come is the line that was read, and then the buffer and what is left of the source
abbrev pub Reads : Result Next SourceError → Option (List ℕ) → List ℕ → List ℕ → Option (List ℕ) →
    Type 0
Reads (Ok Whole) before line buffer left = before ≡ prepended (line ++ 10 ∷ buffer) left
Reads (Ok Last) before line buffer left = (before ≡ prepended line left) × IsAtEnd left
Reads (Ok Cut) before line buffer left =
    (before ≡ prepended (line ++ buffer) left) × (LINE_BYTES < length line)
Reads (Err ReadFault) before line buffer left = before ≡ prepended line left
Reads (Err OutOfMemory) before line buffer left = before ≡ prepended (line ++ buffer) left

-- the error blames the source only where this holds
abbrev pub BlamesSource : SourceError → Type 0 → Type 0
BlamesSource ReadFault blame = blame
BlamesSource OutOfMemory blame = ⊤
