-- Rows with numbers, as contracts see them.
use Rattle.std.specs.Prelude.{ℕ, ◌+◌, ◌≤◌, Bool, eqb, not, Option, List, [], ◌∷◌}
use Rattle.std.specs.List.{find, filter}

-- a row: its number, the octets of its owner, its type, its TTL and the octets of its data
pub record PlainStored : Type 0 where
  pub number : ℕ
  pub owner : List ℕ
  pub rtype : ℕ
  pub ttl : ℕ
  pub rdata : List ℕ

-- whether the row has the number
abbrev pub has_number : ℕ → PlainStored → Bool
has_number number row = eqb row.number number

-- the row of the number, if there is one
abbrev pub row_of_number : ℕ → List PlainStored → Option PlainStored
row_of_number number rows = find (has_number number) rows

-- the rows without that of the number
abbrev pub without_number : ℕ → List PlainStored → List PlainStored
without_number number rows = filter (λ row. not (has_number number row)) rows

-- the numbers rise, from `low` on, and all are below `high`
abbrev pub NumbersRise : ℕ → List PlainStored → ℕ → Type 0
NumbersRise low [] high = low ≤ high
NumbersRise low (row ∷ rows) high = (low ≤ row.number) × NumbersRise (row.number + 1) rows high
