-- What is kept of keys while steps are applied: see src/marks.rt and src/draft.rt.
use Rattle.std.specs.Prelude.{◌≡◌, ℕ, ◌+◌, ◌≤◌, nat_lt, true, cond, if◌then◌else◌, List, [], ◌∷◌, length, All, Option, Some, None}
use Rattle.std.specs.Map.{lookup}
use Rattle.std.specs.Option.{is_some}
use Rattle.std.specs.Str.{bytes_eq}
use Rattle.dns_record.specs.Row.{PlainRow, identity}
use Rattle.zone_rows.specs.declared.marks.Mark.{Mark}
use Rattle.zone_rows.specs.declared.steps.Step.{Step}

-- what is kept of each key
abbrev pub Kept : Type 0
Kept = List ℕ → Option Mark

-- the mark of a key
abbrev pub mark_of : List (List ℕ × Mark) → Kept
mark_of marks key = lookup (bytes_eq key) marks

-- what is kept of the key is this, and of the others what was
abbrev pub IsUpdated : Kept → List ℕ → Option Mark → Kept → Type 0
IsUpdated old key mark new =
    (other : List ℕ) → new other ≡ cond (bytes_eq key other) mark (old other)

-- the key has a mark
abbrev pub IsNamed : Kept → List ℕ → Type 0
IsNamed kept key = is_some (kept key) ≡ true

abbrev pub AreNamed : Kept → List PlainRow → Type 0
AreNamed kept rows = All (λ row. IsNamed kept (identity row)) rows

-- the rows that the step names have marks
abbrev pub IsStepNamed : Kept → Step → Type 0
IsStepNamed kept step = AreNamed kept step.deleted × AreNamed kept step.added

-- the keys with a mark are the same
abbrev pub SameNames : Kept → Kept → Type 0
SameNames old new = (key : List ℕ) → is_some (new key) ≡ is_some (old key)

-- all marks are those of keys that no row has
abbrev pub AreFresh : Kept → Type 0
AreFresh kept =
    (key : List ℕ) (mark : Mark) → kept key ≡ Some mark → (mark.count ≡ 0) × (mark.cut ≡ 0)

-- the marks are new with those of the rows, and no mark has gone
pub record HasNamed (old new : Kept) (rows : List PlainRow) : Type 0 where
  pub named : AreNamed new rows
  pub keeps : (key : List ℕ) → IsNamed old key → IsNamed new key
  pub fresh : AreFresh old → AreFresh new

-- up to which place the rows of this one's identity were taken out
abbrev pub cut_in : Option Mark → ℕ
cut_in None = 0
cut_in (Some mark) = mark.cut

abbrev pub cut_of : Kept → PlainRow → ℕ
cut_of kept row = cut_in (kept (identity row))

-- the rows that were not taken out, where the first stands at this place
abbrev pub live_from : Kept → ℕ → List PlainRow → List PlainRow
live_from kept place [] = []
live_from kept place (row ∷ rows) =
    if nat_lt place (cut_of kept row) then live_from kept (place + 1) rows
    else row ∷ live_from kept (place + 1) rows

-- how many rows have the identity
abbrev pub count_key : List ℕ → List PlainRow → ℕ
count_key key [] = 0
count_key key (row ∷ rows) =
    if bytes_eq key (identity row) then count_key key rows + 1 else count_key key rows

-- a row more with this mark
abbrev pub one_more : Mark → Mark
one_more mark = record { count = mark.count + 1; cut = mark.cut }

-- the marks are those of the rows that were not taken out, and so is the count
pub record AreMarks (kept : Kept) (slots : List PlainRow) (live : ℕ) : Type 0 where
  pub counts : (key : List ℕ) (mark : Mark) → kept key ≡ Some mark →
      mark.count ≡ count_key key (live_from kept 0 slots)
  pub cuts : (key : List ℕ) (mark : Mark) → kept key ≡ Some mark → mark.cut ≤ length slots
  pub count : live ≡ length (live_from kept 0 slots)
