-- The rows of a zone while steps are applied: see src/draft.rt.
use Rattle.std.specs.Prelude.{◌≡◌, ℕ, ◌+◌, nat_lt, if◌then◌else◌, List, [], ◌∷◌, ◌++◌, length, Result, Ok, Err}
use Rattle.dns_name.specs.Reading.{◌>>=◌}
use Rattle.dns_record.specs.Row.{PlainRow}
use Rattle.zone_rows.specs.declared.draft.Draft.{Draft}
use Rattle.zone_rows.specs.declared.fault.ApplyError.{ApplyError}
use Rattle.zone_rows.specs.declared.fault.ApplyFault.{ApplyFault}
use Rattle.zone_rows.specs.declared.fault.ApplyFault.TheVariants.{DeleteAbsent, AddPresent, TooManyRows}
use Rattle.zone_rows.specs.Marks.{mark_of, live_from, AreMarks, SameNames}
use Rattle.zone_rows.specs.Repeats.{has_row}
use Rattle.zone_rows.specs.Steps.{without_row, without_deleted, with_added}
use Rattle.zone_rows.specs.Zone.{Fails}

-- the rows that the zone had, and those that were put in
abbrev pub slots_of : List PlainRow → Draft → List PlainRow
slots_of base draft = base ++ draft.added

-- the rows without those that were taken out
abbrev pub rows_of : List PlainRow → Draft → List PlainRow
rows_of base draft = live_from (mark_of draft.marks) 0 (slots_of base draft)

abbrev pub IsDraft : List PlainRow → Draft → Type 0
IsDraft base draft = AreMarks (mark_of draft.marks) (slots_of base draft) draft.live

-- the rows without one
abbrev pub one_deleted : ℕ → ℕ → List PlainRow → PlainRow → Result (List PlainRow) ApplyFault
one_deleted step number rows row =
    if has_row rows row then Ok (without_row rows row) else Err (DeleteAbsent step number)

-- the rows with one more
abbrev pub one_added : ℕ → ℕ → ℕ → List PlainRow → PlainRow → Result (List PlainRow) ApplyFault
one_added bound step number rows row =
    if has_row rows row then Err (AddPresent step number)
    else if nat_lt (length rows + 1) bound then Ok (rows ++ row ∷ []) else Err (TooManyRows bound)

-- the rows after a step of this number that takes out and puts in these
abbrev pub step_outcome : ℕ → ℕ → List PlainRow → List PlainRow → List PlainRow →
    Result (List PlainRow) ApplyFault
step_outcome bound number rows deleted added =
    without_deleted number 1 rows deleted >>= (λ kept. with_added bound number 1 kept added)

-- the draft is one of these rows, with marks of the same keys
pub record IsNext (base : List PlainRow) (old new : Draft)
    (outcome : Result (List PlainRow) ApplyFault) : Type 0 where
  pub rows : outcome ≡ Ok (rows_of base new)
  pub is_draft : IsDraft base new
  pub names : SameNames (mark_of old.marks) (mark_of new.marks)

-- what a function returned and left is this, unless memory ran out
abbrev pub Leaves : {X : Type 0} → Result X ApplyError → List PlainRow → Draft → Draft →
    Result (List PlainRow) ApplyFault → Type 0
Leaves (Ok x) base old new outcome = IsNext base old new outcome
Leaves (Err error) base old new outcome = Fails error outcome
