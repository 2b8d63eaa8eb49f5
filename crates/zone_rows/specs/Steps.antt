-- An incremental transfer: steps from one version of a zone to the next (RFC 1995, section 4).
use Rattle.std.specs.Prelude.{◌≡◌, ℕ, ◌+◌, ◌==◌, nat_lt, Bool, true, not, if◌then◌else◌, List, [], ◌∷◌, ◌++◌, length, filter, Option, Some, None, Result, Ok, Err}
use Rattle.std.specs.Str.{bytes_eq}
use Rattle.dns_name.specs.Reading.{◌>>=◌}
use Rattle.dns_record.specs.declared.soa.Soa.{Soa}
use Rattle.dns_record.specs.Row.{PlainRow, identity}
use Rattle.dns_record.specs.Serial.{is_newer}
use Rattle.zone_rows.specs.declared.fault.ApplyFault.{ApplyFault}
use Rattle.zone_rows.specs.declared.fault.ApplyFault.TheVariants.{Gap, DeleteAbsent, AddPresent, TooManyRows}
use Rattle.zone_rows.specs.declared.steps.Step.{Step}
use Rattle.zone_rows.specs.declared.zone.Content.{Content}
use Rattle.zone_rows.specs.Repeats.{has_row}

-- A step of an incremental transfer (RFC 1995, section 4). It has the SOA of the version that it begins with, the rows that it
-- takes out, the SOA of the version that it makes, and the rows that it puts in.
abbrev pub PlainStep : Type 0
PlainStep = Step

-- a step begins where the one before it ended
abbrev pub BeginsAt : Option Soa → PlainStep → Type 0
BeginsAt None step = Unit {0}
BeginsAt (Some soa) step = step.old.serial ≡ soa.serial

-- each step goes forward (RFC 1982, section 3.2), and begins where the one before it ended
abbrev pub AreStepsFrom : Option Soa → List PlainStep → Type 0
AreStepsFrom before [] = Unit {0}
AreStepsFrom before (step ∷ steps) =
    BeginsAt before step × (is_newer step.old.serial step.new.serial ≡ true)
    × AreStepsFrom (Some step.new) steps

abbrev pub AreSteps : List PlainStep → Type 0
AreSteps steps = AreStepsFrom None steps

-- the steps, if there are any, end at the version of this serial
abbrev pub ends_at : List PlainStep → ℕ → Bool
ends_at [] serial = true
ends_at (step ∷ []) serial = step.new.serial == serial
ends_at (step ∷ next ∷ steps) serial = ends_at (next ∷ steps) serial

-- the rows without the one of this owner, type and data
abbrev pub without_row : List PlainRow → PlainRow → List PlainRow
without_row rows row = filter (λ other. not (bytes_eq (identity row) (identity other))) rows

-- the rows without those that a step takes out, one after another; or the first that isn't there. Steps and rows are numbered
-- from 1 on.
abbrev pub without_deleted : ℕ → ℕ → List PlainRow → List PlainRow →
    Result (List PlainRow) ApplyFault
without_deleted step number rows [] = Ok rows
without_deleted step number rows (row ∷ others) =
    if has_row rows row then without_deleted step (number + 1) (without_row rows row) others
    else Err (DeleteAbsent step number)

-- the rows with those that a step puts in at their end, one after another; or the first that is there already, or with which
-- there are as many as the bound
abbrev pub with_added : ℕ → ℕ → ℕ → List PlainRow → List PlainRow →
    Result (List PlainRow) ApplyFault
with_added bound step number rows [] = Ok rows
with_added bound step number rows (row ∷ others) =
    if has_row rows row then Err (AddPresent step number)
    else if nat_lt (length rows + 1) bound
    then with_added bound step (number + 1) (rows ++ row ∷ []) others else Err (TooManyRows bound)

-- the rows after a step of this number
abbrev pub rows_after_step : ℕ → ℕ → List PlainRow → PlainStep → Result (List PlainRow) ApplyFault
rows_after_step bound number rows step =
    without_deleted number 1 rows step.deleted
    >>= (λ kept. with_added bound number 1 kept step.added)

-- what a zone holds after steps that are numbered from this number on
abbrev pub after_steps : ℕ → ℕ → Soa → List PlainRow → List PlainStep → Result Content ApplyFault
after_steps bound number soa rows [] = Ok (record { soa = soa; rows = rows })
after_steps bound number soa rows (step ∷ steps) =
    rows_after_step bound number rows step
    >>= (λ after. after_steps bound (number + 1) step.new after steps)

-- the serial of the version that the steps begin with, 0 where there are none
abbrev pub first_serial : List PlainStep → ℕ → ℕ
first_serial [] none = none
first_serial (step ∷ steps) none = step.old.serial

-- What a zone holds after an incremental transfer, if it begins at the version that the zone holds; or the first fault. A zone
-- with nothing loaded takes none, and nor does any zone take one without a step.
abbrev pub steps_outcome : ℕ → Option Content → List PlainStep → Result Content ApplyFault
steps_outcome bound None steps = Err (Gap 0 (first_serial steps 0))
steps_outcome bound (Some content) [] = Err (Gap content.soa.serial content.soa.serial)
steps_outcome bound (Some content) (step ∷ steps) =
    if step.old.serial == content.soa.serial
    then after_steps bound 1 content.soa content.rows (step ∷ steps)
    else Err (Gap content.soa.serial step.old.serial)
