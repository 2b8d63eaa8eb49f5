-- What a zone is after a transfer.
use Rattle.std.specs.Prelude.{◌≡◌, ℕ, nat_lt, if◌then◌else◌, List, length, Option, Some, None, Result, Ok, Err}
use Rattle.dns_name.specs.Reading.{◌>>=◌}
use Rattle.dns_record.specs.declared.soa.Soa.{Soa}
use Rattle.dns_record.specs.Serial.{is_newer}
use Rattle.zone_rows.specs.declared.fault.ApplyFault.{ApplyFault}
use Rattle.zone_rows.specs.declared.fault.ApplyFault.TheVariants.{SerialNotNewer, TooManyRows}
use Rattle.zone_rows.specs.declared.fault.ApplyError.{ApplyError}
use Rattle.zone_rows.specs.declared.fault.ApplyError.TheVariants as errors
use Rattle.zone_rows.specs.declared.transfer.Transfer.{Transfer}
use Rattle.zone_rows.specs.declared.transfer.Transfer.TheVariants.{Whole, Steps}
use Rattle.zone_rows.specs.declared.zone.Content.{Content}
use Rattle.zone_rows.specs.declared.zone.PlainZone.{PlainZone}
use Rattle.zone_rows.specs.declared.zone.TheConstants.{ROW_LIMIT}
use Rattle.zone_rows.specs.Repeats.{without_repeats}
use Rattle.zone_rows.specs.Steps.{steps_outcome}
use Rattle.dns_record.specs.Row.{PlainRow}

-- the SOA of a transfer, which is to be newer than that of what is loaded (RFC 1982, section 3.2)
abbrev pub newer_soa : Option Content → Soa → Result Soa ApplyFault
newer_soa None soa = Ok soa
newer_soa (Some content) soa =
    if is_newer content.soa.serial soa.serial then Ok soa
    else Err (SerialNotNewer content.soa.serial soa.serial)

-- fewer rows than so many
abbrev pub fewer_rows : ℕ → List PlainRow → Result (List PlainRow) ApplyFault
fewer_rows bound rows = if nat_lt (length rows) bound then Ok rows else Err (TooManyRows bound)

-- the zone after a transfer, where it may have fewer rows than the bound, or the first fault
unfoldable pub apply_outcome_within : ℕ → PlainZone → Transfer → Result PlainZone ApplyFault
apply_outcome_within bound zone (Whole soa rows) = do
  newer ← newer_soa zone.content soa
  kept ← fewer_rows bound (without_repeats rows)
  Ok (record { origin = zone.origin; content = Some (record { soa = newer; rows = kept }) })
apply_outcome_within bound zone (Steps steps) = do
  content ← steps_outcome bound zone.content steps
  Ok (record { origin = zone.origin; content = Some content })

-- the zone after a transfer, where it may have fewer rows than the limit, or the first fault
abbrev pub apply_outcome : PlainZone → Transfer → Result PlainZone ApplyFault
apply_outcome zone transfer = apply_outcome_within ROW_LIMIT zone transfer

-- A function failed with this fault, or memory ran out.
abbrev pub Fails : {X : Type 0} → ApplyError → Result X ApplyFault → Type 0
Fails errors.OutOfMemory outcome = Unit {0}
Fails (errors.Fault f) outcome = outcome ≡ Err f

abbrev pub Gives : {X : Type 0} → Result X ApplyError → Result X ApplyFault → Type 0
Gives (Ok x) outcome = outcome ≡ Ok x
Gives (Err e) outcome = Fails e outcome
