-- Parts of what a zone is after a transfer, for its proof.
use Rattle.std.specs.Prelude.{ℕ, List, Option, Result, Ok}
use Rattle.dns_name.specs.Reading.{◌>>=◌}
use Rattle.dns_record.specs.declared.soa.Soa.{Soa}
use Rattle.dns_record.specs.Row.{PlainRow}
use Rattle.zone_rows.specs.declared.fault.ApplyFault.{ApplyFault}
use Rattle.zone_rows.specs.declared.zone.Content.{Content}
use Rattle.zone_rows.specs.Repeats.{without_repeats}
use Rattle.zone_rows.specs.Zone.{newer_soa, fewer_rows}

-- what a zone holds after a whole transfer
abbrev pub whole_outcome : ℕ → Option Content → Soa → List PlainRow → Result Content ApplyFault
whole_outcome bound content soa rows = do
  newer ← newer_soa content soa
  kept ← fewer_rows bound (without_repeats rows)
  Ok (record { soa = newer; rows = kept })
