-- What a zone holds, and a zone that holds nothing yet.
use Rattle.std.specs.Prelude.{ℕ, length, Option, Some, None}
use Rattle.dns_name.specs.Labels.{Name}
use Rattle.zone_rows.specs.declared.zone.Content.{Content}
use Rattle.zone_rows.specs.declared.zone.PlainZone.{PlainZone}

-- a zone of this origin with nothing loaded
abbrev pub unloaded : Name → PlainZone
unloaded origin = record { origin = origin; content = None }

-- The serial of what a zone holds, if anything is loaded.
abbrev pub content_serial : Option Content → Option ℕ
content_serial None = None
content_serial (Some content) = Some content.soa.serial

abbrev pub content_count : Option Content → Option ℕ
content_count None = None
content_count (Some content) = Some (length content.rows)
