-- Policy zones as words: `ZONE@PRIMARY` or `ZONE@PRIMARY=OVERRIDE`.
use Rattle.std.specs.Prelude.{◌≡◌, ℕ, ◌==◌, Bool, if◌then◌else◌, not, nat_lt, List, length, Option, Some, None, Result, Ok, Err, codes}
use Rattle.std.specs.List.{list_any, before_first, after_first}
use Rattle.std.specs.Option.{ok_or, option_map}
use Rattle.std.specs.Result.{result_ok}
use Rattle.std.specs.Str.{bytes_eq}
use Rattle.networks.specs.V6.{is_colon}
use Rattle.dns_name.specs.Labels.{Name}
use Rattle.dns_name.specs.Text.{text_name}
use Rattle.policy_override.specs.Override.{named_override}
use Rattle.policy_override.specs.declared.overrides.Override.{Override}
use Rattle.policy_override.specs.declared.overrides.Override.TheVariants.{Cname, Given}
use Rattle.zone_rows.specs.declared.zone.TheConstants.{ZONE_LIMIT}
use Rattle.rpz_words.specs.declared.usage_cause.UsageCause.{UsageCause}
use Rattle.rpz_words.specs.declared.usage_cause.UsageCause.TheVariants as cause
use Rattle.rpz_words.specs.declared.usage_cause.ZonesFault.TheVariants as zones
use Rattle.rpz_words.specs.declared.usage_cause.ZoneWordFault.{ZoneWordFault}
use Rattle.rpz_words.specs.declared.usage_cause.ZoneWordFault.TheVariants as zone
use Rattle.rpz_words.specs.declared.zone_words.ZoneWordError.{ZoneWordError}
use Rattle.rpz_words.specs.declared.zone_words.ZoneWordError.TheVariants as error
use Rattle.rpz_words.specs.declared.zones.ZoneSetting.{ZoneSetting}
use Rattle.rpz_words.specs.Endpoint.{endpoint_of}
use Rattle.rpz_words.specs.Lists.{each_of}
use Rattle.dns_name.specs.Reading.{◌>>=◌}
use Rattle.rpz_words.specs.Outcome.{cause_if, or_said}
use Rattle.rpz_words.specs.Zones.{has_repeated}

-- a name of letters, digits, `-`, `_` and `*`, with dots between its labels and one dot at its end or none
abbrev pub origin_of : List ℕ → Option Name
origin_of text = result_ok (text_name text)

-- `@`, which stands before a primary
abbrev pub is_at_sign : ℕ → Bool
is_at_sign b = b == 64

-- `=`, which stands before an override
abbrev pub is_equals_sign : ℕ → Bool
is_equals_sign b = b == 61

-- `cname` and the name of its target
abbrev pub cname_override : List ℕ → List ℕ → Option Override
cname_override word target =
    if bytes_eq word (codes "cname") then option_map Cname (origin_of target) else None

-- an override: `cname:TARGET`, split at the first colon, or a word
abbrev pub override_of : List ℕ → Option Override
override_of text =
    if list_any is_colon text
    then cname_override (before_first is_colon text) (after_first is_colon text)
    else named_override text

-- the override behind the first `=`; where none stands there, each rule does what the zone says
abbrev pub override_behind : List ℕ → Option Override
override_behind text =
    if list_any is_equals_sign text
    then override_of (after_first is_equals_sign text)
    else Some Given

-- a zone with its primary and its override, split at the first `@`, and at the first `=` behind it; or the first fault
unfoldable pub zone_setting_of : List ℕ → Result ZoneSetting ZoneWordFault
zone_setting_of text = do
  _ ← cause_if (not (list_any is_at_sign text)) zone.Form
  origin ← ok_or (origin_of (before_first is_at_sign text)) zone.Name
  primary ← or_said zone.Primary
      (endpoint_of (before_first is_equals_sign (after_first is_at_sign text)))
  over ← ok_or (override_behind (after_first is_at_sign text)) zone.Override
  Ok (record { origin = origin; primary = primary; over = over })

-- What a function returned is the zone that reading gives, and else its fault, unless memory ran out.
abbrev pub FailsZone : ZoneWordError → Result ZoneSetting ZoneWordFault → Type 0
FailsZone error.OutOfMemory read = Unit {0}
FailsZone (error.Fault why) read = read ≡ Err why

abbrev pub GivesZone : Result ZoneSetting ZoneWordError → Result ZoneSetting ZoneWordFault → Type 0
GivesZone (Ok setting) read = read ≡ Ok setting
GivesZone (Err e) read = FailsZone e read

-- what is wrong with the zone of this number
abbrev pub zone_fault : ℕ → ZoneWordFault → UsageCause
zone_fault number why = cause.Zone number why

-- the zones of a policy: 1 to 64, of distinct names
unfoldable pub zones_of : List (List ℕ) → Result (List ZoneSetting) UsageCause
zones_of texts = do
  _ ← cause_if (length texts == 0) cause.Words
  _ ← cause_if (nat_lt ZONE_LIMIT (length texts)) (cause.Zones zones.Many)
  settings ← each_of zone_setting_of zone_fault 1 texts
  _ ← cause_if (has_repeated settings) (cause.Zones zones.Repeated)
  Ok settings
