-- Policies as plain zones under the operator's overrides, apart from any index, and what transfers do to them.
use Rattle.std.specs.Prelude.{◌≡◌, ℕ, ◌-◌, ◌==◌, if◌then◌else◌, ⊤, List, [], ◌∷◌, map, fold, Option, Some, None, Result, Ok, Err, slice_get, slice_set}
use Rattle.dns_name.specs.Labels.{Name}
use Rattle.policy_override.specs.declared.overrides.Override.{Override}
use Rattle.policy_override.specs.declared.zone_set.ZoneSet.{ZoneSet}
use Rattle.policy_override.specs.ZoneSet.{origins_in, overrides_in}
use Rattle.zone_rows.specs.declared.fault.ApplyFault.{ApplyFault}
use Rattle.zone_rows.specs.declared.transfer.Transfer.{Transfer}
use Rattle.zone_rows.specs.declared.zone.PlainZone.{PlainZone}
use Rattle.zone_rows.specs.Content.{unloaded}
use Rattle.zone_rows.specs.Zone.{apply_outcome}
use Rattle.policy_snapshot.specs.declared.entry.Entry.{Entry}

-- the zones of a policy in order, the first of them zone 1
abbrev pub PlainZones : Type 0
PlainZones = List PlainZone

-- A policy: its zones in order, and the operator's override of each.
pub record PlainPolicy : Type 0 where
  pub zones : PlainZones
  pub overrides : List Override

-- The zone of a number, of which 1 is the first.
abbrev pub zone_at : PlainZones → ℕ → Option PlainZone
zone_at zones number = if number == 0 then None else slice_get zones (number - 1)

abbrev pub zone_by : PlainZone → Result PlainZone ApplyFault → PlainZone
zone_by zone (Ok next) = next
zone_by zone (Err fault) = zone

-- the zone after a transfer: as it was where it can't take it
abbrev pub zone_after : PlainZone → Transfer → PlainZone
zone_after zone transfer = zone_by zone (apply_outcome zone transfer)

abbrev pub with_zone_after : PlainZones → Entry → Option PlainZone → PlainZones
with_zone_after zones entry None = zones
with_zone_after zones entry (Some zone) =
    slice_set zones (entry.zone - 1) (zone_after zone entry.transfer)

-- the zones after one more transfer, which changes its zone alone
abbrev pub zones_with : PlainZones → Entry → PlainZones
zones_with zones entry = with_zone_after zones entry (zone_at zones entry.zone)

-- the zones after a list of accepted transfers, each taken as a whole, from zones of these origins with nothing loaded
unfoldable pub zones_behind : List Name → List Entry → PlainZones
zones_behind origins entries = fold zones_with (map unloaded origins) entries

-- The policy of these settings after a list of accepted transfers, each taken as a whole: no transfer changes an override.
abbrev pub policy_after : List ZoneSet → List Entry → PlainPolicy
policy_after settings entries =
    record {
      zones = zones_behind (origins_in settings) entries;
      overrides = overrides_in settings;
    }

-- the zone of a number is there, and takes the transfer
abbrev pub TakesTransfer : Option PlainZone → Transfer → Type 0
TakesTransfer None transfer = ⊥
TakesTransfer (Some zone) transfer = (next : PlainZone) × (apply_outcome zone transfer ≡ Ok next)

-- each transfer of the list is taken by its zone, as the ones before it left the zones
abbrev pub AreTaken : PlainZones → List Entry → Type 0
AreTaken zones [] = ⊤
AreTaken zones (entry ∷ entries) =
    TakesTransfer (zone_at zones entry.zone) entry.transfer
    × AreTaken (zones_with zones entry) entries

-- Each transfer of the list was accepted, one after another, by zones of these origins that began with nothing loaded.
abbrev pub AreAccepted : List Name → List Entry → Type 0
AreAccepted origins entries = AreTaken (map unloaded origins) entries
