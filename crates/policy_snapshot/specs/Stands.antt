-- What a snapshot stands for: the policy after a list of accepted transfers.
use Rattle.std.specs.Prelude.{◌≡◌, ℕ, ◌+◌, ◌-◌, ◌^◌, nat_lt, if◌then◌else◌, List, length, map, Result, Ok, Err, slice_set}
use Rattle.std.specs.List.{AllByRecursion}
use Rattle.dns_name.specs.Labels.{Name}
use Rattle.policy_override.specs.declared.overrides.Override.{Override}
use Rattle.policy_override.specs.declared.zone_set.ZoneSet.{ZoneSet}
use Rattle.policy_override.specs.ZoneSet.{origins_in, overrides_in}
use Rattle.zone_rows.specs.declared.fault.ApplyFault.{ApplyFault}
use Rattle.zone_rows.specs.declared.zone.PlainZone.{PlainZone}
use Rattle.zone_rows.specs.Content.{unloaded}
use Rattle.zone_index.specs.Indexed.{HasRows}
use Rattle.policy_snapshot.specs.declared.entry.Entry.{Entry}
use Rattle.policy_snapshot.specs.Policy.{AreAccepted, PlainPolicy, PlainZones, zones_behind}

-- the zones of a snapshot and the overrides of each, and how many transfers the zones have accepted
pub record PlainSnapshot : Type 0 where
  pub zones : PlainZones
  pub overrides : List Override
  pub accepted : ℕ

-- the policy of a snapshot
abbrev pub policy_in : PlainSnapshot → PlainPolicy
policy_in s = record { zones = s.zones; overrides = s.overrides }

-- the count after one more, which stands still at its last value
abbrev pub next_count : ℕ → ℕ
next_count count = if nat_lt count (2 ^ 64 - 1) then count + 1 else count

-- the count of a list
abbrev pub count_of : ℕ → ℕ
count_of length = if nat_lt length (2 ^ 64 - 1) then length else 2 ^ 64 - 1

abbrev pub origins_of : PlainZones → List Name
origins_of zones = map (λ (zone : PlainZone). zone.origin) zones

-- zones of these origins under these overrides, with nothing loaded
abbrev pub new_snapshot : List ZoneSet → PlainSnapshot
new_snapshot settings =
    record {
      zones = map unloaded (origins_in settings);
      overrides = overrides_in settings;
      accepted = 0;
    }

-- The snapshot's zones are those after the accepted transfers of the list, and its count is that of the list.
pub record Stands (snapshot : PlainSnapshot) (entries : List Entry) : Type 0 where
  pub zones : snapshot.zones ≡ zones_behind (origins_of snapshot.zones) entries
  pub accepted : snapshot.accepted ≡ count_of (length entries)

-- The snapshot is the policy of these settings after a list of accepted transfers.
pub record StandsFor (settings : List ZoneSet) (snapshot : PlainSnapshot)
    (entries : List Entry) : Type 0 where
  pub origins_are : origins_of snapshot.zones ≡ origins_in settings
  pub overrides_are : snapshot.overrides ≡ overrides_in settings
  pub stands : Stands snapshot entries
  pub accepted : AreAccepted (origins_in settings) entries

-- The snapshot with this zone at the place of a number, one transfer more accepted; or the fault.
abbrev pub with_zone : PlainSnapshot → ℕ → Result PlainZone ApplyFault →
    Result PlainSnapshot ApplyFault
with_zone snapshot number (Ok zone) =
    Ok (record {
      zones = slice_set snapshot.zones (number - 1) zone;
      overrides = snapshot.overrides;
      accepted = next_count snapshot.accepted;
    })
with_zone snapshot number (Err fault) = Err fault

-- the rows of each zone are rows
abbrev pub HaveRows : List PlainZone → Type 0
HaveRows zones = AllByRecursion (λ (zone : PlainZone). HasRows zone.content) zones
