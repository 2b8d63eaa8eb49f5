-- The zones that the lines of a script open before its first event.
use Rattle.std.specs.Prelude.{ℕ, ◌-◌, List, [], ◌∷◌, ◌++◌, Option, Some, None, slice_set}
use Rattle.ip_prefix.specs.declared.Addr.{Addr}
use Rattle.ip_prefix.specs.Prefix.{PlainPrefix}
use Rattle.policy_override.specs.declared.zone_set.ZoneSet.{ZoneSet}

-- the zones in order, zone 1 first, the primary of each, where it has one, and the networks whose clients may ask
pub record OpenZones : Type 0 where
  pub settings : List ZoneSet
  pub primaries : List (Option Addr)
  pub allowed : List PlainPrefix

abbrev pub no_zones : OpenZones
no_zones = record { settings = []; primaries = []; allowed = [] }

-- one more zone, which has no primary yet
abbrev pub with_open_zone : OpenZones → ZoneSet → OpenZones
with_open_zone zones zone =
    record {
      settings = zones.settings ++ zone ∷ [];
      primaries = zones.primaries ++ None ∷ [];
      allowed = zones.allowed;
    }

-- the zone of this number has this primary
abbrev pub with_primary : OpenZones → ℕ → Addr → OpenZones
with_primary zones number address =
    record {
      settings = zones.settings;
      primaries = slice_set zones.primaries (number - 1) (Some address);
      allowed = zones.allowed;
    }

-- the clients of this network may ask, beside those of the networks before it
abbrev pub with_network : OpenZones → PlainPrefix → OpenZones
with_network zones network =
    record {
      settings = zones.settings;
      primaries = zones.primaries;
      allowed = zones.allowed ++ network ∷ [];
    }
