-- Policy zones as an operator sets them: each with its origin, and with what is set over its rules.
use Rattle.std.specs.Prelude.{Bool, List, map}
use Rattle.std.specs.List.{list_any}
use Rattle.dns_name.specs.Alike.{same_name}
use Rattle.dns_name.specs.Labels.{Name}
use Rattle.policy_override.specs.declared.overrides.Override.{Override}
use Rattle.policy_override.specs.declared.overrides.Override.TheVariants.{Given}
use Rattle.policy_override.specs.declared.zone_set.ZoneSet.{ZoneSet}

-- the origins of the zones, in order
abbrev pub origins_in : List ZoneSet → List Name
origins_in zones = map (λ (zone : ZoneSet). zone.origin) zones

-- their overrides, in order
abbrev pub overrides_in : List ZoneSet → List Override
overrides_in zones = map (λ (zone : ZoneSet). zone.over) zones

-- a zone of this origin, each rule of which does what the zone says
abbrev pub given_zone : Name → ZoneSet
given_zone origin = record { origin = origin; over = Given }

-- Zones of these origins, in order, each under the override `given`.
abbrev pub given_zones : List Name → List ZoneSet
given_zones origins = map given_zone origins

-- one of the origins is this name; ASCII letters compare without case (RFC 1035, section 2.3.3)
abbrev pub has_zone_name : List Name → Name → Bool
has_zone_name origins name = list_any (λ other. same_name other name) origins
