-- The policy zones of a server.
use Rattle.std.specs.Prelude.{◌≢◌, ◌||◌, Bool, false, List, [], ◌∷◌, map, AllPairs}
use Rattle.std.specs.List.{list_any}
use Rattle.dns_name.specs.Alike.{same_name}
use Rattle.dns_name.specs.Labels.{lowered, Name}
use Rattle.policy_override.specs.declared.zone_set.ZoneSet.{ZoneSet}
use Rattle.rpz_words.specs.declared.zones.ZoneSetting.{ZoneSetting}

-- the zones with what is set over their rules, in order
abbrev pub zone_sets : List ZoneSetting → List ZoneSet
zone_sets zones =
    map (λ (zone : ZoneSetting). record { origin = zone.origin; over = zone.over }) zones

-- a zone has this name; ASCII letters compare without case (RFC 1035, section 2.3.3)
abbrev pub has_origin : Name → List ZoneSetting → Bool
has_origin name zones = list_any (λ zone. same_name name zone.origin) zones

-- two zones have one name
abbrev pub has_repeated : List ZoneSetting → Bool
has_repeated [] = false
has_repeated (zone ∷ zones) = has_origin zone.origin zones || has_repeated zones

-- no two names are equal in lower case
abbrev pub HasDistinctOrigins : List ZoneSetting → Type 0
HasDistinctOrigins zones = AllPairs (λ zone other. lowered zone.origin ≢ lowered other.origin) zones
