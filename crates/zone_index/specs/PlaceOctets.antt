-- The octets of places, by which rows are put in order: those of two places are the same only where the places are.
use Rattle.std.specs.Prelude.{ℕ, ◌/◌, ◌%◌, ◌^◌, ◌<◌, Bool, cond, List, [], ◌∷◌, ◌++◌}
use Rattle.std.specs.Int.{to_be_bytes, w64}
use Rattle.dns_name.specs.Alike.{PlainPattern}
use Rattle.ip_prefix.specs.Prefix.{PlainPrefix, family, number_of}
use Rattle.qname_index.specs.Key.{name_key}
use Rattle.zone_index.specs.declared.place.Place.{Place}
use Rattle.zone_index.specs.declared.place.Place.TheVariants.{Rule, Other}
use Rattle.trigger_codec.specs.declared.trigger.Trigger.{Trigger}
use Rattle.trigger_codec.specs.declared.trigger.Trigger.TheVariants.{ClientIp, Qname, ResponseIp, NsDname, NsIp}

-- whether a pattern is wild, as an octet
abbrev pub flag : Bool → ℕ
flag wild = cond wild 1 0

-- the key of the base, and whether the pattern is wild: an exact pattern comes before the wild one of the same base,
-- and both before all patterns of bases below it
abbrev pub pattern_octets : PlainPattern → List ℕ
pattern_octets p = name_key p.base ++ flag p.wild ∷ []

-- a number of 128 bits, its high half first
abbrev pub number_octets : ℕ → List ℕ
number_octets number = to_be_bytes w64 (number / 2 ^ 64) ++ to_be_bytes w64 (number % 2 ^ 64)

-- the family, the length, and the address as a number
abbrev pub prefix_octets : PlainPrefix → List ℕ
prefix_octets p = family p.addr ∷ p.length ∷ number_octets (number_of p.addr)

-- the kind of the trigger, and the octets of its prefix or pattern
abbrev pub trigger_octets : Trigger → List ℕ
trigger_octets (ClientIp p) = 0 ∷ prefix_octets p
trigger_octets (Qname p) = 1 ∷ pattern_octets p
trigger_octets (ResponseIp p) = 2 ∷ prefix_octets p
trigger_octets (NsDname p) = 3 ∷ pattern_octets p
trigger_octets (NsIp p) = 4 ∷ prefix_octets p

-- the octets of the trigger, or those of the owner behind a kind of their own
abbrev pub place_octets : Place → List ℕ
place_octets (Rule t) = trigger_octets t
place_octets (Other p) = 5 ∷ pattern_octets p

-- the address of the trigger, if it has one, is of at most 128 bits
abbrev pub IsSizedTrigger : Trigger → Type 0
IsSizedTrigger (ClientIp p) = number_of p.addr < 2 ^ 128
IsSizedTrigger (Qname p) = Unit {0}
IsSizedTrigger (ResponseIp p) = number_of p.addr < 2 ^ 128
IsSizedTrigger (NsDname p) = Unit {0}
IsSizedTrigger (NsIp p) = number_of p.addr < 2 ^ 128

-- the same of a place
abbrev pub IsSized : Place → Type 0
IsSized (Rule t) = IsSizedTrigger t
IsSized (Other p) = Unit {0}
