-- What a summary of one kind knows of all zones of a policy, and a policy in which one zone is another.
use Rattle.std.specs.Prelude.{◌≡◌, ◌≤◌, ℕ, ◌-◌, Bool, true, false, List, length, map, slice_set, is_some, Option, Some, None}
use Rattle.std.specs.Arc.{arc_value}
use Rattle.std.specs.BTreeMap.{is_at}
use Rattle.std.specs.List.{list_any}
use Rattle.std.specs.Map.{lookup}
use Rattle.dns_name.specs.Alike.{PlainPattern}
use Rattle.ip_prefix.specs.Prefix.{PlainPrefix, prefix_order}
use Rattle.qname_index.specs.Best.{pattern_order}
use Rattle.summary_index.specs.Knowing.{Knows}
use Rattle.summary_index.specs.Summary.{PlainSummary}
use Rattle.summary_index.specs.Zones.{has_zone}
use Rattle.trigger_codec.specs.Bases.{IsPattern, IsTrigger}
use Rattle.trigger_codec.specs.declared.trigger.Kind.{Kind}
use Rattle.trigger_codec.specs.declared.trigger.Kind.TheVariants as kinds
use Rattle.trigger_codec.specs.declared.trigger.Trigger.{Trigger}
use Rattle.trigger_codec.specs.declared.trigger.Trigger.TheVariants.{ClientIp, Qname, ResponseIp, NsDname, NsIp}
use Rattle.zone_index.specs.ActingEntries.{pattern_rules, prefix_rules}
use Rattle.zone_index.specs.Changes.{AreChanges}
use Rattle.zone_index.specs.Indexed.{content_rule}
use Rattle.zone_index.specs.Listed.{is_same}
use Rattle.zone_index.specs.declared.changes.Changes.{Changes}
use Rattle.zone_rows.specs.declared.zone.PlainZone.{PlainZone}
use Rattle.policy_snapshot.specs.Lookup.{has_kind_in}
use Rattle.policy_snapshot.specs.Policy.{PlainZones, zone_at}
use Rattle.policy_snapshot.specs.Summed.{AnyPrefix, content_entries}
use Rattle.policy_snapshot.specs.declared.new_zone.NewZone.{NewZone}
use Rattle.zone_rows.specs.declared.zone.TheConstants.{ZONE_LIMIT}

-- the policy before a zone is another, and behind it
abbrev pub zones_before : NewZone → PlainZones
zones_before next = map arc_value next.zones.now

abbrev pub zones_after : NewZone → PlainZones
zones_after next = slice_set (zones_before next) (next.number - 1) next.zone.now

-- a zone has this number, and there are at most 64
pub record IsThere (next : NewZone) : Type 0 where
  pub some : 1 ≤ next.number
  pub within : next.number ≤ length (zones_before next)
  pub limit : length (zones_before next) ≤ ZONE_LIMIT

-- where these may have changed, the rules of the zone at all other triggers are as before
pub record AreChangesAt (next : NewZone) (changes : Changes) : Type 0 where
  pub each : (old : PlainZone) → zone_at (zones_before next) next.number ≡ Some old →
      AreChanges old next.zone.now changes

-- the rules of the zone at all triggers but these are as before
pub record AreSameElsewhere (next : NewZone) (triggers : List Trigger) : Type 0 where
  pub each : (old : PlainZone) → zone_at (zones_before next) next.number ≡ Some old →
      (t : Trigger) → IsTrigger t → list_any (is_same t) triggers ≡ false →
      content_rule next.zone.now.origin next.zone.now.content t ≡ content_rule old.origin old.content t

-- these zones, of those of the policy, have rules of the kind
pub record ZonesHave (kind : Kind) (zones : PlainZones) (having : ℕ) : Type 0 where
  pub each : (n : ℕ) (zone : PlainZone) → 1 ≤ n → n ≤ ZONE_LIMIT → zone_at zones n ≡ Some zone →
      has_zone having n ≡ has_kind_in kind zone.origin zone.content

-- Triggers of the kind are patterns; they are prefixes.
abbrev pub is_of_patterns : Kind → Bool
is_of_patterns kinds.ClientIp = false
is_of_patterns kinds.Qname = true
is_of_patterns kinds.ResponseIp = false
is_of_patterns kinds.NsDname = true
is_of_patterns kinds.NsIp = false

-- A summary of a kind of patterns knows the rules of each zone of the policy, whose number is from 1 to 64.
pub record KnowsPatterns (kind : Kind) (zones : PlainZones) (s : PlainSummary PlainPattern) : Type 0 where
  pub each : (n : ℕ) (zone : PlainZone) → 1 ≤ n → n ≤ ZONE_LIMIT → zone_at zones n ≡ Some zone →
      Knows pattern_order IsPattern n (pattern_rules (content_entries zone.origin zone.content) kind) s

-- The same of a kind of prefixes.
pub record KnowsPrefixes (kind : Kind) (zones : PlainZones) (s : PlainSummary PlainPrefix) : Type 0 where
  pub each : (n : ℕ) (zone : PlainZone) → 1 ≤ n → n ≤ ZONE_LIMIT → zone_at zones n ≡ Some zone →
      Knows prefix_order AnyPrefix n (prefix_rules (content_entries zone.origin zone.content) kind) s

-- the zone has a rule of this kind at the pattern, or the prefix
abbrev pub has_pattern : Kind → PlainZone → PlainPattern → Bool
has_pattern kind zone pattern =
    is_some (lookup (is_at (pattern_order pattern)) (pattern_rules (content_entries zone.origin zone.content) kind))

abbrev pub has_prefix : Kind → PlainZone → PlainPrefix → Bool
has_prefix kind zone prefix =
    is_some (lookup (is_at (prefix_order prefix)) (prefix_rules (content_entries zone.origin zone.content) kind))

-- the trigger of a kind of patterns that has this pattern; that of a kind of prefixes that has this prefix
abbrev pub pattern_trigger : Kind → PlainPattern → Trigger
pattern_trigger kinds.ClientIp pattern = Qname pattern
pattern_trigger kinds.Qname pattern = Qname pattern
pattern_trigger kinds.ResponseIp pattern = Qname pattern
pattern_trigger kinds.NsDname pattern = NsDname pattern
pattern_trigger kinds.NsIp pattern = NsDname pattern

abbrev pub prefix_trigger : Kind → PlainPrefix → Trigger
prefix_trigger kinds.ClientIp prefix = ClientIp prefix
prefix_trigger kinds.Qname prefix = ClientIp prefix
prefix_trigger kinds.ResponseIp prefix = ResponseIp prefix
prefix_trigger kinds.NsDname prefix = NsIp prefix
prefix_trigger kinds.NsIp prefix = NsIp prefix

-- the pattern, or the prefix, of a trigger of the kind
abbrev pub pattern_of_kind : Kind → Trigger → Option PlainPattern
pattern_of_kind kinds.Qname (Qname pattern) = Some pattern
pattern_of_kind kinds.NsDname (NsDname pattern) = Some pattern
pattern_of_kind kind trigger = None

abbrev pub prefix_of_kind : Kind → Trigger → Option PlainPrefix
prefix_of_kind kinds.ClientIp (ClientIp prefix) = Some prefix
prefix_of_kind kinds.ResponseIp (ResponseIp prefix) = Some prefix
prefix_of_kind kinds.NsIp (NsIp prefix) = Some prefix
prefix_of_kind kind trigger = None
