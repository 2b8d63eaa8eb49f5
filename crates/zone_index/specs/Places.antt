-- What stands at the places of a zone, and what look-ups find.
use Rattle.std.specs.Prelude.{◌&&◌, Bool, List, [], Option}
use Rattle.std.specs.BTreeMap.{insert_entry, is_at}
use Rattle.std.specs.List.{AllByRecursion, find, list_any}
use Rattle.std.specs.List.Sorted.{IsStrictlySortedBy}
use Rattle.std.specs.Map.{keys_of, lookup, remove_entry}
use Rattle.dns_name.specs.Alike.{PlainPattern, matches}
use Rattle.dns_name.specs.Labels.{Name}
use Rattle.ip_prefix.specs.declared.Addr.{Addr}
use Rattle.ip_prefix.specs.Prefix.{PlainPrefix, contains, prefix_order}
use Rattle.qname_index.specs.Best.{pattern_order}
use Rattle.trigger_codec.specs.Bases.{IsPattern}
use Rattle.trigger_codec.specs.declared.trigger.Kind.{Kind}
use Rattle.trigger_codec.specs.declared.trigger.Kind.TheVariants as kinds
use Rattle.trigger_codec.specs.declared.trigger.Trigger.{Trigger}
use Rattle.trigger_codec.specs.declared.trigger.Trigger.TheVariants.{ClientIp, Qname, ResponseIp, NsDname, NsIp}
use Rattle.zone_index.specs.Does.{acts}
use Rattle.zone_index.specs.Entry.{PlainEntry}
use Rattle.trigger_codec.specs.declared.by_kind.ByKind.{ByKind}
use Rattle.zone_index.specs.declared.place.Place.{Place}
use Rattle.zone_index.specs.declared.place.Place.TheVariants.{Rule, Other}
use Rattle.zone_index.specs.declared.places.Places.{Places}

-- values by trigger: for each kind of trigger in order of precedence
abbrev pub RulesOf : Type 0 → Type 0
RulesOf V = ByKind (List (PlainPrefix × V)) (List (PlainPattern × V))

-- values by place: by trigger, and by owner for the rows that make no rule
abbrev pub PlacesOf : Type 0 → Type 0
PlacesOf V = Places (List (PlainPrefix × V)) (List (PlainPattern × V))

-- what stands at the places of a zone
abbrev pub PlainPlaces : Type 0
PlainPlaces = PlacesOf PlainEntry

module _ {V : Type 0} where
  -- nothing at any place
  abbrev pub nothing_at : PlacesOf V
  nothing_at = record {
    rules = record { client_ip = []; qname = []; response_ip = []; nsdname = []; nsip = [] };
    other = [];
  }

  abbrev pub rule_at : RulesOf V → Trigger → Option V
  rule_at rules (ClientIp prefix) = lookup (is_at (prefix_order prefix)) rules.client_ip
  rule_at rules (Qname pattern) = lookup (is_at (pattern_order pattern)) rules.qname
  rule_at rules (ResponseIp prefix) = lookup (is_at (prefix_order prefix)) rules.response_ip
  rule_at rules (NsDname pattern) = lookup (is_at (pattern_order pattern)) rules.nsdname
  rule_at rules (NsIp prefix) = lookup (is_at (prefix_order prefix)) rules.nsip

  -- what stands at the place
  abbrev pub entry_at : PlacesOf V → Place → Option V
  entry_at places (Rule trigger) = rule_at places.rules trigger
  entry_at places (Other pattern) = lookup (is_at (pattern_order pattern)) places.other

  abbrev pub with_rule : RulesOf V → Trigger → V → RulesOf V
  with_rule rules (ClientIp prefix) entry = record rules { client_ip = insert_entry prefix_order rules.client_ip prefix entry }
  with_rule rules (Qname pattern) entry = record rules { qname = insert_entry pattern_order rules.qname pattern entry }
  with_rule rules (ResponseIp prefix) entry = record rules { response_ip = insert_entry prefix_order rules.response_ip prefix entry }
  with_rule rules (NsDname pattern) entry = record rules { nsdname = insert_entry pattern_order rules.nsdname pattern entry }
  with_rule rules (NsIp prefix) entry = record rules { nsip = insert_entry prefix_order rules.nsip prefix entry }

  -- with this at the place
  abbrev pub with_entry : PlacesOf V → Place → V → PlacesOf V
  with_entry places (Rule trigger) entry = record places { rules = with_rule places.rules trigger entry }
  with_entry places (Other pattern) entry = record places { other = insert_entry pattern_order places.other pattern entry }

  abbrev pub without_rule : RulesOf V → Trigger → RulesOf V
  without_rule rules (ClientIp prefix) = record rules { client_ip = remove_entry (is_at (prefix_order prefix)) rules.client_ip }
  without_rule rules (Qname pattern) = record rules { qname = remove_entry (is_at (pattern_order pattern)) rules.qname }
  without_rule rules (ResponseIp prefix) = record rules { response_ip = remove_entry (is_at (prefix_order prefix)) rules.response_ip }
  without_rule rules (NsDname pattern) = record rules { nsdname = remove_entry (is_at (pattern_order pattern)) rules.nsdname }
  without_rule rules (NsIp prefix) = record rules { nsip = remove_entry (is_at (prefix_order prefix)) rules.nsip }

  -- without what stands at the place
  abbrev pub without_entry : PlacesOf V → Place → PlacesOf V
  without_entry places (Rule trigger) = record places { rules = without_rule places.rules trigger }
  without_entry places (Other pattern) = record places { other = remove_entry (is_at (pattern_order pattern)) places.other }

  -- keys in order of precedence, each once
  pub record AreRanked (places : PlacesOf V) : Type 0 where
    pub client_ip : IsStrictlySortedBy prefix_order (keys_of places.rules.client_ip)
    pub qname : IsStrictlySortedBy pattern_order (keys_of places.rules.qname)
    pub response_ip : IsStrictlySortedBy prefix_order (keys_of places.rules.response_ip)
    pub nsdname : IsStrictlySortedBy pattern_order (keys_of places.rules.nsdname)
    pub nsip : IsStrictlySortedBy prefix_order (keys_of places.rules.nsip)
    pub other : IsStrictlySortedBy pattern_order (keys_of places.other)

  -- patterns of names in lower case
  pub record AreLower (places : PlacesOf V) : Type 0 where
    pub qname : AllByRecursion IsPattern (keys_of places.rules.qname)
    pub nsdname : AllByRecursion IsPattern (keys_of places.rules.nsdname)
    pub other : AllByRecursion IsPattern (keys_of places.other)

abbrev pub no_places : PlainPlaces
no_places = nothing_at

-- the entry that comes first of those that act and whose prefix contains the address, as a scan over all finds it
abbrev pub longest_rule : Addr → List (PlainPrefix × PlainEntry) → Option (PlainPrefix × PlainEntry)
longest_rule addr entries = find (λ e. contains e.0 addr && acts e.1.does) entries

-- the entry that comes first of those that act and whose pattern matches the name, as a scan over all finds it
abbrev pub best_rule : Name → List (PlainPattern × PlainEntry) → Option (PlainPattern × PlainEntry)
best_rule name entries = find (λ e. matches e.0 name && acts e.1.does) entries

-- some entry acts
abbrev pub some_acts : {K : Type 0} → List (K × PlainEntry) → Bool
some_acts entries = list_any (λ e. acts e.1.does) entries

-- there is a rule of this kind
abbrev pub has_rule : RulesOf PlainEntry → Kind → Bool
has_rule rules kinds.ClientIp = some_acts rules.client_ip
has_rule rules kinds.Qname = some_acts rules.qname
has_rule rules kinds.ResponseIp = some_acts rules.response_ip
has_rule rules kinds.NsDname = some_acts rules.nsdname
has_rule rules kinds.NsIp = some_acts rules.nsip
