-- How code finds the best hit among the rules of one zone: kind by kind, by look-ups in an index.
use Rattle.std.specs.Prelude.{◌≡◌, ℕ, ◌+◌, ◌==◌, nat_lt, nat_le, Bool, true, false, ◌&&◌, ◌||◌, if◌then◌else◌, List, [], ◌∷◌, fold, Option, Some, None}
use Rattle.std.specs.Option.{option_map}
use Rattle.dns_name.specs.Labels.{Name}
use Rattle.dns_record.specs.Record.{PlainRecord}
use Rattle.dns_record.specs.Soa.{soa_record}
use Rattle.zone_rows.specs.declared.zone.Content.{Content}
use Rattle.zone_rows.specs.declared.zone.PlainZone.{PlainZone}
use Rattle.trigger_codec.specs.declared.trigger.Kind.{Kind}
use Rattle.trigger_codec.specs.Kind.{kind_place}
use Rattle.trigger_codec.specs.declared.trigger.Trigger.{Trigger}
use Rattle.trigger_codec.specs.declared.trigger.Trigger.TheVariants.{ClientIp, Qname, ResponseIp, NsDname, NsIp}
use Rattle.action_codec.specs.declared.action.Action.{Action}
use Rattle.ip_prefix.specs.declared.Addr.{Addr}
use Rattle.prefix_index.specs.Longest.{longest}
use Rattle.qname_index.specs.Best as names
use Rattle.zone_index.specs.Addresses.{first_about}
use Rattle.zone_index.specs.Kinds.{PlainRules, has_kind}
use Rattle.zone_index.specs.Rules.{rules_of}
use Rattle.rpz_precedence.specs.Best.{PlainHit}
use Rattle.rpz_precedence.specs.Rank.{kind_number, precedes}
use Rattle.upstream_link.specs.Known.{AreListsOf}
use Rattle.policy_override.specs.declared.overrides.Override.{Override}
use Rattle.policy_override.specs.Override.{is_ruling}
use Rattle.policy_override.specs.Overrides.{over_at}
use Rattle.policy_snapshot.specs.Overridden.{action_under}
use Rattle.policy_snapshot.specs.Sight.{PlainSight}

-- the hit of an entry of an index
abbrev pub entry_hit : {K : Type 0} → (K → Trigger) → ℕ → ℕ → PlainRecord → K × Action → PlainHit
entry_hit kind position number soa e =
    record {
      rank = record { position = position; zone = number; trigger = kind e.0 };
      action = e.1;
      soa = soa;
    }

abbrev pub or_hit : Option PlainHit → Option PlainHit → Option PlainHit
or_hit None other = other
or_hit (Some hit) other = Some hit

-- the one of two hits that the other doesn't precede
abbrev pub better : Option PlainHit → Option PlainHit → Option PlainHit
better None other = other
better (Some hit) None = Some hit
better (Some hit) (Some other) = if precedes other.rank hit.rank then Some other else Some hit

-- the hit goes before the best one so far
abbrev pub goes_before : PlainHit → Option PlainHit → Bool
goes_before hit None = true
goes_before hit (Some best) = precedes hit.rank best.rank

-- the best of what look-ups find, one for each element
abbrev pub best_over : {X : Type 0} → (X → Option PlainHit) → List X → Option PlainHit
best_over look xs = fold (λ found x. better found (look x)) None xs

-- the client counts at the name of the query alone
abbrev pub client_hit : ℕ → PlainRecord → PlainSight → PlainRules → Option PlainHit
client_hit number soa sight rules =
    if sight.position == 0
    then option_map (entry_hit ClientIp sight.position number soa)
    (longest sight.client rules.client_ip) else None

abbrev pub server_hit : ℕ → ℕ → PlainRecord → PlainRules → Name → Option PlainHit
server_hit position number soa rules server =
    option_map (entry_hit NsDname position number soa) (names.best server rules.nsdname)

abbrev pub address_hit : ℕ → ℕ → PlainRecord → PlainRules → Addr → Option PlainHit
address_hit position number soa rules addr =
    option_map (entry_hit NsIp position number soa) (longest addr rules.nsip)

-- the best hit among the rules of the zone of this number and SOA record
abbrev pub index_hit : ℕ → PlainRecord → PlainSight → PlainRules → Option PlainHit
index_hit number soa sight rules =
    or_hit (client_hit number soa sight rules)
    (or_hit
    (option_map (entry_hit Qname sight.position number soa) (names.best sight.name rules.qname))
    (or_hit (option_map (entry_hit ResponseIp sight.position number soa)
    (first_about sight.name sight.records rules.response_ip))
    (or_hit (best_over (best_over (server_hit sight.position number soa rules)) sight.servers)
    (best_over (address_hit sight.position number soa rules) sight.addresses))))

abbrev pub content_hit : ℕ → PlainSight → Name → Option Content → Option PlainHit
content_hit number sight origin None = None
content_hit number sight origin (Some content) =
    index_hit number (soa_record origin content.soa) sight (rules_of origin content.rows)

abbrev pub zone_hit : ℕ → PlainSight → PlainZone → Option PlainHit
zone_hit number sight zone = content_hit number sight zone.origin zone.content

-- a hit under the override of its zone, which may put another action into the place of its own
abbrev pub hit_under : Override → PlainHit → PlainHit
hit_under over hit =
    record { rank = hit.rank; action = action_under over hit.soa hit.action; soa = hit.soa }

-- what is found in a zone under its override: nothing where it is disabled
abbrev pub found_under : Override → Option PlainHit → Option PlainHit
found_under over found = if is_ruling over then option_map (hit_under over) found else None

-- the best hit of a zone of this number under these overrides
abbrev pub ruled_hit : List Override → ℕ → PlainSight → PlainZone → Option PlainHit
ruled_hit overrides number sight zone =
    found_under (over_at overrides number) (zone_hit number sight zone)

-- the best hit among the rules of zones that are numbered from this number on: that of the first zone that has one
abbrev pub zones_hit : List Override → ℕ → PlainSight → List PlainZone → Option PlainHit
zones_hit overrides number sight [] = None
zones_hit overrides number sight (zone ∷ zones) =
    or_hit (ruled_hit overrides number sight zone) (zones_hit overrides (number + 1) sight zones)

-- a rule of this kind in the zone of this number doesn't come after the hit by zone and kind
abbrev pub kind_could_decide : Kind → ℕ → Option PlainHit → Bool
kind_could_decide kind number None = true
kind_could_decide kind number (Some hit) =
    nat_lt number hit.rank.zone
    || (number == hit.rank.zone && nat_le (kind_place kind) (kind_number hit.rank.trigger))

-- the zone has rules of this kind
abbrev pub has_kind_in : Kind → Name → Option Content → Bool
has_kind_in kind origin None = false
has_kind_in kind origin (Some content) = has_kind (rules_of origin content.rows) kind

-- the zone of this number isn't disabled, and a rule of this kind in it could decide in place of the hit
abbrev pub kind_could_rule : List Override → Kind → ℕ → Option PlainHit → Bool
kind_could_rule overrides kind number hit =
    is_ruling (over_at overrides number) && kind_could_decide kind number hit

-- some zone of those that are numbered from this number on has such rules, which could decide in place of the hit
abbrev pub zones_need : List Override → Kind → ℕ → Option PlainHit → List PlainZone → Bool
zones_need overrides kind number hit [] = false
zones_need overrides kind number hit (zone ∷ zones) =
    (has_kind_in kind zone.origin zone.content && kind_could_rule overrides kind number hit)
    || zones_need overrides kind (number + 1) hit zones

-- servers are looked at in lists where some zone has rules about them
abbrev pub AreListsIf : Bool → List (List Name) → List Name → Type 0
AreListsIf true lists names = AreListsOf lists names
AreListsIf false lists names = lists ≡ []
