-- Which rules are hit at a position of the chain of aliases, by what is known (draft-vixie-dnsop-dns-rpz, section 4).
use Rattle.std.specs.Prelude.{ℕ, Bool, ◌==◌, ◌&&◌, List, map, filter}
use Rattle.std.specs.List.{list_any}
use Rattle.dns_name.specs.Labels.{Name}
use Rattle.dns_name.specs.Alike.{matches}
use Rattle.dns_message.specs.declared.request.Query.{Query}
use Rattle.ip_prefix.specs.Prefix.{PlainPrefix, contains}
use Rattle.trigger_codec.specs.declared.trigger.Trigger.{Trigger}
use Rattle.trigger_codec.specs.declared.trigger.Trigger.TheVariants.{ClientIp, Qname, ResponseIp, NsDname, NsIp}
use Rattle.zone_index.specs.Addresses.{holds_within}
use Rattle.rpz_precedence.specs.Best.{PlainHit}
use Rattle.upstream_link.specs.Facts.{PlainFacts, main_records}
use Rattle.upstream_link.specs.Servers.{address_records, servers}
use Rattle.policy_snapshot.specs.Rules.{PlainRule}

-- an address of the name server is in the prefix
abbrev pub has_address : PlainFacts → PlainPrefix → Name → Bool
has_address facts prefix server =
    list_any (holds_within prefix server) (address_records facts server)

-- Whether a trigger is hit at a position of the chain, at this name (draft-vixie-dnsop-dns-rpz, section 4). The client is in
-- the prefix, which counts at the name of the query only; the pattern matches the name; an address of the answer for this name
-- is in the prefix; the pattern matches a name server of the name; an address of a name server of the name is in the prefix.
abbrev pub is_hit : Query → PlainFacts → ℕ → Name → Trigger → Bool
is_hit query facts position name (ClientIp prefix) = position == 0 && contains prefix query.client
is_hit query facts position name (Qname pattern) = matches pattern name
is_hit query facts position name (ResponseIp prefix) =
    list_any (holds_within prefix name) (main_records query facts)
is_hit query facts position name (NsDname pattern) = list_any (matches pattern) (servers facts name)
is_hit query facts position name (NsIp prefix) =
    list_any (has_address facts prefix) (servers facts name)

-- a rule that is hit at a position
abbrev pub hit_at : ℕ → PlainRule → PlainHit
hit_at position rule =
    record {
      rank = record { position = position; zone = rule.zone; trigger = rule.trigger };
      action = rule.action;
      soa = rule.soa;
    }

-- The hits of the rules at a position, where this name stands.
abbrev pub hits : List PlainRule → Query → PlainFacts → ℕ → Name → List PlainHit
hits all query facts position name =
    map (hit_at position) (filter (λ rule. is_hit query facts position name rule.trigger) all)
