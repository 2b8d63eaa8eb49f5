-- Which of two rules that are hit decides (draft-vixie-dnsop-dns-rpz, section 5): the place of a rule among those of a
-- policy, and the order of places.
use Rattle.std.specs.Prelude.{ℕ, Bool, length}
use Rattle.std.specs.Ordering.{nat_cmp, bool_cmp, ordering_then, is_lt}
use Rattle.std.specs.declared.cmp.Ordering.{Ordering}
use Rattle.std.specs.declared.cmp.Ordering.TheVariants.{Equal}
use Rattle.dns_name.specs.Alike.{PlainPattern}
use Rattle.dns_name.specs.Order.{canonical_order}
use Rattle.ip_prefix.specs.Prefix.{prefix_order}
use Rattle.qname_index.specs.Best.{pattern_order}
use Rattle.trigger_codec.specs.Kind.{kind_of, kind_place}
use Rattle.trigger_codec.specs.declared.trigger.Trigger.{Trigger}
use Rattle.trigger_codec.specs.declared.trigger.Trigger.TheVariants.{ClientIp, Qname, ResponseIp, NsDname, NsIp}

-- Where a rule is hit: the position in the chain of aliases, the zone, and the trigger. Position 0 is the name of the query,
-- and zone 1 the first of the policy.
pub record PlainRank : Type 0 where
  pub position : ℕ
  pub zone : ℕ
  pub trigger : Trigger

-- the place of a trigger's kind in order of precedence
abbrev pub kind_number : Trigger → ℕ
kind_number trigger = kind_place (kind_of trigger)

-- Patterns of names of servers, of which several may be hit by several servers: the base of more labels first, exact
-- before wild, then by the canonical order of bases.
abbrev pub server_order : PlainPattern → PlainPattern → Ordering
server_order a b =
    ordering_then (nat_cmp (length b.base) (length a.base))
    (ordering_then (bool_cmp a.wild b.wild) (canonical_order a.base b.base))

-- Two triggers of one kind: the longer prefix, then the smaller address; the exact pattern, then the longer base.
abbrev pub place_order : Trigger → Trigger → Ordering
place_order (ClientIp p) (ClientIp q) = prefix_order p q
place_order (Qname p) (Qname q) = pattern_order p q
place_order (ResponseIp p) (ResponseIp q) = prefix_order p q
place_order (NsDname p) (NsDname q) = server_order p q
place_order (NsIp p) (NsIp q) = prefix_order p q
place_order t u = Equal

abbrev pub trigger_order : Trigger → Trigger → Ordering
trigger_order t u = ordering_then (nat_cmp (kind_number t) (kind_number u)) (place_order t u)

-- The order of ranks (draft-vixie-dnsop-dns-rpz, section 5): the smaller position, the earlier zone, the kind of trigger, the
-- place within the kind.
abbrev pub rank_order : PlainRank → PlainRank → Ordering
rank_order a b =
    ordering_then (nat_cmp a.position b.position)
    (ordering_then (nat_cmp a.zone b.zone) (trigger_order a.trigger b.trigger))

-- A rule at the first rank decides over one at the second.
abbrev pub precedes : PlainRank → PlainRank → Bool
precedes a b = is_lt (rank_order a b)

-- a rank, by its parts
abbrev pub rank_at : ℕ → ℕ → Trigger → PlainRank
rank_at position zone trigger = record { position = position; zone = zone; trigger = trigger }
