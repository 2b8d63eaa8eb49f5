-- The rule that decides: the hit that no other hit precedes (draft-vixie-dnsop-dns-rpz, section 5).
use Rattle.std.specs.Prelude.{◌≡◌, Bool, false, not, List, [], Option, Some, None, Contains}
use Rattle.std.specs.List.{find, list_all}
use Rattle.dns_record.specs.Record.{PlainRecord}
use Rattle.action_codec.specs.declared.action.Action.{Action}
use Rattle.trigger_codec.specs.Bases.{IsTrigger}
use Rattle.rpz_precedence.specs.Rank.{PlainRank, precedes}

-- A rule that is hit: where, what it does, and the SOA record of its zone, which replies by the rule carry.
pub record PlainHit : Type 0 where
  pub rank : PlainRank
  pub action : Action
  pub soa : PlainRecord

-- no hit of the list precedes this one
abbrev pub is_first : List PlainHit → PlainHit → Bool
is_first hits hit = list_all (λ (other : PlainHit). not (precedes other.rank hit.rank)) hits

-- The hit that no other precedes.
unfoldable pub best : List PlainHit → Option PlainHit
best hits = find (is_first hits) hits

-- The same as a relation: there is no hit, or it is this one, and none precedes it.
abbrev pub IsBest : List PlainHit → Option PlainHit → Type 0
IsBest hits None = hits ≡ []
IsBest hits (Some hit) =
    Contains hits hit
    × ((other : PlainHit) → Contains hits other → precedes other.rank hit.rank ≡ false)

-- Hits whose triggers are such as rows have, and of which no two are at one rank.
pub record AreHits (hits : List PlainHit) : Type 0 where
  pub triggers : (hit : PlainHit) → Contains hits hit → IsTrigger hit.rank.trigger
  pub apart : (a b : PlainHit) → Contains hits a → Contains hits b → a.rank ≡ b.rank → a ≡ b
