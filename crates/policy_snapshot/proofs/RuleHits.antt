-- The rules that are hit, and their hits.
use Rattle.std.proofs.Common.{◌≡◌, ℕ, true, List}
use Rattle.std.specs.List.{Contains}
use Rattle.dns_message.specs.declared.request.Query.{Query}
use Rattle.rpz_precedence.specs.Best.{PlainHit}
use Rattle.upstream_link.specs.Facts.{PlainFacts}
use Rattle.policy_snapshot.specs.Hits.{is_hit, hit_at, hits}
use Rattle.policy_snapshot.specs.Rules.{PlainRule}
use Rattle.policy_snapshot.proofs.Members.{from_map, to_map, from_filter, to_filter}

-- a hit is that of a rule
pub record IsRuleHit (query : Query) (facts : PlainFacts) (position : ℕ) (name : List (List ℕ)) (all : List PlainRule) (hit : PlainHit) : Type 0 where
  pub rule : PlainRule
  pub within : Contains all rule
  pub is_hit : is_hit query facts position name rule.trigger ≡ true
  pub is : hit_at position rule ≡ hit

module _ (query : Query) (facts : PlainFacts) (position : ℕ) (name : List (List ℕ)) where
  pub rule_of : (all : List PlainRule) (hit : PlainHit) → Contains (hits all query facts position name) hit → IsRuleHit query facts position name all hit
  rule_of all hit at =
      let m = from_map (hit_at position) _ hit at in
      let kept = from_filter (λ (r : PlainRule). is_hit query facts position name r.trigger) all m.x m.within in
      record { rule = m.x; within = kept.0; is_hit = kept.1; is = m.is }

  -- a rule that is hit is among the hits
  pub among_hits : (all : List PlainRule) (rule : PlainRule) → Contains all rule → is_hit query facts position name rule.trigger ≡ true → Contains (hits all query facts position name) (hit_at position rule)
  among_hits all rule at hit = to_map (hit_at position) _ rule (to_filter (λ (r : PlainRule). is_hit query facts position name r.trigger) all rule at hit)
