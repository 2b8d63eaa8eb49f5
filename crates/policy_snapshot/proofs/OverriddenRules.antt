-- The rules of a zone under an override: their hits are its hits under it, at the same ranks.
use Rattle.std.proofs.Common.{◌≡◌, ℕ, Bool, true, false, cond, Option, Some, None, List, [], map, refl, sym, ap, subst, ◌∙◌, true≢false}
use Rattle.std.specs.List.{Contains}
use Rattle.std.specs.Option.{option_map}
use Rattle.dns_message.specs.declared.request.Query.{Query}
use Rattle.policy_override.specs.declared.overrides.Override.{Override}
use Rattle.policy_override.specs.Override.{is_ruling}
use Rattle.rpz_precedence.specs.Best.{PlainHit, IsBest}
use Rattle.rpz_precedence.specs.Rank.{precedes}
use Rattle.upstream_link.specs.Facts.{PlainFacts}
use Rattle.policy_snapshot.specs.Hits.{hit_at, hits, is_hit}
use Rattle.policy_snapshot.specs.Lookup.{found_under, hit_under}
use Rattle.policy_snapshot.specs.Rules.{PlainRule, rule_under, rules_under}
use Rattle.policy_snapshot.proofs.Members.{none, empty, from_map, to_map}
use Rattle.policy_snapshot.proofs.RuleHits.{among_hits, rule_of}

-- a rule under an override is one of the zone's, and the zone isn't disabled
pub record IsUnder (over : Override) (own : List PlainRule) (rule : PlainRule) : Type 0 where
  pub rule_before : PlainRule
  pub ruling : is_ruling over ≡ true
  pub within : Contains own rule_before
  pub is : rule_under over rule_before ≡ rule

module _ (over : Override) (own : List PlainRule) where
  from_if : (b : Bool) (r : PlainRule) → is_ruling over ≡ b → Contains (cond b (map (rule_under over) own) []) r → IsUnder over own r
  from_if true r e at = let m = from_map (rule_under over) own r at in record { rule_before = m.x; ruling = e; within = m.within; is = m.is }
  from_if false r e at = absurd (none r at)

  pub from_under : (r : PlainRule) → Contains (rules_under over own) r → IsUnder over own r
  from_under r at = from_if (is_ruling over) r refl at

  to_if : (b : Bool) (r : PlainRule) → b ≡ true → Contains own r → Contains (cond b (map (rule_under over) own) []) (rule_under over r)
  to_if true r e at = to_map (rule_under over) own r at
  to_if false r e at = absurd (true≢false (sym e))

  pub to_under : (r : PlainRule) → is_ruling over ≡ true → Contains own r → Contains (rules_under over own) (rule_under over r)
  to_under r e at = to_if (is_ruling over) r e at

-- ---- hits

module _ (query : Query) (facts : PlainFacts) (position : ℕ) (name : List (List ℕ)) (over : Override) (own : List PlainRule) where
  -- a hit of the rules under the override is one of the zone's under it
  record IsHitUnder (hit : PlainHit) : Type 0 where
    before : PlainHit
    within : Contains (hits own query facts position name) before
    is : hit_under over before ≡ hit

  hit_before : (hit : PlainHit) → Contains (hits (map (rule_under over) own) query facts position name) hit → IsHitUnder hit
  hit_before hit at =
      let x = rule_of query facts position name (map (rule_under over) own) hit at in
      let m = from_map (rule_under over) own x.rule x.within in
      let is_hit : is_hit query facts position name m.x.trigger ≡ true = ap (λ (r : PlainRule). is_hit query facts position name r.trigger) m.is ∙ x.is_hit in
      record { before = hit_at position m.x; within = among_hits query facts position name own m.x m.within is_hit; is = ap (hit_at position) m.is ∙ x.is }

  hit_behind : (hit : PlainHit) → Contains (hits own query facts position name) hit → Contains (hits (map (rule_under over) own) query facts position name) (hit_under over hit)
  hit_behind hit at =
      let x = rule_of query facts position name own hit at in
      subst (Contains (hits (map (rule_under over) own) query facts position name)) (ap (hit_under over) x.is)
      (among_hits query facts position name (map (rule_under over) own) (rule_under over x.rule) (to_map (rule_under over) own x.rule x.within) x.is_hit)

  best_mapped : (found : Option PlainHit) → IsBest (hits own query facts position name) found → IsBest (hits (map (rule_under over) own) query facts position name) (option_map (hit_under over) found)
  best_mapped None is = empty (hits (map (rule_under over) own) query facts position name) (λ hit at. let x = hit_before hit at in none x.before (subst (λ (l : List PlainHit). Contains l x.before) is x.within))
  best_mapped (Some hit) is = (
    hit_behind hit is.0,
    λ other at. let x = hit_before other at in ap (λ (h : PlainHit). precedes h.rank hit.rank) (sym x.is) ∙ is.1 x.before x.within,
  )

  best_if : (b : Bool) (found : Option PlainHit) → IsBest (hits own query facts position name) found → IsBest (hits (cond b (map (rule_under over) own) []) query facts position name) (cond b (option_map (hit_under over) found) None)
  best_if true found is = best_mapped found is
  best_if false found is = refl

  -- the best hit of the rules under the override is the zone's best under it
  pub best_under : (found : Option PlainHit) → IsBest (hits own query facts position name) found → IsBest (hits (rules_under over own) query facts position name) (found_under over found)
  best_under found is = best_if (is_ruling over) found is

-- ---- what is found

none_if : (b : Bool) (over : Override) → cond b (option_map (hit_under over) None) None ≡ None
none_if true over = refl
none_if false over = refl

pub none_under : (over : Override) (found : Option PlainHit) → found ≡ None → found_under over found ≡ None
none_under over found e = ap (found_under over) e ∙ none_if (is_ruling over) over

disabled_if : (b : Bool) (found : Option PlainHit) → b ≡ false → None ≡ cond b found None
disabled_if true found e = absurd (true≢false e)
disabled_if false found e = refl

-- nothing is found in a zone that is disabled
pub none_disabled : (over : Override) (found : Option PlainHit) → is_ruling over ≡ false → None ≡ found_under over found
none_disabled over found e = disabled_if (is_ruling over) (option_map (hit_under over) found) e

ruling_if : (b : Bool) (found : Option PlainHit) → b ≡ true → found ≡ cond b found None
ruling_if true found e = refl
ruling_if false found e = absurd (true≢false (sym e))

pub found_ruling : (over : Override) (found : Option PlainHit) → is_ruling over ≡ true → option_map (hit_under over) found ≡ found_under over found
found_ruling over found e = ruling_if (is_ruling over) (option_map (hit_under over) found) e
