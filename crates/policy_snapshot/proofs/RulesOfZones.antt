-- Each rule of a policy, apart from their list: one of its zone under the zone's override.
use Rattle.std.proofs.Common.{◌≡◌, ℕ, zero, suc, ◌+◌, ◌-◌, ◌≤◌, true, ◌↔◌, Some, List, [], ◌∷◌, ⊎_elim, refl, sym, ap, subst, ◌∙◌, arith}
use Rattle.std.specs.List.{Contains}
use Rattle.std.specs.Prelude.{slice_get}
use Rattle.std.proofs.lemmas.List.Elements.{Contains-append_left, Contains-append_right, Contains-append_cases}
use Rattle.policy_override.specs.declared.overrides.Override.{Override}
use Rattle.policy_override.specs.Override.{is_ruling}
use Rattle.policy_override.specs.Overrides.{over_at}
use Rattle.zone_rows.specs.declared.zone.PlainZone.{PlainZone}
use Rattle.policy_snapshot.specs.Policy.{PlainPolicy, PlainZones, zone_at}
use Rattle.policy_snapshot.specs.Rules.{IsRuleOf, PlainRule, content_rules, rule_under, rules, rules_from, rules_under}
use Rattle.policy_snapshot.proofs.Members.{none}
use Rattle.policy_snapshot.proofs.NewZones.{at_place}
use Rattle.policy_snapshot.proofs.OverriddenRules.{IsUnder, from_under, to_under}
use Rattle.policy_snapshot.proofs.RuleRanks.{content_zone}
use Rattle.policy_snapshot.proofs.Standing.{place_of}

some_zone : (x y : PlainZone) → Some x ≡ Some y → x ≡ y
some_zone x y e = cc e

-- the rule is one of the zone that stands at this place behind the first, which has this number
record IsFrom (overrides : List Override) (number : ℕ) (zones : PlainZones) (rule : PlainRule) : Type 0 where
  place : ℕ
  zone : PlainZone
  there : slice_get zones place ≡ Some zone
  under : IsUnder (over_at overrides (number + place)) (content_rules (number + place) zone.origin zone.content) rule

is_from : (overrides : List Override) (number : ℕ) (zones : PlainZones) (rule : PlainRule) → Contains (rules_from overrides number zones) rule → IsFrom overrides number zones rule
is_from overrides number [] rule at = absurd (none rule at)
is_from overrides number (zone ∷ zones) rule at =
    ⊎_elim
    (λ l.
    let here : number ≡ number + 0 = omega arith in
    record { place = 0; zone = zone; there = refl; under = subst (λ (n : ℕ). IsUnder (over_at overrides n) (content_rules n zone.origin zone.content) rule) here (from_under (over_at overrides number) (content_rules number zone.origin zone.content) rule l) })
    (λ r.
    let f = is_from overrides (number + 1) zones rule r in
    let later : number + 1 + f.place ≡ number + suc f.place = omega arith in
    record { place = suc f.place; zone = f.zone; there = f.there; under = subst (λ (n : ℕ). IsUnder (over_at overrides n) (content_rules n f.zone.origin f.zone.content) rule) later f.under })
    (Contains-append_cases (rules_under (over_at overrides number) (content_rules number zone.origin zone.content)) (rules_from overrides (number + 1) zones) rule at)

to_from : (overrides : List Override) (number place : ℕ) (zones : PlainZones) (zone : PlainZone) (own : PlainRule) → slice_get zones place ≡ Some zone → is_ruling (over_at overrides (number + place)) ≡ true
    → Contains (content_rules (number + place) zone.origin zone.content) own → Contains (rules_from overrides number zones) (rule_under (over_at overrides (number + place)) own)
to_from overrides number place [] zone own e ruling at = absurd cc
to_from overrides number zero (first ∷ zones) zone own e ruling at =
    let same : first ≡ zone = some_zone first zone e in
    let here : number + 0 ≡ number = omega arith in
    let moved : Contains (content_rules number first.origin first.content) own = subst (λ (z : PlainZone). Contains (content_rules number z.origin z.content) own) (sym same) (subst (λ (n : ℕ). Contains (content_rules n zone.origin zone.content) own) here at) in
    subst (λ (n : ℕ). Contains (rules_from overrides number (first ∷ zones)) (rule_under (over_at overrides n) own)) (sym here)
    (Contains-append_left (rules_under (over_at overrides number) (content_rules number first.origin first.content)) (rules_from overrides (number + 1) zones) (rule_under (over_at overrides number) own)
    (to_under (over_at overrides number) (content_rules number first.origin first.content) own (ap (λ (n : ℕ). is_ruling (over_at overrides n)) (sym here) ∙ ruling) moved))
to_from overrides number (suc place) (first ∷ zones) zone own e ruling at =
    let later : number + suc place ≡ number + 1 + place = omega arith in
    subst (λ (n : ℕ). Contains (rules_from overrides number (first ∷ zones)) (rule_under (over_at overrides n) own)) (sym later)
    (Contains-append_right (rules_under (over_at overrides number) (content_rules number first.origin first.content)) (rules_from overrides (number + 1) zones) (rule_under (over_at overrides (number + 1 + place)) own)
    (to_from overrides (number + 1) place zones zone own e (ap (λ (n : ℕ). is_ruling (over_at overrides n)) (sym later) ∙ ruling) (subst (λ (n : ℕ). Contains (content_rules n zone.origin zone.content) own) later at)))

one_or_more : (zones : PlainZones) (number : ℕ) (zone : PlainZone) → zone_at zones number ≡ Some zone → 1 ≤ number
one_or_more zones zero zone e = absurd cc
one_or_more zones (suc number) zone e = omega arith

numbered : (zones : PlainZones) (place number : ℕ) (zone : PlainZone) → number ≡ 1 + place → slice_get zones place ≡ Some zone → zone_at zones number ≡ Some zone
numbered zones place number zone e at =
    let same : number - 1 ≡ place = omega (arith, e) in
    at_place zones number (omega (arith, e)) ∙ ap (slice_get zones) same ∙ at

module _ (policy : PlainPolicy) (rule : PlainRule) where
  is_rule_of : Contains (rules policy) rule → IsRuleOf policy rule
  is_rule_of at =
      let f = is_from policy.overrides 1 policy.zones rule at in
      let number : 1 + f.place ≡ rule.zone = sym (sym (ap (λ (r : PlainRule). r.zone) f.under.is) ∙ content_zone (1 + f.place) f.zone.origin f.zone.content f.under.rule_before f.under.within) in
      record {
        zone = f.zone;
        own = f.under.rule_before;
        there = numbered policy.zones f.place rule.zone f.zone (sym number) f.there;
        ruling = subst (λ (n : ℕ). is_ruling (over_at policy.overrides n) ≡ true) number f.under.ruling;
        within = subst (λ (n : ℕ). Contains (content_rules n f.zone.origin f.zone.content) f.under.rule_before) number f.under.within;
        is = subst (λ (n : ℕ). rule_under (over_at policy.overrides n) f.under.rule_before ≡ rule) number f.under.is;
      }

  is_among : IsRuleOf policy rule → Contains (rules policy) rule
  is_among h =
      let number : 1 + (rule.zone - 1) ≡ rule.zone = omega (arith, one_or_more policy.zones rule.zone h.zone h.there) in
      subst (Contains (rules policy)) (ap (λ (n : ℕ). rule_under (over_at policy.overrides n) h.own) number ∙ h.is)
      (to_from policy.overrides 1 (rule.zone - 1) policy.zones h.zone h.own (place_of policy.zones rule.zone h.zone h.there) (ap (λ (n : ℕ). is_ruling (over_at policy.overrides n)) number ∙ h.ruling)
      (subst (λ (n : ℕ). Contains (content_rules n h.zone.origin h.zone.content) h.own) (sym number) h.within))

  pub both_ways : Contains (rules policy) rule ↔ IsRuleOf policy rule
  both_ways = (λ at. is_rule_of at, λ h. is_among h)
