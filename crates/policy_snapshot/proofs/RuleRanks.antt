-- The rules of a policy by their ranks: at each position of the chain, no two of those that are hit are at one rank.
use Rattle.std.proofs.Common.{◌≡◌, ℕ, ◌+◌, ◌≤◌, Option, Some, None, List, [], ◌∷◌, ◌++◌, ⊎_elim, sym, ap, subst, ◌∙◌, arith}
use Rattle.std.specs.List.{Contains}
use Rattle.std.specs.Prelude.{All}
use Rattle.std.proofs.lemmas.List.Elements.{Contains-append_cases}
use Rattle.dns_record.specs.Record.{PlainRecord}
use Rattle.dns_record.specs.Row.{PlainRow, IsRow}
use Rattle.dns_record.specs.Soa.{soa_record}
use Rattle.dns_message.specs.declared.request.Query.{Query}
use Rattle.zone_rows.specs.declared.zone.Content.{Content}
use Rattle.zone_rows.specs.declared.zone.PlainZone.{PlainZone}
use Rattle.trigger_codec.specs.Bases.{IsTrigger}
use Rattle.trigger_codec.specs.declared.trigger.Trigger.{Trigger}
use Rattle.action_codec.specs.declared.action.Action.{Action}
use Rattle.zone_index.specs.Listed.{zone_rules}
use Rattle.zone_index.specs.Indexed.{HasRows}
use Rattle.rpz_precedence.specs.Best.{PlainHit, AreHits}
use Rattle.rpz_precedence.specs.Rank.{PlainRank}
use Rattle.upstream_link.specs.Facts.{PlainFacts}
use Rattle.policy_override.specs.declared.overrides.Override.{Override}
use Rattle.policy_override.specs.Overrides.{over_at}
use Rattle.policy_snapshot.specs.Hits.{hit_at, hits}
use Rattle.policy_snapshot.specs.Policy.{PlainPolicy}
use Rattle.policy_snapshot.specs.Rules.{PlainRule, content_rules, rule_under, rules, rules_from, rules_under}
use Rattle.policy_snapshot.specs.Stands.{HaveRows}
use Rattle.policy_snapshot.proofs.Members.{none, from_map}
use Rattle.policy_snapshot.proofs.OverriddenRules.{from_under}
use Rattle.policy_snapshot.proofs.RuleHits.{rule_of}

-- what the laws of an index say of the rules of a zone, as one premise
pub record ZoneLaws : Type 0 where
  pub by_trigger : (origin : List (List ℕ)) (rows : List PlainRow) → All IsRow rows → (t : Trigger) (a b : Action) → Contains (zone_rules origin rows) (t, a) → Contains (zone_rules origin rows) (t, b) → a ≡ b
  pub named : (origin : List (List ℕ)) (rows : List PlainRow) → All IsRow rows → (rule : Trigger × Action) → Contains (zone_rules origin rows) rule → IsTrigger rule.0

-- the rule of a zone with this number and SOA record
abbrev pub rule_with : ℕ → PlainRecord → Trigger × Action → PlainRule
rule_with number soa r = record { zone = number; trigger = r.0; action = r.1; soa = soa }

pub content_zone : (number : ℕ) (origin : List (List ℕ)) (content : Option Content) (r : PlainRule) → Contains (content_rules number origin content) r → r.zone ≡ number
content_zone number origin None r at = absurd (none r at)
content_zone number origin (Some content) r at = let m = from_map (rule_with number (soa_record origin content.soa)) (zone_rules origin content.rows) r at in sym (ap (λ (x : PlainRule). x.zone) m.is)

pub under_zone : (over : Override) (number : ℕ) (zone : PlainZone) (r : PlainRule) → Contains (rules_under over (content_rules number zone.origin zone.content)) r → r.zone ≡ number
under_zone over number zone r at =
    let u = from_under over (content_rules number zone.origin zone.content) r at in
    sym (ap (λ (x : PlainRule). x.zone) u.is) ∙ content_zone number zone.origin zone.content u.rule_before u.within

pub from_zone : (overrides : List Override) (number : ℕ) (zones : List PlainZone) (r : PlainRule) → Contains (rules_from overrides number zones) r → number ≤ r.zone
from_zone overrides number [] r at = absurd (none r at)
from_zone overrides number (zone ∷ zones) r at =
    ⊎_elim (λ l. omega (arith, under_zone (over_at overrides number) number zone r l)) (λ m. let later : number + 1 ≤ r.zone = from_zone overrides (number + 1) zones r m in omega (arith, later))
    (Contains-append_cases (rules_under (over_at overrides number) (content_rules number zone.origin zone.content)) (rules_from overrides (number + 1) zones) r at)

module _ (laws : ZoneLaws) where
  content_named : (number : ℕ) (origin : List (List ℕ)) (content : Option Content) → HasRows content → (r : PlainRule) → Contains (content_rules number origin content) r → IsTrigger r.trigger
  content_named number origin None rows r at = absurd (none r at)
  content_named number origin (Some content) rows r at =
      let m = from_map (rule_with number (soa_record origin content.soa)) (zone_rules origin content.rows) r at in
      subst (λ (x : PlainRule). IsTrigger x.trigger) m.is (laws.named origin content.rows rows m.x m.within)

  under_named : (over : Override) (number : ℕ) (zone : PlainZone) → HasRows zone.content → (r : PlainRule) → Contains (rules_under over (content_rules number zone.origin zone.content)) r → IsTrigger r.trigger
  under_named over number zone rows r at =
      let u = from_under over (content_rules number zone.origin zone.content) r at in
      subst (λ (x : PlainRule). IsTrigger x.trigger) u.is (content_named number zone.origin zone.content rows u.rule_before u.within)

  pub rules_named : (overrides : List Override) (number : ℕ) (zones : List PlainZone) → HaveRows zones → (r : PlainRule) → Contains (rules_from overrides number zones) r → IsTrigger r.trigger
  rules_named overrides number [] rows r at = absurd (none r at)
  rules_named overrides number (zone ∷ zones) rows r at =
      ⊎_elim (λ l. under_named (over_at overrides number) number zone rows.0 r l) (λ m. rules_named overrides (number + 1) zones rows.1 r m)
      (Contains-append_cases (rules_under (over_at overrides number) (content_rules number zone.origin zone.content)) (rules_from overrides (number + 1) zones) r at)

  content_same : (number : ℕ) (origin : List (List ℕ)) (content : Option Content) → HasRows content → (r s : PlainRule) → Contains (content_rules number origin content) r → Contains (content_rules number origin content) s
      → r.trigger ≡ s.trigger → r ≡ s
  content_same number origin None rows r s at_r at_s e = absurd (none r at_r)
  content_same number origin (Some content) rows r s at_r at_s e =
      let made = rule_with number (soa_record origin content.soa) in
      let m = from_map made (zone_rules origin content.rows) r at_r in
      let n = from_map made (zone_rules origin content.rows) s at_s in
      let trigger : m.x.0 ≡ n.x.0 = ap (λ (x : PlainRule). x.trigger) m.is ∙ e ∙ sym (ap (λ (x : PlainRule). x.trigger) n.is) in
      let moved : Contains (zone_rules origin content.rows) (n.x.0, m.x.1) = subst (λ (t : Trigger). Contains (zone_rules origin content.rows) (t, m.x.1)) trigger m.within in
      let action : m.x.1 ≡ n.x.1 = laws.by_trigger origin content.rows rows n.x.0 m.x.1 n.x.1 moved n.within in
      sym m.is ∙ (λ i. made (trigger i, action i)) ∙ n.is

  under_same : (over : Override) (number : ℕ) (zone : PlainZone) → HasRows zone.content → (r s : PlainRule) → Contains (rules_under over (content_rules number zone.origin zone.content)) r
      → Contains (rules_under over (content_rules number zone.origin zone.content)) s → r.trigger ≡ s.trigger → r ≡ s
  under_same over number zone rows r s at_r at_s e =
      let own = content_rules number zone.origin zone.content in
      let u = from_under over own r at_r in
      let v = from_under over own s at_s in
      let trigger : u.rule_before.trigger ≡ v.rule_before.trigger = ap (λ (x : PlainRule). x.trigger) u.is ∙ e ∙ sym (ap (λ (x : PlainRule). x.trigger) v.is) in
      sym u.is ∙ ap (rule_under over) (content_same number zone.origin zone.content rows u.rule_before v.rule_before u.within v.within trigger) ∙ v.is

  pub rules_same : (overrides : List Override) (number : ℕ) (zones : List PlainZone) → HaveRows zones → (r s : PlainRule) → Contains (rules_from overrides number zones) r → Contains (rules_from overrides number zones) s
      → r.zone ≡ s.zone → r.trigger ≡ s.trigger → r ≡ s
  rules_same overrides number [] rows r s at_r at_s z t = absurd (none r at_r)
  rules_same overrides number (zone ∷ zones) rows r s at_r at_s z t =
      let over = over_at overrides number in
      let here = rules_under over (content_rules number zone.origin zone.content) in
      let there = rules_from overrides (number + 1) zones in
      let cases = λ (x : PlainRule) (at : Contains (here ++ there) x). Contains-append_cases here there x at in
      let own = λ (x : PlainRule) (at : Contains here x). under_zone over number zone x at in
      let later = λ (x : PlainRule) (at : Contains there x). from_zone overrides (number + 1) zones x at in
      ⊎_elim
      (λ l. ⊎_elim (λ k. under_same over number zone rows.0 r s l k t) (λ m. absurd (omega (arith, own r l, later s m, z))) (cases s at_s))
      (λ m. ⊎_elim (λ k. absurd (omega (arith, own s k, later r m, z))) (λ k. rules_same overrides (number + 1) zones rows.1 r s m k z t) (cases s at_s))
      (cases r at_r)

module _ (laws : ZoneLaws) (query : Query) (facts : PlainFacts) (position : ℕ) (name : List (List ℕ)) (policy : PlainPolicy) (rows : HaveRows policy.zones) where
  -- of the hits of a policy's rules no two are at one rank
  pub are_hits : AreHits (hits (rules policy) query facts position name)
  are_hits = record {
    triggers = λ hit at.
        let x = rule_of query facts position name (rules policy) hit at in
        subst (λ (h : PlainHit). IsTrigger h.rank.trigger) x.is (rules_named laws policy.overrides 1 policy.zones rows x.rule x.within);
    apart = λ a b at_a at_b e.
        let x = rule_of query facts position name (rules policy) a at_a in
        let y = rule_of query facts position name (rules policy) b at_b in
        let ranks : (hit_at position x.rule).rank ≡ (hit_at position y.rule).rank = ap (λ (h : PlainHit). h.rank) x.is ∙ e ∙ sym (ap (λ (h : PlainHit). h.rank) y.is) in
        let zone : x.rule.zone ≡ y.rule.zone = ap (λ (r : PlainRank). r.zone) ranks in
        let trigger : x.rule.trigger ≡ y.rule.trigger = ap (λ (r : PlainRank). r.trigger) ranks in
        sym x.is ∙ ap (hit_at position) (rules_same laws policy.overrides 1 policy.zones rows x.rule y.rule x.within y.within zone trigger) ∙ y.is;
  }
