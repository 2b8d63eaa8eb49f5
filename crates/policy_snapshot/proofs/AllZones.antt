-- The best hit among the rules of all zones: that of the first zone that has one.
use Rattle.std.proofs.Common.{◌≡◌, ℕ, ◌+◌, ◌<◌, ◌==◌, false, ◌↔◌, Option, Some, None, List, [], ◌∷◌, refl, sym, ap, subst, ◌∙◌, arith, nat_lt}
use Rattle.std.proofs.lemmas.Bool.Decides.{nat_tests}
use Rattle.std.specs.Cmp.{nat_cmp_total, tied_itself}
use Rattle.std.specs.List.{Contains, flat_map}
use Rattle.std.specs.Ordering.{nat_cmp, ordering_then, is_lt}
use Rattle.std.specs.Prelude.{All}
use Rattle.std.specs.declared.cmp.Ordering.{Ordering}
use Rattle.std.specs.declared.cmp.Ordering.TheVariants.{Greater}
use Rattle.dns_record.specs.Row.{PlainRow, IsRow}
use Rattle.dns_record.specs.Soa.{soa_record}
use Rattle.dns_message.specs.declared.request.Query.{Query}
use Rattle.zone_rows.specs.declared.zone.Content.{Content}
use Rattle.zone_rows.specs.declared.zone.PlainZone.{PlainZone}
use Rattle.trigger_codec.specs.declared.trigger.Trigger.{Trigger}
use Rattle.action_codec.specs.declared.action.Action.{Action}
use Rattle.zone_index.specs.Indexed.{HasRows}
use Rattle.zone_index.specs.Laws.{IsInOrder}
use Rattle.zone_index.specs.Listed.{rules_by_kind, zone_rules}
use Rattle.zone_index.specs.Rules.{rules_of}
use Rattle.rpz_precedence.specs.Best.{PlainHit, AreHits, IsBest, best}
use Rattle.rpz_precedence.specs.Rank.{precedes, trigger_order}
use Rattle.ip_prefix.specs.declared.Addr.{Addr}
use Rattle.upstream_link.specs.Facts.{PlainFacts}
use Rattle.upstream_link.specs.Known.{HaveSameMembers}
use Rattle.upstream_link.specs.Servers.{addresses_of, servers}
use Rattle.policy_snapshot.specs.Hits.{hit_at, hits}
use Rattle.policy_snapshot.specs.Lookup.{content_hit, ruled_hit, zones_hit}
use Rattle.policy_override.specs.declared.overrides.Override.{Override}
use Rattle.policy_override.specs.Overrides.{over_at}
use Rattle.policy_snapshot.specs.Policy.{PlainPolicy}
use Rattle.policy_snapshot.specs.Rules.{PlainRule, content_rules, rules, rules_from, rules_under}
use Rattle.policy_snapshot.specs.Sight.{sight_of}
use Rattle.policy_snapshot.specs.Stands.{HaveRows}
use Rattle.policy_snapshot.proofs.Members.{from_map, to_map}
use Rattle.policy_snapshot.proofs.BestHits.{ComesBefore, RankLaws, best_of_both, best_of_same}
use Rattle.policy_snapshot.proofs.OneZone.{OneServer, hits-append, index_rules, best_in_index}
use Rattle.policy_snapshot.proofs.OverriddenRules.{best_under}
use Rattle.policy_snapshot.proofs.RuleHits.{among_hits, rule_of}
use Rattle.policy_snapshot.proofs.RuleRanks.{ZoneLaws, are_hits, from_zone, rule_with, under_zone}

-- what the laws of an index and of ranks say, as one premise
pub record Laws : Type 0 where
  pub ordered : (origin : List (List ℕ)) (rows : List PlainRow) → IsInOrder (rules_of origin rows)
  pub listed : (origin : List (List ℕ)) (rows : List PlainRow) → All IsRow rows → (rule : Trigger × Action) → Contains (zone_rules origin rows) rule ↔ Contains (rules_by_kind (rules_of origin rows)) rule
  pub ranks : RankLaws
  pub one_server : OneServer

module _ (query : Query) (facts : PlainFacts) (position : ℕ) (name : List (List ℕ)) where
  -- the hits of rules are those of other rules that hold them
  hits_within : (all others : List PlainRule) → ((r : PlainRule) → Contains all r → Contains others r) → (hit : PlainHit) → Contains (hits all query facts position name) hit → Contains (hits others query facts position name) hit
  hits_within all others into hit at =
      let h = rule_of query facts position name all hit at in
      subst (Contains (hits others query facts position name)) h.is (among_hits query facts position name others h.rule (into h.rule h.within) h.is_hit)

greater : (x y : ℕ) → y < x → nat_cmp x y ≡ Greater
greater x y h = let less : nat_lt x y ≡ false = grind (arith, nat_tests) in let same : (x == y) ≡ false = grind (arith, nat_tests) in rw (less, same) refl

later_zone : (position number later : ℕ) (t u : Trigger) → number < later
    → precedes (record { position = position; zone = later; trigger = t }) (record { position = position; zone = number; trigger = u }) ≡ false
later_zone position number later t u h =
    ap (λ (c : Ordering). is_lt (ordering_then c (ordering_then (nat_cmp later number) (trigger_order t u)))) (tied_itself nat_cmp_total position)
    ∙ ap (λ (c : Ordering). is_lt (ordering_then c (trigger_order t u))) (greater later number h)

module _ (laws : Laws) (query : Query) (facts : PlainFacts) (position : ℕ) (name : List (List ℕ)) (lists : List (List (List (List ℕ)))) (all : List Addr)
    (same_names : HaveSameMembers (flat_map (λ list. list) lists) (servers facts name)) (same_addresses : HaveSameMembers all (addresses_of facts (servers facts name))) where
  content_best : (number : ℕ) (origin : List (List ℕ)) (content : Option Content) → HasRows content
      → IsBest (hits (content_rules number origin content) query facts position name) (content_hit number (sight_of query facts position name lists all) origin content)
  content_best number origin None rows = refl
  content_best number origin (Some content) rows =
      let soa = soa_record origin content.soa in
      let made = rule_with number soa in
      let same = laws.listed origin content.rows rows in
      let indexed = index_rules laws.ranks laws.one_server query facts position name number soa (rules_of origin content.rows) in
      let into : (r : PlainRule) → Contains indexed r → Contains (content_rules number origin (Some content)) r =
      λ r at. let m = from_map made (rules_by_kind (rules_of origin content.rows)) r at in subst (Contains (content_rules number origin (Some content))) m.is (to_map made (zone_rules origin content.rows) m.x ((same m.x).1 m.within)) in
      let back : (r : PlainRule) → Contains (content_rules number origin (Some content)) r → Contains indexed r =
      λ r at. let m = from_map made (zone_rules origin content.rows) r at in subst (Contains indexed) m.is (to_map made (rules_by_kind (rules_of origin content.rows)) m.x ((same m.x).0 m.within)) in
      best_of_same _ _ _ (hits_within query facts position name _ _ into) (hits_within query facts position name _ _ back)
      (best_in_index laws.ranks laws.one_server query facts position name number soa lists all same_names same_addresses (rules_of origin content.rows) (laws.ordered origin content.rows))

  abbrev own : List Override → ℕ → PlainZone → List PlainRule
  own overrides number zone = rules_under (over_at overrides number) (content_rules number zone.origin zone.content)

  zones_apart : (overrides : List Override) (number : ℕ) (zone : PlainZone) (zones : List PlainZone) → ComesBefore (hits (own overrides number zone) query facts position name) (hits (rules_from overrides (number + 1) zones) query facts position name)
  zones_apart overrides number zone zones a b at_a at_b =
      let x = rule_of query facts position name (own overrides number zone) a at_a in
      let y = rule_of query facts position name (rules_from overrides (number + 1) zones) b at_b in
      let zone_x = under_zone (over_at overrides number) number zone x.rule x.within in
      let zone_y = from_zone overrides (number + 1) zones y.rule y.within in
      ap (λ (h : PlainHit). precedes h.rank a.rank) (sym y.is)
      ∙ ap (λ (h : PlainHit). precedes (hit_at position y.rule).rank h.rank) (sym x.is)
      ∙ later_zone position x.rule.zone y.rule.zone y.rule.trigger x.rule.trigger (omega (arith, zone_x, zone_y))

  ruled_best : (overrides : List Override) (number : ℕ) (zone : PlainZone) → HasRows zone.content → IsBest (hits (own overrides number zone) query facts position name) (ruled_hit overrides number (sight_of query facts position name lists all) zone)
  ruled_best overrides number zone rows =
      best_under query facts position name (over_at overrides number) (content_rules number zone.origin zone.content) (content_hit number (sight_of query facts position name lists all) zone.origin zone.content) (content_best number zone.origin zone.content rows)

  zones_best : (overrides : List Override) (number : ℕ) (zones : List PlainZone) → HaveRows zones → IsBest (hits (rules_from overrides number zones) query facts position name) (zones_hit overrides number (sight_of query facts position name lists all) zones)
  zones_best overrides number [] rows = refl
  zones_best overrides number (zone ∷ zones) rows =
      subst (λ (l : List PlainHit). IsBest l (zones_hit overrides number (sight_of query facts position name lists all) (zone ∷ zones))) (sym (hits-append query facts position name (own overrides number zone) (rules_from overrides (number + 1) zones)))
      (best_of_both _ _ _ _ (ruled_best overrides number zone rows.0) (zones_best overrides (number + 1) zones rows.1) (zones_apart overrides number zone zones))

  -- the hit that code finds is the best one
  pub found_is_best : ZoneLaws → (policy : PlainPolicy) → HaveRows policy.zones → ((all : List PlainHit) (found : Option PlainHit) → AreHits all → IsBest all found → found ≡ best all)
      → zones_hit policy.overrides 1 (sight_of query facts position name lists all) policy.zones ≡ best (hits (rules policy) query facts position name)
  found_is_best zone_laws policy rows only =
      only (hits (rules policy) query facts position name) (zones_hit policy.overrides 1 (sight_of query facts position name lists all) policy.zones) (are_hits zone_laws query facts position name policy rows) (zones_best policy.overrides 1 policy.zones rows)
