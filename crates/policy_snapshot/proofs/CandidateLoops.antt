-- The loops over zones that look only at those with rules of a kind, or at candidates.
use Rattle.std.proofs.Common.{◌≡◌, ℕ, zero, suc, ◌+◌, ◌-◌, ◌<◌, ◌≤◌, ◌==◌, Bool, true, false, ◌&&◌, ◌||◌, List, [], ◌∷◌, length, map, get_or, Option, Some, None, refl, sym, ap, subst, ◌∙◌, arith}
use Rattle.std.specs.Prelude.{slice_get}
use Rattle.std.proofs.lemmas.Bool.{eqb-true}
use Rattle.std.proofs.lemmas.List.{length-map}
use Rattle.std.proofs.lemmas.Option.{slice_get_within}
use Rattle.trigger_codec.specs.declared.trigger.Kind.{Kind}
use Rattle.policy_override.specs.declared.overrides.Override.{Override}
use Rattle.policy_override.specs.Overrides.{over_at}
use Rattle.rpz_precedence.specs.Best.{PlainHit}
use Rattle.summary_index.specs.Zones.{has_zone}
use Rattle.zone_index.specs.Indexed.{HasRows}
use Rattle.zone_rows.specs.declared.zone.PlainZone.{PlainZone}
use Rattle.zone_rows.specs.declared.zone.TheConstants.{ZONE_LIMIT}
use Rattle.policy_snapshot.specs.Knowing.{KnowsAll, zones_having}
use Rattle.policy_snapshot.specs.Lookup.{has_kind_in, kind_could_rule, or_hit, zone_hit, zones_hit, zones_need}
use Rattle.policy_snapshot.specs.Policy.{PlainZones, zone_at}
use Rattle.policy_snapshot.specs.Sight.{PlainSight}
use Rattle.policy_snapshot.specs.Stands.{HaveRows}
use Rattle.policy_snapshot.specs.Summed.{AreOfNames, KnowsZone, PlainSummaries, content_entries, is_candidate}
use Rattle.policy_snapshot.proofs.KnownZones.{having_is}
use Rattle.policy_snapshot.proofs.ListedRules.{no_zone}
use Rattle.policy_snapshot.proofs.NewZones.{at_place, zone_here}
use Rattle.policy_snapshot.proofs.OverriddenRules.{none_under}
use Rattle.policy_snapshot.proofs.Standing.{place_of}

some_zone : (x y : PlainZone) → Some x ≡ Some y → x ≡ y
some_zone x y e = cc e

rows_get : (zones : PlainZones) (k : ℕ) (zone : PlainZone) → HaveRows zones → slice_get zones k ≡ Some zone → HasRows zone.content
rows_get [] k zone all e = absurd cc
rows_get (z ∷ zones) zero zone all e = subst (λ (x : PlainZone). HasRows x.content) (some_zone z zone e) all.0
rows_get (z ∷ zones) (suc k) zone all e = rows_get zones k zone all.1 e

-- a zone that is no candidate has no hit
abbrev pub NoHit : Type 0
NoHit =
    (number : ℕ) (sight : PlainSight) (zone : PlainZone) (s : PlainSummaries) → AreOfNames s → HasRows zone.content → KnowsZone number (content_entries zone.origin zone.content) s → is_candidate s sight number ≡ false
    → zone_hit number sight zone ≡ None

module _ {Y : Type 0} (g : Y → PlainZone) (ys : List Y) (all : PlainZones) (are : map g ys ≡ all) (limit : length ys ≤ ZONE_LIMIT) (s : PlainSummaries) (knows : KnowsAll all s) (k n : ℕ) (y : Y) (lt : k < length ys) (is : y ≡ get_or ys k y) (count : n ≡ k) where
  there : zone_at all (n + 1) ≡ Some (g y)
  there = ap (λ (zones : PlainZones). zone_at zones (n + 1)) (sym are) ∙ zone_here g ys k (n + 1) y lt is (omega (arith, count))

  pub within : n + 1 ≤ ZONE_LIMIT
  within = omega (arith, count, lt, limit)

  -- whether the zone has rules of a kind
  pub has_here : (kind : Kind) → has_zone (zones_having s kind) (n + 1) ≡ has_kind_in kind (g y).origin (g y).content
  has_here kind = having_is all s (n + 1) (g y) kind knows (omega arith) within there

  -- the zone is passed over
  pub passed_here : NoHit → (sight : PlainSight) (zone : PlainZone) → AreOfNames s → HaveRows all → zone ≡ g y → is_candidate s sight (n + 1) ≡ false → zone_hit (n + 1) sight zone ≡ None
  passed_here law sight zone names rows same none =
      ap (zone_hit (n + 1) sight) same
      ∙ law (n + 1) sight (g y) s names (rows_get all (n + 1 - 1) (g y) rows (place_of all (n + 1) (g y) there)) (knows.each (n + 1) (g y) (omega arith) within there) none

-- ---- where no zone has rules of a kind, and where none is a candidate

none_there : (zones n : ℕ) → (zones == 0) ≡ true → has_zone zones n ≡ false
none_there zones n none = ap (λ (z : ℕ). has_zone z n) (eqb-true zones 0 none) ∙ no_zone n

needs_none : (overrides : List Override) (kind : Kind) (hit : Option PlainHit) (zones : PlainZones) (m : ℕ) → ((k : ℕ) (zone : PlainZone) → slice_get zones k ≡ Some zone → has_kind_in kind zone.origin zone.content ≡ false) → zones_need overrides kind m hit zones ≡ false
needs_none overrides kind hit [] m none = refl
needs_none overrides kind hit (z ∷ zones) m none =
    ap (λ (b : Bool). (b && kind_could_rule overrides kind m hit) || zones_need overrides kind (m + 1) hit zones) (none 0 z refl)
    ∙ needs_none overrides kind hit zones (m + 1) (λ k zone e. none (suc k) zone e)

hits_none : (overrides : List Override) (sight : PlainSight) (zones : PlainZones) (m : ℕ) → ((k n : ℕ) (zone : PlainZone) → n ≡ m + k → slice_get zones k ≡ Some zone → zone_hit n sight zone ≡ None) → zones_hit overrides m sight zones ≡ None
hits_none overrides sight [] m none = refl
hits_none overrides sight (z ∷ zones) m none =
    ap (λ (h : Option PlainHit). or_hit h (zones_hit overrides (m + 1) sight zones)) (none_under (over_at overrides m) (zone_hit m sight z) (none 0 m z (omega arith) refl))
    ∙ hits_none overrides sight zones (m + 1) (λ k n zone e at. none (suc k) n zone (omega (arith, e)) at)

by_place : (zones : PlainZones) (k n : ℕ) (zone : PlainZone) → n ≡ k + 1 → slice_get zones k ≡ Some zone → zone_at zones n ≡ Some zone
by_place zones k n zone e at =
    let place : n - 1 ≡ k = omega (arith, e) in
    at_place zones n (omega (arith, e)) ∙ ap (slice_get zones) place ∙ at

module _ {Y : Type 0} (g : Y → PlainZone) (ys : List Y) (all : PlainZones) (are : map g ys ≡ all) (limit : length ys ≤ ZONE_LIMIT) (s : PlainSummaries) (knows : KnowsAll all s) where
  below : (k : ℕ) (zone : PlainZone) → slice_get all k ≡ Some zone → k + 1 ≤ ZONE_LIMIT
  below k zone at = omega (arith, slice_get_within all k zone at, ap length are, length-map ys g, limit)

  -- no zone has rules of the kind
  pub none_needed : (overrides : List Override) (kind : Kind) (hit : Option PlainHit) → (zones_having s kind == 0) ≡ true → zones_need overrides kind 1 hit all ≡ false
  none_needed overrides kind hit none =
      needs_none overrides kind hit all 1
      (λ k zone at. sym (having_is all s (k + 1) zone kind knows (omega arith) (below k zone at) (by_place all k (k + 1) zone refl at)) ∙ none_there (zones_having s kind) (k + 1) none)

  -- no zone is a candidate
  pub none_hit : NoHit → (overrides : List Override) (sight : PlainSight) (zones : ℕ) → AreOfNames s → HaveRows all → ((n : ℕ) → has_zone zones n ≡ is_candidate s sight n) → (zones == 0) ≡ true → zones_hit overrides 1 sight all ≡ None
  none_hit law overrides sight zones names rows are_all none =
      hits_none overrides sight all 1
      (λ k n zone e at. law n sight zone s names (rows_get all k zone rows at) (knows.each n zone (omega (arith, e)) (omega (arith, e, below k zone at)) (by_place all k n zone (omega (arith, e)) at))
      (sym (are_all n) ∙ none_there zones n none))
