-- The loop that finds the best hit of the first zone that has one: what is left of the zones.
use Rattle.std.proofs.Common.{◌≡◌, ℕ, ◌+◌, ◌<◌, ◌≤◌, true, false, Option, Some, None, is_some, List, map, drop, length, get_or, refl, sym, ap, ◌∙◌, true≢false}
use Rattle.std.specs.Option.{option_map}
use Rattle.zone_rows.specs.declared.zone.PlainZone.{PlainZone}
use Rattle.policy_override.specs.declared.overrides.Override.{Override}
use Rattle.rpz_precedence.specs.Best.{PlainHit}
use Rattle.rpz_precedence.specs.Seen.{hit_seen}
use Rattle.rpz_precedence.specs.declared.hit.Hit.{Hit}
use Rattle.policy_snapshot.specs.Lookup.{or_hit, ruled_hit, zones_hit}
use Rattle.policy_snapshot.specs.Sight.{PlainSight}
use Rattle.policy_snapshot.proofs.ZoneLoops.{left_at, nothing_of}

-- The hit of all zones is that of those that are left after so many, which is also the number of the last one before.
pub record SameHit (overrides : List Override) (n k : ℕ) (sight : PlainSight) (all : List PlainZone) : Type 0 where
  pub count : n ≡ k
  pub same : zones_hit overrides 1 sight all ≡ zones_hit overrides (n + 1) sight (drop k all)

module _ {Y : Type 0} (g : Y → PlainZone) (overrides : List Override) (sight : PlainSight) where
  hit_step : (ys : List Y) (n k : ℕ) (y : Y) → k < length ys → y ≡ get_or ys k y → SameHit overrides n k sight (map g ys)
      → zones_hit overrides 1 sight (map g ys) ≡ or_hit (ruled_hit overrides (n + 1) sight (g y)) (zones_hit overrides (n + 1 + 1) sight (drop (k + 1) (map g ys)))
  hit_step ys n k y lt is s = s.same ∙ ap (zones_hit overrides (n + 1) sight) (left_at g ys k y lt is)

  none_before : (hit : Option Hit) (rest : Option PlainHit) → is_some hit ≡ false → or_hit (option_map hit_seen hit) rest ≡ rest
  none_before None rest t = refl
  none_before (Some hit) rest t = absurd (true≢false t)

  some_before : (hit : Option Hit) (rest : Option PlainHit) → is_some hit ≡ true → or_hit (option_map hit_seen hit) rest ≡ option_map hit_seen hit
  some_before None rest t = absurd (true≢false (sym t))
  some_before (Some hit) rest t = refl

  pub hit_later : (ys : List Y) (n k : ℕ) (y : Y) (hit : Option Hit) → k < length ys → y ≡ get_or ys k y → SameHit overrides n k sight (map g ys) → option_map hit_seen hit ≡ ruled_hit overrides (n + 1) sight (g y) → is_some hit ≡ false
      → SameHit overrides (n + 1) (k + 1) sight (map g ys)
  hit_later ys n k y hit lt is s e t = record {
    count = ap (λ (m : ℕ). m + 1) s.count;
    same =
        hit_step ys n k y lt is s ∙ ap (λ (h : Option PlainHit). or_hit h (zones_hit overrides (n + 1 + 1) sight (drop (k + 1) (map g ys)))) (sym e)
        ∙ none_before hit (zones_hit overrides (n + 1 + 1) sight (drop (k + 1) (map g ys))) t;
  }

  pub hit_here : (ys : List Y) (n k : ℕ) (y : Y) (hit : Option Hit) → k < length ys → y ≡ get_or ys k y → SameHit overrides n k sight (map g ys) → option_map hit_seen hit ≡ ruled_hit overrides (n + 1) sight (g y) → is_some hit ≡ true
      → option_map hit_seen hit ≡ zones_hit overrides 1 sight (map g ys)
  hit_here ys n k y hit lt is s e t =
      sym (hit_step ys n k y lt is s ∙ ap (λ (h : Option PlainHit). or_hit h (zones_hit overrides (n + 1 + 1) sight (drop (k + 1) (map g ys)))) (sym e)
      ∙ some_before hit (zones_hit overrides (n + 1 + 1) sight (drop (k + 1) (map g ys))) t)

  pub hit_nowhere : (ys : List Y) (n k : ℕ) → length ys ≤ k → SameHit overrides n k sight (map g ys) → None ≡ zones_hit overrides 1 sight (map g ys)
  hit_nowhere ys n k le s = sym (s.same ∙ ap (zones_hit overrides (n + 1) sight) (nothing_of g ys k le))
