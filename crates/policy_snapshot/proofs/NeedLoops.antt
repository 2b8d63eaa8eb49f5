-- A loop over zones that looks for one whose rules of a kind could decide.
use Rattle.std.proofs.Common.{◌≡◌, ℕ, ◌+◌, ◌<◌, ◌≤◌, Bool, true, false, ◌&&◌, ◌||◌, Option, List, map, drop, length, get_or, sym, ap, ◌∙◌, arith}
use Rattle.std.proofs.lemmas.List.{length-map, drop_all}
use Rattle.zone_rows.specs.declared.zone.PlainZone.{PlainZone}
use Rattle.trigger_codec.specs.declared.trigger.Kind.{Kind}
use Rattle.policy_override.specs.declared.overrides.Override.{Override}
use Rattle.rpz_precedence.specs.Best.{PlainHit}
use Rattle.policy_snapshot.specs.Lookup.{has_kind_in, kind_could_rule, zones_need}
use Rattle.policy_snapshot.proofs.ZoneLoops.{left_at}

-- Some zone needs it exactly where one does that is left after so many, which is also the number of the last one before.
pub record SameNeed (overrides : List Override) (kind : Kind) (n k : ℕ) (hit : Option PlainHit) (all : List PlainZone) : Type 0 where
  pub count : n ≡ k
  pub same : zones_need overrides kind 1 hit all ≡ zones_need overrides kind (n + 1) hit (drop k all)

module _ {Y : Type 0} (g : Y → PlainZone) (overrides : List Override) (kind : Kind) (hit : Option PlainHit) where
  abbrev needs_here : ℕ → PlainZone → Bool
  needs_here n zone = has_kind_in kind zone.origin zone.content && kind_could_rule overrides kind n hit

  need_step : (ys : List Y) (n k : ℕ) (y : Y) → k < length ys → y ≡ get_or ys k y → SameNeed overrides kind n k hit (map g ys)
      → zones_need overrides kind 1 hit (map g ys) ≡ (needs_here (n + 1) (g y) || zones_need overrides kind (n + 1 + 1) hit (drop (k + 1) (map g ys)))
  need_step ys n k y lt is s = s.same ∙ ap (zones_need overrides kind (n + 1) hit) (left_at g ys k y lt is)

  pub need_later : (ys : List Y) (n k : ℕ) (y : Y) → k < length ys → y ≡ get_or ys k y → SameNeed overrides kind n k hit (map g ys) → needs_here (n + 1) (g y) ≡ false → SameNeed overrides kind (n + 1) (k + 1) hit (map g ys)
  need_later ys n k y lt is s e = record {
    count = ap (λ (m : ℕ). m + 1) s.count;
    same = need_step ys n k y lt is s ∙ ap (λ (b : Bool). b || zones_need overrides kind (n + 1 + 1) hit (drop (k + 1) (map g ys))) e;
  }

  pub need_here : (ys : List Y) (n k : ℕ) (y : Y) → k < length ys → y ≡ get_or ys k y → SameNeed overrides kind n k hit (map g ys) → needs_here (n + 1) (g y) ≡ true → true ≡ zones_need overrides kind 1 hit (map g ys)
  need_here ys n k y lt is s e = sym (need_step ys n k y lt is s ∙ ap (λ (b : Bool). b || zones_need overrides kind (n + 1 + 1) hit (drop (k + 1) (map g ys))) e)

  pub need_nowhere : (ys : List Y) (n k : ℕ) → length ys ≤ k → SameNeed overrides kind n k hit (map g ys) → false ≡ zones_need overrides kind 1 hit (map g ys)
  need_nowhere ys n k le s = sym (s.same ∙ ap (zones_need overrides kind (n + 1) hit) (drop_all k (map g ys) (omega (arith, length-map ys g, le))))
