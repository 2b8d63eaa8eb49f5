-- A new version, with nothing loaded, stands for no entry.
use Rattle.std.proofs.Common.{◌≡◌, ℕ, List, [], ◌∷◌, map, refl, sym, ap, subst, ◌∙◌}
use Rattle.policy_override.specs.declared.zone_set.ZoneSet.{ZoneSet}
use Rattle.policy_override.specs.ZoneSet.{origins_in}
use Rattle.zone_rows.specs.Content.{unloaded}
use Rattle.policy_snapshot.specs.Stands.{PlainSnapshot, StandsFor, new_snapshot, origins_of}
use Rattle.policy_snapshot.proofs.Standing.{zones_behind-none}

-- zones of some origins have these origins
pub unloaded_origins : (origins : List (List (List ℕ))) → origins_of (map unloaded origins) ≡ origins
unloaded_origins [] = refl
unloaded_origins (origin ∷ origins) = ap (λ (l : List (List (List ℕ))). origin ∷ l) (unloaded_origins origins)

-- a new version is the policy of its settings after no transfer
pub new_stands : (settings : List ZoneSet) (version : PlainSnapshot) → version ≡ new_snapshot settings → StandsFor settings version []
new_stands settings version is =
    let origins = origins_in settings in
    let same = unloaded_origins origins in
    subst (λ (v : PlainSnapshot). StandsFor settings v []) (sym is) (record {
      origins_are = same;
      overrides_are = refl;
      stands = record { zones = sym (zones_behind-none (origins_of (map unloaded origins)) ∙ ap (map unloaded) same); accepted = refl };
      accepted = tt;
    })
