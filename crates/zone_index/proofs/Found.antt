-- What look-ups among values find, and for what it stands.
use Rattle.std.proofs.Common.{◌≡◌, ℕ, Bool, ◌&&◌, List, [], ◌∷◌, Option, Some, None, IfSome, sym, ap, ◌∙◌, subst}
use Rattle.std.specs.List.{find}
use Rattle.std.specs.Option.{option_map}
use Rattle.trie_keys.specs.declared.marked.Marked.{Marked}
use Rattle.trigger_codec.specs.declared.trigger.Kind.{Kind}
use Rattle.trigger_codec.specs.declared.trigger.Kind.TheVariants.{ClientIp, Qname, ResponseIp, NsDname, NsIp}
use Rattle.zone_index.proofs.Mapped.{AreAlike, any_moved, entry_found, find_moved, moved}
use Rattle.zone_index.specs.Counted.{has_kept, some_kept}
use Rattle.zone_index.specs.Does.{acts}
use Rattle.zone_index.specs.Entry.{PlainEntry}
use Rattle.zone_index.specs.Groups.{AreAllWell, AreWell, IsThere, IsWell, entries_in, entry_in, places_in}
use Rattle.zone_index.specs.Kept.{kept_acts}
use Rattle.zone_index.specs.Places.{PlacesOf, has_rule, some_acts}
use Rattle.zone_index.specs.declared.group.Group.{Group}
use Rattle.zone_index.specs.declared.kept.Kept.{Kept}

module _ {K : Type 0} (groups : List Group) where
  module _ (test : K → Bool) where
    abbrev kept_hit : K × Marked ℕ Kept → Bool
    kept_hit e = test e.0 && kept_acts e.1.mark

    abbrev hit : K × PlainEntry → Bool
    hit e = test e.0 && acts e.1.does

    alike : (es : List (K × Marked ℕ Kept)) → AreWell groups es → AreAlike (entry_in groups) kept_hit hit es
    alike [] all = tt
    alike (e ∷ es) all = (ap (λ b. test e.0 && b) (sym all.0.acts_so), alike es all.1)

    pub found : (es : List (K × Marked ℕ Kept)) → AreWell groups es → find hit (entries_in groups es) ≡ option_map (moved (entry_in groups)) (find kept_hit es)
    found es all = find_moved (entry_in groups) kept_hit hit es (alike es all)

    well_found : (es : List (K × Marked ℕ Kept)) → AreWell groups es → (x : K × Marked ℕ Kept) → Some x ≡ find kept_hit es → IsWell groups x.1
    well_found es all x e = subst (λ o. IfSome o (λ y. IsWell groups y.1)) (sym e) (entry_found (λ (y : K × Marked ℕ Kept). IsWell groups y.1) kept_hit es all)

    -- the value that is found has its group
    pub there : (es : List (K × Marked ℕ Kept)) → AreWell groups es → (x : K × Marked ℕ Kept) → Some x ≡ find kept_hit es → IsThere groups x.1
    there es all x e = let well : IsWell groups x.1 = well_found es all x e in well.there

    pub got : (es : List (K × Marked ℕ Kept)) → AreWell groups es → (x : K × Marked ℕ Kept) (entry : PlainEntry) → Some x ≡ find kept_hit es → entry ≡ entry_in groups x.1 → Some (x.0, entry) ≡ find hit (entries_in groups es)
    got es all x entry e h =
        ap (λ (y : PlainEntry). let r : Option (K × PlainEntry) = Some (x.0, y) in r) h
        ∙ ap (option_map (moved (entry_in groups))) e
        ∙ sym (found es all)

    pub got_none : (es : List (K × Marked ℕ Kept)) → AreWell groups es → None ≡ find kept_hit es → None ≡ find hit (entries_in groups es)
    got_none es all e = ap (option_map (moved (entry_in groups))) e ∙ sym (found es all)

  acting_alike : (es : List (K × Marked ℕ Kept)) → AreWell groups es → AreAlike (entry_in groups) (λ e. kept_acts e.1.mark) (λ e. acts e.1.does) es
  acting_alike [] all = tt
  acting_alike (e ∷ es) all = (sym all.0.acts_so, acting_alike es all.1)

  pub some_found : (es : List (K × Marked ℕ Kept)) → AreWell groups es → some_acts (entries_in groups es) ≡ some_kept es
  some_found es all = any_moved (entry_in groups) (λ e. kept_acts e.1.mark) (λ e. acts e.1.does) es (acting_alike es all)

pub has_found : (groups : List Group) (places : PlacesOf (Marked ℕ Kept)) (kind : Kind) → AreAllWell groups places → has_kept places.rules kind ≡ has_rule (places_in groups places).rules kind
has_found groups places ClientIp well = sym (some_found groups places.rules.client_ip well.client_ip)
has_found groups places Qname well = sym (some_found groups places.rules.qname well.qname)
has_found groups places ResponseIp well = sym (some_found groups places.rules.response_ip well.response_ip)
has_found groups places NsDname well = sym (some_found groups places.rules.nsdname well.nsdname)
has_found groups places NsIp well = sym (some_found groups places.rules.nsip well.nsip)
