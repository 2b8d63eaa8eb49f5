-- What an index stands for, after each of its functions, in their words: `whole` is the value that contracts see.
use Rattle.std.proofs.Common.{◌≡◌, ℕ, List, Option, Some, None, refl, sym, ap, ◌∙◌, subst, IfSome}
use Rattle.std.specs.Option.{option_map}
use Rattle.trie_keys.specs.declared.marked.Marked.{Marked}
use Rattle.zone_index.proofs.TrieEdits.{at_place, places_with, places_without, well_at, well_with, well_without}
use Rattle.zone_index.proofs.Growing.{all_well_stay, places_stay}
use Rattle.zone_index.specs.Entry.{PlainEntry}
use Rattle.zone_index.specs.Groups.{AreAllWell, IsKeptAs, IsThere, IsWell, entry_in, places_in}
use Rattle.zone_index.specs.Places.{PlacesOf, PlainPlaces, entry_at, nothing_at, with_entry, without_entry}
use Rattle.zone_index.specs.declared.does.Does.{Does}
use Rattle.zone_index.specs.declared.group.Group.{Group}
use Rattle.zone_index.specs.declared.kept.Kept.{Kept}
use Rattle.zone_index.specs.declared.place.Place.{Place}

abbrev Kepts : Type 0
Kepts = PlacesOf (Marked ℕ Kept)

pub none_well : (groups : List Group) (places : Kepts) → places ≡ nothing_at → AreAllWell groups places
none_well groups places e =
    let none : AreAllWell groups nothing_at = record { client_ip = tt; qname = tt; response_ip = tt; nsdname = tt; nsip = tt; other = tt } in
    subst (λ p. AreAllWell groups p) (sym e) none

pub same_well : (groups other : List Group) (places made : Kepts) → other ≡ groups → made ≡ places → AreAllWell groups places → AreAllWell other made
same_well groups other places made g e well = subst (λ p. AreAllWell other p) (sym e) (subst (λ gs. AreAllWell gs places) (sym g) well)

nothing_of : {X Y : Type 0} (f : X → Y) (o : Option X) → option_map f o ≡ None → o ≡ None
nothing_of f None e = refl
nothing_of f (Some x) e = cc e

module _ (groups : List Group) (places : Kepts) (whole : PlainPlaces) (well : AreAllWell groups places) (view : places_in groups places ≡ whole) (place : Place) where
  pub there_at : (v : Marked ℕ Kept) → Some v ≡ entry_at places place → IsThere groups v
  there_at v e = let h : IfSome (Some v) (IsWell groups) = subst (λ o. IfSome o (IsWell groups)) (sym e) (well_at groups places well place) in h.there

  at_whole : option_map (entry_in groups) (entry_at places place) ≡ entry_at whole place
  at_whole = sym (at_place groups places place) ∙ ap (λ (p : PlainPlaces). entry_at p place) view

  pub got_at : (v : Marked ℕ Kept) (entry : PlainEntry) → Some v ≡ entry_at places place → entry ≡ entry_in groups v → Some entry ≡ entry_at whole place
  got_at v entry e h = ap (λ (x : PlainEntry). Some x) h ∙ ap (option_map (entry_in groups)) e ∙ at_whole

  pub none_at : None ≡ entry_at places place → None ≡ entry_at whole place
  none_at e = ap (option_map (entry_in groups)) e ∙ at_whole

  pub none_inside : entry_at whole place ≡ None → entry_at places place ≡ None
  none_inside e = nothing_of (entry_in groups) (entry_at places place) (at_whole ∙ e)

  pub taken_well : (made : Kepts) → made ≡ without_entry places place → AreAllWell groups made
  taken_well made e = subst (λ p. AreAllWell groups p) (sym e) (well_without groups places place well)

  pub taken_view : (made : Kepts) → made ≡ without_entry places place → places_in groups made ≡ without_entry whole place
  taken_view made e = ap (places_in groups) e ∙ places_without groups places place ∙ ap (λ (p : PlainPlaces). without_entry p place) view

  module _ (new : List Group) (numbers : List ℕ) (does : Does) (v : Marked ℕ Kept) (kept : IsKeptAs groups new numbers does v) (made : Kepts) (e : made ≡ with_entry places place v) where
    still_well : AreAllWell new places
    still_well = subst (λ gs. AreAllWell gs places) (sym kept.groups) (all_well_stay groups kept.more places well)

    still : places_in new places ≡ whole
    still = ap (λ gs. places_in gs places) kept.groups ∙ places_stay groups kept.more places well ∙ view

    pub put_well : AreAllWell new made
    put_well = subst (λ p. AreAllWell new p) (sym e) (well_with new places v place still_well kept.well)

    pub put_view : places_in new made ≡ with_entry whole place (record { numbers = numbers; does = does })
    put_view =
        ap (places_in new) e
        ∙ places_with new places v place
        ∙ (λ i. with_entry (still i) place (kept.entry i))
