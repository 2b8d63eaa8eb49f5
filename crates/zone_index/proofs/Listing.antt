-- Rows that are listed by the octets of their places, with one more.
use Rattle.std.proofs.Common.{◌≡◌, ℕ, zero, suc, ◌+◌, Result, Ok, Err, Some, List, [], ◌∷◌, ◌++◌, take, slice_get, sym, ◌∙◌, subst}
use Rattle.std.specs.List.{AllByRecursion}
use Rattle.std.specs.Prelude.{All, IfOk, OnOk}
use Rattle.std.proofs.lemmas.List.{map-append}
use Rattle.packed_lists.specs.Keyed.{PlainKeyed}
use Rattle.packed_lists.specs.Stored.{PlainStored}
use Rattle.zone_index.specs.Gathering.{IsListed, keyed_rows}
use Rattle.zone_index.specs.Placed.{row_place}
use Rattle.zone_index.specs.PlaceOctets.{IsSized, place_octets}
use Rattle.zone_index.specs.declared.place.Place.{Place}
use Rattle.zone_rows.specs.Stored.{IsStored, plain_row}
use Rattle.zone_rows.proofs.Places.{take_item}
use Rattle.zone_index.proofs.Filled.{all_more}
use Rattle.zone_index.proofs.Numbered.{all_recursion}

module _ (origin : List (List ℕ)) (rows : List PlainStored) (at : ℕ) (t : PlainStored) (got : slice_get rows at ≡ Some t) where
  pub row_listed : (place : Place) → place ≡ row_place origin (plain_row t) → IsSized place → {octets : List ℕ} → octets ≡ place_octets place → (list new : List PlainKeyed) → IsListed origin (take at rows) list
      → new ≡ list ++ record { key = octets; number = t.number } ∷ [] → IsListed origin (take (at + 1) rows) new
  row_listed place is sized written list new before e =
      let one : new ≡ keyed_rows origin (take at rows ++ t ∷ []) =
      e
      ∙ (λ i. list ++ record { key = written i; number = t.number } ∷ [])
      ∙ (λ i. before.listed i ++ record { key = place_octets (is i); number = t.number } ∷ [])
      ∙ sym (map-append (λ s. record { key = place_octets (row_place origin (plain_row s)); number = s.number }) (take at rows) (t ∷ [])) in
      let now : IsListed origin (take at rows ++ t ∷ []) new = record {
        listed = one;
        sized = all_more (λ s. IsSized (row_place origin (plain_row s))) (take at rows) t before.sized (subst IsSized is sized);
      } in
      subst (λ (l : List PlainStored). IsListed origin l new) (sym (take_item rows at t got)) now

pub none_listed : (origin : List (List ℕ)) (rows : List PlainStored) (list : List PlainKeyed) → list ≡ [] → IsListed origin (take 0 rows) list
none_listed origin rows list e = record { listed = e; sized = tt }

-- what is put where nothing was refused
pub where_ok : {X E : Type 0} (r : Result X E) (P Q : Type 0) → IfOk r (λ _. P) → (P → Q) → OnOk r Q
where_ok (Ok x) P Q h f = f h
where_ok (Err e) P Q h f = tt

-- the row at a place is stored
at_of : (rows : List PlainStored) (at : ℕ) (t : PlainStored) → AllByRecursion IsStored rows → slice_get rows at ≡ Some t → IsStored t
at_of [] at t all e = cc e
at_of (s ∷ rows) zero t all e = let same : Some s ≡ Some t = e in subst IsStored (cc same) all.0
at_of (s ∷ rows) (suc at) t all e = at_of rows at t all.1 e

pub stored_there : (rows : List PlainStored) (at : ℕ) (t : PlainStored) → All IsStored rows → slice_get rows at ≡ Some t → IsStored t
stored_there rows at t are got = at_of rows at t (all_recursion IsStored rows are) got
