-- A name in full: its suffixes are taken into the table, and its places are occurrences.
use Rattle.std.proofs.Common.{◌≡◌, ℕ, ◌+◌, Option, Some, None, List, [], ◌∷◌, ◌++◌, length, refl, sym, ap, ◌∙◌, append_assoc, arith, length-append}
use Rattle.std.proofs.lemmas.List.{append-nil}
use Rattle.dns_name.specs.Labels.{IsName, label_octets, name_octets}
use Rattle.dns_name.proofs.Standing.{name_written}
use Rattle.dns_name.proofs.WireLemmas.{name_octets-cons, IsName-rest}
use Rattle.packed_names.specs.Places.{Place, first_offset, reachable_place, unless_found, new_places_in_full}
use Rattle.packed_names.specs.Occurrence.{IsOccurrence, AreOccurrences}
use Rattle.packed_names.proofs.ReadLemmas.{begins_at, occurrences-append, occurrences_more, reachable_place_occurs}

pub in_full-root : (places : List Place) (at : ℕ) → new_places_in_full places at [] ≡ []
unfolding new_places_in_full
in_full-root places at = refl

pub in_full-cons : (places : List Place) (at : ℕ) (l : List ℕ) (ls : List (List ℕ)) → new_places_in_full places at (l ∷ ls) ≡ unless_found (first_offset places (l ∷ ls)) (reachable_place at (l ∷ ls)) ++ new_places_in_full places (at + length l + 1) ls
unfolding new_places_in_full
in_full-cons places at l ls = refl

-- a name in full is read at the offset of its first label
full_name_occurs : (message : List ℕ) (place : ℕ) (l : List ℕ) (ls : List (List ℕ)) (front more : List ℕ) → IsName (l ∷ ls) → message ≡ front ++ (name_octets (l ∷ ls) ++ more) → length front ≡ place → IsOccurrence message (record { offset = place; labels = l ∷ ls })
full_name_occurs message place l ls front more name is len =
    let after = place + length (name_octets (l ∷ ls)) in
    record {
      inside = omega (arith, ap length is, length-append front (name_octets (l ∷ ls) ++ more), length-append (name_octets (l ∷ ls)) more, ap length (name_octets-cons l ls));
      stands = (after, name_written (l ∷ ls) message place after name (record { begins = begins_at front (name_octets (l ∷ ls)) more message place is len; ends = refl }));
    }

unless_found_occurs : (message : List ℕ) (o : Option ℕ) (places : List Place) → AreOccurrences message places → AreOccurrences message (unless_found o places)
unless_found_occurs message None places h = h
unless_found_occurs message (Some t) places h = tt

in_full_occurs_at : (places : List Place) (message : List ℕ) (place : ℕ) (labels : List (List ℕ)) (front more : List ℕ) → IsName labels → message ≡ front ++ (name_octets labels ++ more) → length front ≡ place → AreOccurrences message (new_places_in_full places place labels)
unfolding new_places_in_full
in_full_occurs_at places message place [] front more name is len = tt
in_full_occurs_at places message place (l ∷ ls) front more name is len =
    let rest : message ≡ (front ++ label_octets l) ++ (name_octets ls ++ more) =
    is ∙ ap (λ (o : List ℕ). front ++ (o ++ more)) (name_octets-cons l ls) ∙ ap (λ (o : List ℕ). front ++ o) (append_assoc (label_octets l) (name_octets ls) more) ∙ sym (append_assoc front (label_octets l) (name_octets ls ++ more)) in
    occurrences-append message (unless_found (first_offset places (l ∷ ls)) (reachable_place place (l ∷ ls))) (new_places_in_full places (place + length l + 1) ls)
    (unless_found_occurs message (first_offset places (l ∷ ls)) (reachable_place place (l ∷ ls)) (reachable_place_occurs message place (l ∷ ls) (full_name_occurs message place l ls front more name is len)))
    (in_full_occurs_at places message (place + length l + 1) ls (front ++ label_octets l) more (IsName-rest l ls name) rest (omega (arith, length-append front (label_octets l))))

pub in_full_occurs : (places : List Place) (message : List ℕ) (name : List (List ℕ)) → AreOccurrences message places → IsName name → AreOccurrences (message ++ name_octets name) (places ++ new_places_in_full places (length message) name)
in_full_occurs places message name occur is =
    let whole = message ++ name_octets name in
    let nil : whole ≡ message ++ (name_octets name ++ []) = ap (λ (x : List ℕ). message ++ x) (sym (append-nil (name_octets name))) in
    occurrences-append whole places (new_places_in_full places (length message) name) (occurrences_more places message (name_octets name) occur)
    (in_full_occurs_at places whole (length message) name message [] is nil refl)
