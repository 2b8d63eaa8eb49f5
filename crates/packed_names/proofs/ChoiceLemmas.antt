-- Which suffix is replaced with a pointer, and where the pointer leads.
use Rattle.std.proofs.Common.{◌≡◌, ◌≢◌, ℕ, ◌≤◌, Option, Some, None, List, [], ◌∷◌, ◌++◌, length, refl, sym, ap, ◌∙◌, append_assoc, arith, length-append}
use Rattle.std.specs.List.{flat_map}
use Rattle.std.proofs.lemmas.List.{append-nil}
use Rattle.dns_name.specs.Labels.{IsName, label_octets, name_octets}
use Rattle.dns_name.proofs.WireLemmas.{name_octets-cons}
use Rattle.packed_names.specs.Places.{Place, same_octets, first_offset, pointer_octets, pointer_or, compressed_octets}
use Rattle.packed_names.specs.Occurrence.{HaveOtherNames, HasNoLongerMatch}
use Rattle.packed_names.proofs.ReadLemmas.{same_is}
use Rattle.packed_names.proofs.TableLemmas.{first-self, first-append, none-append}
use Rattle.packed_names.proofs.CompressLemmas.{longer_if, compressed_octets-found, compressed_octets-none, compressed_octets-root}

pub longest : (places : List Place) (front suffix : List (List ℕ)) (t : ℕ) → suffix ≢ [] → first_offset places suffix ≡ Some t → HasNoLongerMatch places front suffix → compressed_octets places (front ++ suffix) ≡ flat_map label_octets front ++ pointer_octets t
longest places [] suffix t some found none = compressed_octets-found places suffix t found some
longest places (l ∷ front) suffix t some found none =
    compressed_octets-none places l (front ++ suffix) (none [] (l ∷ front) refl (λ e. cc))
    ∙ ap (λ (o : List ℕ). label_octets l ++ o) (longest places front suffix t some found (λ a b e more. none (l ∷ a) b (ap (λ (x : List (List ℕ)). l ∷ x) e) more))
    ∙ sym (append_assoc (label_octets l) (flat_map label_octets front) (pointer_octets t))

pub in_full : (places : List Place) (name : List (List ℕ)) → HasNoLongerMatch places name [] → compressed_octets places name ≡ name_octets name
in_full places [] none = compressed_octets-root places
in_full places (l ∷ ls) none =
    compressed_octets-none places l ls (ap (λ (x : List (List ℕ)). first_offset places (l ∷ x)) (sym (append-nil ls)) ∙ none [] (l ∷ ls) refl (λ e. cc))
    ∙ ap (λ (o : List ℕ). label_octets l ++ o) (in_full places ls (λ a b e more. none (l ∷ a) b (ap (λ (x : List (List ℕ)). l ∷ x) e) more))
    ∙ sym (name_octets-cons l ls)

pub others_none : (places : List Place) (name : List (List ℕ)) → IsName name → HaveOtherNames places name → first_offset places name ≡ None
unfolding first_offset
others_none [] name is h = refl
others_none (p ∷ places) name is h =
    longer_if (same_octets p.labels name) p.offset (first_offset places name) (λ same. h.0.1 (same_is p.labels name h.0.0 is same)) (others_none places name is h.1)

pub first_found : (before behind : List Place) (place : Place) → IsName place.labels → HaveOtherNames before place.labels → first_offset (before ++ place ∷ behind) place.labels ≡ Some place.offset
first_found before behind place is h =
    none-append before (place ∷ behind) place.labels (others_none before place.labels is h) ∙ first-append (place ∷ []) behind place.labels place.offset (first-self place)

-- a pointer is no longer than the octets of a label and of the name behind it
no_longer_by : (o : Option ℕ) (l : List ℕ) (ls : List (List ℕ)) (rest : List ℕ) → length rest ≤ length (name_octets ls) → length (pointer_or o (label_octets l ++ rest)) ≤ length (name_octets (l ∷ ls))
no_longer_by None l ls rest h = omega (arith, h, length-append l rest, ap length (name_octets-cons l ls), length-append l (name_octets ls))
no_longer_by (Some t) l ls rest h = omega (arith, ap length (name_octets-cons l ls), length-append l (name_octets ls), length-append (flat_map label_octets ls) (0 ∷ []))

pub no_longer : (places : List Place) (name : List (List ℕ)) → length (compressed_octets places name) ≤ length (name_octets name)
unfolding compressed_octets
no_longer places [] = omega arith
no_longer places (l ∷ ls) = no_longer_by (first_offset places (l ∷ ls)) l ls (compressed_octets places ls) (no_longer places ls)
