-- The places that the written labels of a name add.
use Rattle.std.proofs.Common.{◌≡◌, ℕ, ◌+◌, ◌≤◌, ◌<◌, min, ◌⊎◌, inl, inr, true, false, ltb, Option, Some, None, List, [], ◌∷◌, ◌++◌, length, take, refl, sym, ap, ◌∙◌, append_assoc, arith, length-append}
use Rattle.std.proofs.Math.Seq.{take-append-add}
use Rattle.std.proofs.lemmas.Bool.{cases_lt, lt-ltb, le-ltb}
use Rattle.std.proofs.lemmas.List.{append-nil}
use Rattle.dns_name.specs.Labels.{label_octets, name_octets}
use Rattle.dns_name.specs.Wire.{labels_in, IsWire}
use Rattle.dns_name.proofs.WireLemmas.{name_octets-cons}
use Rattle.packed_names.specs.declared.recent.RecentName.{RecentName}
use Rattle.packed_names.specs.Places.{Place, first_offset, pointer_or, compressed_octets, reachable_place, unless_found, new_places, new_places_in_full}
use Rattle.packed_names.specs.Recent.{added_places, known_after, count_before_match, match_offset}
use Rattle.packed_names.proofs.CompressLemmas.{compressed_octets-found, compressed_octets-none, compressed_octets-root, new_places-found, new_places-none, new_places-root}
use Rattle.packed_names.proofs.InsertLemmas.{in_full-root, in_full-cons}
use Rattle.packed_names.proofs.RecentLemmas.{added-root, added-label, added-past, count-none, count-found, count-root, match-none, match-found, match-root}

-- a place up to which pointers reach, or not
pub reachable_near : (at : ℕ) (name : List (List ℕ)) → at < 16384 → reachable_place at name ≡ record { offset = at; labels = name } ∷ []
reachable_near at name lt = let near : ltb at 16384 ≡ true = lt-ltb at 16384 lt in rw near refl

reachable_far : (at : ℕ) (name : List (List ℕ)) → 16384 ≤ at → reachable_place at name ≡ []
reachable_far at name le = let far : ltb at 16384 ≡ false = le-ltb at 16384 le in rw far refl

unless_nothing : (o : Option ℕ) → unless_found o [] ≡ []
unless_nothing None = refl
unless_nothing (Some t) = refl

-- a name in full
in_full_far : (places : List Place) (at : ℕ) (labels : List (List ℕ)) → 16384 ≤ at → new_places_in_full places at labels ≡ []
in_full_far places at [] le = in_full-root places at
in_full_far places at (l ∷ ls) le =
    let o = first_offset places (l ∷ ls) in
    let rest = new_places_in_full places (at + length l + 1) ls in
    in_full-cons places at l ls
    ∙ ap (λ (ps : List Place). unless_found o ps ++ rest) (reachable_far at (l ∷ ls) le)
    ∙ ap (λ (ps : List Place). ps ++ rest) (unless_nothing o)
    ∙ in_full_far places (at + length l + 1) ls (omega arith)

pub in_full_added : (places : List Place) (at end : ℕ) (labels : List (List ℕ)) → end ≤ 16384 → ((at + length (name_octets labels) ≤ end) ⊎ (end ≡ 16384)) → new_places_in_full places at labels ≡ added_places places at end labels
in_full_added places at end [] near h = in_full-root places at ∙ sym (added-root places at end)
in_full_added places at end (l ∷ ls) near h =
    let o = first_offset places (l ∷ ls) in
    let p : Place = record { offset = at; labels = l ∷ ls } in
    let next = at + length l + 1 in
    elim (cases_lt at end) [
      | inl less ↦
          in_full-cons places at l ls
          ∙ ap (λ (ps : List Place). unless_found o ps ++ new_places_in_full places next ls) (reachable_near at (l ∷ ls) (omega arith))
          ∙ ap (λ (ps : List Place). unless_found o (p ∷ []) ++ ps) (in_full_added places next end ls near (elim h [
            | inl fits ↦ inl (omega (arith, ap length (name_octets-cons l ls), length-append l (name_octets ls)))
            | inr is ↦ inr is
          ]))
          ∙ sym (added-label places at end l ls less)
      | inr more ↦ elim h [
        | inl fits ↦ absurd (omega (arith, ap length (name_octets-cons l ls)))
        | inr is ↦ in_full_far places at (l ∷ ls) (omega arith) ∙ sym (added-past places at end (l ∷ ls) more)
      ]
    ]

-- a compressed name
new_places-cons : (places : List Place) (at : ℕ) (l : List ℕ) (ls : List (List ℕ)) → new_places places at (l ∷ ls) ≡ unless_found (first_offset places (l ∷ ls)) (reachable_place at (l ∷ ls) ++ new_places places (at + length l + 1) ls)
unfolding new_places
new_places-cons places at l ls = refl

new_far : (places : List Place) (at : ℕ) (labels : List (List ℕ)) → 16384 ≤ at → new_places places at labels ≡ []
new_far places at [] le = new_places-root places at
new_far places at (l ∷ ls) le =
    let o = first_offset places (l ∷ ls) in
    new_places-cons places at l ls
    ∙ ap (λ (ps : List Place). unless_found o (ps ++ new_places places (at + length l + 1) ls)) (reachable_far at (l ∷ ls) le)
    ∙ ap (λ (ps : List Place). unless_found o ps) (new_far places (at + length l + 1) ls (omega arith))
    ∙ unless_nothing o

-- up to where the labels reach that are written of a compressed name
abbrev pub EndsAt : List Place → ℕ → ℕ → List (List ℕ) → Type 0
EndsAt places at end labels = (end ≡ at + count_before_match places labels) ⊎ ((end ≡ 16384) × (16384 ≤ at + count_before_match places labels))

new_added_by : (places : List Place) (at end : ℕ) (l : List ℕ) (ls : List (List ℕ)) (o : Option ℕ) → first_offset places (l ∷ ls) ≡ o → end ≤ 16384 → EndsAt places at end (l ∷ ls)
    → (EndsAt places (at + length l + 1) end ls → new_places places (at + length l + 1) ls ≡ added_places places (at + length l + 1) end ls)
    → new_places places at (l ∷ ls) ≡ added_places places at end (l ∷ ls)
new_added_by places at end l ls (Some t) e near h go =
    let zero : count_before_match places (l ∷ ls) ≡ 0 = count-found places (l ∷ ls) t e in
    let past : end ≤ at = elim h [ inl is ↦ omega arith | inr far ↦ omega (arith, far.0, far.1) ] in
    new_places-found places at (l ∷ ls) t e (λ root. cc) ∙ sym (added-past places at end (l ∷ ls) past)
new_added_by places at end l ls None e near h go =
    let p : Place = record { offset = at; labels = l ∷ ls } in
    let next = at + length l + 1 in
    let count : count_before_match places (l ∷ ls) ≡ length l + 1 + count_before_match places ls = count-none places l ls e in
    elim (cases_lt at end) [
      | inl less ↦
          new_places-none places at l ls e
          ∙ ap (λ (ps : List Place). ps ++ new_places places next ls) (reachable_near at (l ∷ ls) (omega arith))
          ∙ ap (λ (ps : List Place). (p ∷ []) ++ ps) (go (elim h [ inl is ↦ inl (omega arith) | inr far ↦ inr (far.0, omega (arith, far.1)) ]))
          ∙ ap (λ (v : Option ℕ). unless_found v (p ∷ []) ++ added_places places next end ls) (sym e)
          ∙ sym (added-label places at end l ls less)
      | inr more ↦ elim h [
        | inl is ↦ absurd (omega arith)
        | inr far ↦ new_far places at (l ∷ ls) (omega (arith, far.0)) ∙ sym (added-past places at end (l ∷ ls) more)
      ]
    ]

pub new_added : (places : List Place) (at end : ℕ) (labels : List (List ℕ)) → end ≤ 16384 → EndsAt places at end labels → new_places places at labels ≡ added_places places at end labels
new_added places at end [] near h = new_places-root places at ∙ sym (added-root places at end)
new_added places at end (l ∷ ls) near h = new_added_by places at end l ls (first_offset places (l ∷ ls)) refl near h (new_added places (at + length l + 1) end ls near)

compressed_by : (places : List Place) (l : List ℕ) (ls : List (List ℕ)) (o : Option ℕ) → first_offset places (l ∷ ls) ≡ o
    → compressed_octets places ls ≡ take (count_before_match places ls) (name_octets ls) ++ pointer_or (match_offset places ls) (0 ∷ [])
    → compressed_octets places (l ∷ ls) ≡ take (count_before_match places (l ∷ ls)) (name_octets (l ∷ ls)) ++ pointer_or (match_offset places (l ∷ ls)) (0 ∷ [])
compressed_by places l ls (Some t) e h =
    compressed_octets-found places (l ∷ ls) t e (λ root. cc)
    ∙ ap (λ (n : ℕ). take n (name_octets (l ∷ ls)) ++ pointer_or (Some t) (0 ∷ [])) (sym (count-found places (l ∷ ls) t e))
    ∙ ap (λ (v : Option ℕ). take (count_before_match places (l ∷ ls)) (name_octets (l ∷ ls)) ++ pointer_or v (0 ∷ [])) (sym (match-found places (l ∷ ls) t (λ root. cc) e))
compressed_by places l ls None e h =
    let count = count_before_match places ls in
    let tail = pointer_or (match_offset places ls) (0 ∷ []) in
    let total : length (label_octets l) + count ≡ count_before_match places (l ∷ ls) = omega (arith, count-none places l ls e) in
    compressed_octets-none places l ls e
    ∙ ap (λ (o : List ℕ). label_octets l ++ o) h
    ∙ sym (append_assoc (label_octets l) (take count (name_octets ls)) tail)
    ∙ ap (λ (o : List ℕ). o ++ tail) (sym (take-append-add (label_octets l) (name_octets ls) count) ∙ ap (λ (n : ℕ). take n (label_octets l ++ name_octets ls)) total ∙ ap (take (count_before_match places (l ∷ ls))) (sym (name_octets-cons l ls)))
    ∙ ap (λ (v : Option ℕ). take (count_before_match places (l ∷ ls)) (name_octets (l ∷ ls)) ++ pointer_or v (0 ∷ [])) (sym (match-none places l ls e))

pub compressed_match : (places : List Place) (name : List (List ℕ)) → compressed_octets places name ≡ take (count_before_match places name) (name_octets name) ++ pointer_or (match_offset places name) (0 ∷ [])
compressed_match places [] = rw (count-root places, match-root places) (compressed_octets-root places)
compressed_match places (l ∷ ls) = compressed_by places l ls (first_offset places (l ∷ ls)) refl (compressed_match places ls)

-- one more recent name
pub known_pushed : (places : List Place) (names : List RecentName) (name : RecentName) → known_after places (names ++ name ∷ []) ≡ known_after places names ++ added_places (known_after places names) name.start name.end (labels_in name.octets.now)
known_pushed places [] name = refl
known_pushed places (n ∷ names) name = known_pushed (places ++ added_places places n.start n.end (labels_in n.octets.now)) names name

-- labels of which none begins before the end add nothing
pub nothing_added : (known : List Place) (start end : ℕ) (labels : List (List ℕ)) → end ≤ start → known ≡ known ++ added_places known start end labels
nothing_added known start end labels le = sym (append-nil known) ∙ ap (λ (ps : List Place). known ++ ps) (sym (added-past known start end labels le))

-- what is written of a name as it is written in full
pub written_match : (places : List Place) (start out octets : List ℕ) (count : ℕ) (o : Option ℕ) → IsWire octets → count ≡ count_before_match places (labels_in octets) → o ≡ match_offset places (labels_in octets) → out ≡ start ++ (take count octets ++ pointer_or o (0 ∷ [])) → out ≡ start ++ compressed_octets places (labels_in octets)
written_match places start out octets count o wire count_is o_is e =
    let name = labels_in octets in
    e
    ∙ ap (λ (x : List ℕ). start ++ (take count x ++ pointer_or o (0 ∷ []))) wire.whole
    ∙ ap (λ (n : ℕ). start ++ (take n (name_octets name) ++ pointer_or o (0 ∷ []))) count_is
    ∙ ap (λ (v : Option ℕ). start ++ (take (count_before_match places name) (name_octets name) ++ pointer_or v (0 ∷ []))) o_is
    ∙ ap (λ (x : List ℕ). start ++ x) (sym (compressed_match places name))

pub new_places_match : (places : List Place) (octets : List ℕ) (start count end : ℕ) → count ≡ count_before_match places (labels_in octets) → end ≡ min (start + count) 16384 → added_places places start end (labels_in octets) ≡ new_places places start (labels_in octets)
new_places_match places octets start count end count_is end_is =
    sym (new_added places start end (labels_in octets) (omega arith) (elim (cases_lt (start + count) 16384) [
      | inl less ↦ inl (omega arith)
      | inr more ↦ inr (omega arith, omega arith)
    ]))

pub full_places_match : (places : List Place) (octets : List ℕ) (start end : ℕ) → IsWire octets → end ≡ min (start + length octets) 16384 → added_places places start end (labels_in octets) ≡ new_places_in_full places start (labels_in octets)
full_places_match places octets start end wire end_is =
    let len : length octets ≡ length (name_octets (labels_in octets)) = ap length wire.whole in
    sym (in_full_added places start end (labels_in octets) (omega arith) (elim (cases_lt (start + length octets) 16384) [
      | inl less ↦ inl (omega arith)
      | inr more ↦ inr (omega arith)
    ]))

-- octets behind others, of which some are written first
pub written_parts : (start out out' front behind : List ℕ) → out ≡ start ++ front → out' ≡ out ++ behind → out' ≡ start ++ (front ++ behind)
written_parts start out out' front behind e e' = e' ∙ ap (λ (o : List ℕ). o ++ behind) e ∙ append_assoc start front behind
