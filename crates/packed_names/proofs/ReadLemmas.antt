-- A compressed name is read as the name, and its places are occurrences.
use Rattle.std.proofs.Common.{◌≡◌, ℕ, ◌+◌, ◌/◌, ◌%◌, ◌≤◌, ◌<◌, Bool, true, false, cond, ltb, Option, Some, None, List, [], ◌∷◌, ◌++◌, length, take, drop, Ok, Err, refl, sym, ap, subst, ◌∙◌, append_assoc, arith, length-append}
use Rattle.std.specs.List.{flat_map, AllByRecursion}
use Rattle.std.proofs.lemmas.Bool.{cond_both}
use Rattle.std.proofs.lemmas.List.{length-take, length-drop, take_at, drop_at, drop-append-le, take-append-le, append-nil}
use Rattle.std.proofs.lemmas.Slice.Eq.{bytes_eq-Decides}
use Rattle.dns_name.specs.Grammar as grammar
use Rattle.dns_name.specs.Grammar.{HasRoom, GoesOn}
use Rattle.dns_name.specs.Labels.{IsLabel, IsName, label_octets, name_octets}
use Rattle.dns_name.specs.Reading.{NameOutcome, with_labels, with_after, name_at}
use Rattle.dns_name.proofs.GrammarLemmas.{name_stands, name_only}
use Rattle.dns_name.proofs.Standing.{Of, of_read, name_is}
use Rattle.dns_name.proofs.WireLemmas.{labels_in-octets, IsName-rest}
use Rattle.packed_names.specs.Places.{Place, same_octets, first_offset, pointer_octets, pointer_or, compressed_octets, reachable_place, unless_found, new_places}
use Rattle.packed_names.specs.Occurrence.{IsOccurrence, AreOccurrences}

-- octets that bytes begin with stay there if more is written behind
begins_more : (octets message more : List ℕ) (place : ℕ) → 0 < length octets → grammar.Begins (drop place message) octets → grammar.Begins (drop place (message ++ more)) octets
begins_more octets message more place some h =
    let fits : length octets ≤ length (drop place message) = omega (arith, length-take (length octets) (drop place message), ap length h) in
    let le : place ≤ length message = omega (arith, length-drop place message) in
    ap (take (length octets)) (drop-append-le place message more le) ∙ take-append-le (length octets) (drop place message) more fits ∙ h

-- what is read at a place is read there also if more is written behind, as the rest of any name that has room for it
abbrev Lifts : List ℕ → ℕ → ℕ → List (List ℕ) × ℕ → Type 0
Lifts message run place x = (used : ℕ) → used + length (flat_map label_octets x.0) ≤ 254 → GoesOn message run used place (Ok x)

lifts_label : (message : List ℕ) (run place : ℕ) (first : List ℕ) (others : NameOutcome) → IsLabel first → grammar.Begins (drop place message) (label_octets first) → Of (Lifts message run (place + length first + 1)) others → Of (Lifts message run place) (with_labels (first ∷ []) others)
lifts_label message run place first (Err fault) is begins h = tt
lifts_label message run place first (Ok x) is begins h = λ used room.
    let len = length-append (label_octets first) (flat_map label_octets x.0) in
    let has : HasRoom used first = record { is_label = is; room = omega (arith, len) } in
    grammar.label run used place first (Ok x) has begins (h (used + length first + 1) (omega (arith, len)))

lifts_pointer : (message : List ℕ) (run place high low : ℕ) (others : NameOutcome) → 192 ≤ high → grammar.target_of high low < run → grammar.Begins (drop place message) (high ∷ low ∷ []) → Of (Lifts message (grammar.target_of high low) (grammar.target_of high low)) others → Of (Lifts message run place) (with_after (place + 2) others)
lifts_pointer message run place high low (Err fault) at lt begins h = tt
lifts_pointer message run place high low (Ok x) at lt begins h = λ used room. grammar.pointer run used place high low (Ok x) at lt begins (h used room)

lifts : (message more : List ℕ) (run used place : ℕ) (o : NameOutcome) → GoesOn message run used place o → Of (Lifts (message ++ more) run place) o
lifts message more run used place o (grammar.ends _ _ _ begins) = λ used room. grammar.ends run used place (begins_more (0 ∷ []) message more place (omega arith) begins)
lifts message more run used place o (grammar.label _ _ _ first others has begins rest) =
    lifts_label (message ++ more) run place first others has.is_label (begins_more (label_octets first) message more place (omega arith) begins) (lifts message more run (used + length first + 1) (place + length first + 1) others rest)
lifts message more run used place o (grammar.pointer _ _ _ high low others at lt begins rest) =
    lifts_pointer (message ++ more) run place high low others at lt (begins_more (high ∷ low ∷ []) message more place (omega arith) begins) (lifts message more (grammar.target_of high low) used (grammar.target_of high low) others rest)
lifts message more run used place o (grammar.fails _ _ _ fault shows) = tt

-- what a pointer at `base` or behind it needs of the place that it leads to
pub record Leads (message : List ℕ) (base : ℕ) (place : Place) : Type 0 where
  pub name : IsName place.labels
  pub below : place.offset < base
  pub after : ℕ
  pub read : (used : ℕ) → used + length (flat_map label_octets place.labels) ≤ 254 → GoesOn message place.offset used place.offset (Ok (place.labels, after))

pub leads : (message more : List ℕ) (place : Place) → IsOccurrence message place → Leads (message ++ more) (length message) place
leads message more place h =
    record {
      name = name_is place.labels message place.offset h.stands.0 h.stands.1;
      below = h.inside;
      after = h.stands.0;
      read = of_read (Lifts (message ++ more) place.offset place.offset) (name_at message place.offset) (place.labels, h.stands.0) (lifts message more place.offset 0 place.offset (name_at message place.offset) (name_stands message place.offset)) h.stands.1;
    }

name_room : (name : List (List ℕ)) → IsName name → length (flat_map label_octets name) ≤ 254
name_room name h = omega (arith, h.short, length-append (flat_map label_octets name) (0 ∷ []))

-- an occurrence stays one if more is written behind
pub occurrence_more : (message more : List ℕ) (place : Place) → IsOccurrence message place → IsOccurrence (message ++ more) place
occurrence_more message more place h =
    let l = leads message more place h in
    record {
      inside = omega (arith, h.inside, length-append message more);
      stands = (l.after, name_only (message ++ more) place.offset (Ok (place.labels, l.after)) (l.read 0 (omega (arith, name_room place.labels l.name))));
    }

pub occurrences_more : (places : List Place) (message more : List ℕ) → AreOccurrences message places → AreOccurrences (message ++ more) places
occurrences_more [] message more h = tt
occurrences_more (place ∷ places) message more h = (occurrence_more message more place h.0, occurrences_more places message more h.1)

abbrev pub AllLead : List ℕ → ℕ → List Place → Type 0
AllLead message base places = AllByRecursion (Leads message base) places

pub all_lead : (places : List Place) (message more : List ℕ) → AreOccurrences message places → AllLead (message ++ more) (length message) places
all_lead [] message more h = tt
all_lead (place ∷ places) message more h = (leads message more place h.0, all_lead places message more h.1)

-- names with the same octets are equal
pub same_is : (a b : List (List ℕ)) → IsName a → IsName b → same_octets a b ≡ true → a ≡ b
same_is a b ha hb e =
    sym (labels_in-octets (name_octets a) a refl ha) ∙ labels_in-octets (name_octets a) b ((bytes_eq-Decides (name_octets a) (name_octets b)).0 e) hb

-- a pointer to the first place of a name leads to the name
found_step : (message : List ℕ) (base : ℕ) (place : Place) (labels : List (List ℕ)) (t : ℕ) (b : Bool) (rest : Option ℕ) → IsName labels → Leads message base place → same_octets place.labels labels ≡ b → cond b (Some place.offset) rest ≡ Some t
    → (rest ≡ Some t → Leads message base (record { offset = t; labels = labels })) → Leads message base (record { offset = t; labels = labels })
found_step message base place labels t true rest name h same e go =
    let l : place.labels ≡ labels = same_is place.labels labels h.name name same in
    let o : place.offset ≡ t = cc in
    record {
      name = name;
      below = omega (arith, h.below);
      after = h.after;
      read = subst (λ (n : ℕ). (used : ℕ) → used + length (flat_map label_octets labels) ≤ 254 → GoesOn message n used n (Ok (labels, h.after))) o
          (subst (λ (ls : List (List ℕ)). (used : ℕ) → used + length (flat_map label_octets ls) ≤ 254 → GoesOn message place.offset used place.offset (Ok (ls, h.after))) l h.read);
    }
found_step message base place labels t false rest name h same e go = go e

pub found : (message : List ℕ) (base : ℕ) (places : List Place) (labels : List (List ℕ)) (t : ℕ) → IsName labels → AllLead message base places → first_offset places labels ≡ Some t → Leads message base (record { offset = t; labels = labels })
unfolding first_offset
found message base [] labels t name h e = absurd cc
found message base (place ∷ places) labels t name h e =
    found_step message base place labels t (same_octets place.labels labels) (first_offset places labels) name h.0 refl e (found message base places labels t name h.1)

-- octets behind others begin where the others end
pub begins_at : (front octets more whole : List ℕ) (place : ℕ) → whole ≡ front ++ (octets ++ more) → length front ≡ place → grammar.Begins (drop place whole) octets
begins_at front octets more whole place is len =
    ap (take (length octets)) (ap (drop place) is ∙ drop_at front (octets ++ more) place len) ∙ take_at octets more (length octets) refl

-- a name is read at a place, wherever its labels began, if not before `base`
pub record Reads (message : List ℕ) (base place : ℕ) (labels : List (List ℕ)) (after : ℕ) : Type 0 where
  pub read : (run used : ℕ) → base ≤ run → used + length (flat_map label_octets labels) ≤ 254 → GoesOn message run used place (Ok (labels, after))

reads_pointer : (message : List ℕ) (base place : ℕ) (labels : List (List ℕ)) (t : ℕ) (front more : List ℕ) → Leads message base (record { offset = t; labels = labels })
    → message ≡ front ++ (pointer_octets t ++ more) → length front ≡ place → Reads message base place labels (place + 2)
reads_pointer message base place labels t front more l is len =
    let e : t ≡ grammar.target_of (192 + t / 256) (t % 256) = omega arith in
    record {
      read = λ run used le room.
          let rest : GoesOn message (grammar.target_of (192 + t / 256) (t % 256)) used (grammar.target_of (192 + t / 256) (t % 256)) (Ok (labels, l.after)) = subst (λ (n : ℕ). GoesOn message n used n (Ok (labels, l.after))) e (l.read used room) in
          grammar.pointer run used place (192 + t / 256) (t % 256) (Ok (labels, l.after)) (omega arith) (omega (arith, l.below)) (begins_at front (pointer_octets t) more message place is len) rest;
    }

reads_label : (message : List ℕ) (base place : ℕ) (l : List ℕ) (ls : List (List ℕ)) (after : ℕ) (octets front more : List ℕ) → IsLabel l → message ≡ front ++ ((label_octets l ++ octets) ++ more) → length front ≡ place
    → Reads message base (place + length l + 1) ls after → Reads message base place (l ∷ ls) after
reads_label message base place l ls after octets front more is_label is len h =
    let assoc : message ≡ front ++ (label_octets l ++ (octets ++ more)) = is ∙ ap (λ (x : List ℕ). front ++ x) (append_assoc (label_octets l) octets more) in
    let sum = length-append (label_octets l) (flat_map label_octets ls) in
    record {
      read = λ run used le room.
          let has : HasRoom used l = record { is_label = is_label; room = omega (arith, sum) } in
          grammar.label run used place l (Ok (ls, after)) has (begins_at front (label_octets l) (octets ++ more) message place assoc len) (h.read run (used + length l + 1) le (omega (arith, sum)));
    }

-- the rest of a name stands behind its first label
rest_stands : (front l octets more message : List ℕ) → message ≡ front ++ ((label_octets l ++ octets) ++ more) → message ≡ (front ++ label_octets l) ++ (octets ++ more)
rest_stands front l octets more message is = is ∙ ap (λ (x : List ℕ). front ++ x) (append_assoc (label_octets l) octets more) ∙ sym (append_assoc front (label_octets l) (octets ++ more))

reads_step : (places : List Place) (message : List ℕ) (base place : ℕ) (l : List ℕ) (ls : List (List ℕ)) (o : Option ℕ) (front more : List ℕ) → AllLead message base places → IsName (l ∷ ls) → first_offset places (l ∷ ls) ≡ o
    → message ≡ front ++ (pointer_or o (label_octets l ++ compressed_octets places ls) ++ more) → length front ≡ place
    → (message ≡ (front ++ label_octets l) ++ (compressed_octets places ls ++ more) → length (front ++ label_octets l) ≡ place + length l + 1 → Reads message base (place + length l + 1) ls (place + length l + 1 + length (compressed_octets places ls)))
    → Reads message base place (l ∷ ls) (place + length (pointer_or o (label_octets l ++ compressed_octets places ls)))
reads_step places message base place l ls (Some t) front more all name e is len go =
    reads_pointer message base place (l ∷ ls) t front more (found message base places (l ∷ ls) t name all e) is len
reads_step places message base place l ls None front more all name e is len go =
    let h = go (rest_stands front l (compressed_octets places ls) more message is) (omega (arith, length-append front (label_octets l))) in
    let same : place + length l + 1 + length (compressed_octets places ls) ≡ place + length (label_octets l ++ compressed_octets places ls) = omega (arith, length-append (label_octets l) (compressed_octets places ls)) in
    subst (λ (n : ℕ). Reads message base place (l ∷ ls) n) same (reads_label message base place l ls (place + length l + 1 + length (compressed_octets places ls)) (compressed_octets places ls) front more name.labels.0 is len h)

-- a compressed name is read
pub reads : (places : List Place) (message : List ℕ) (base place : ℕ) (labels : List (List ℕ)) (front more : List ℕ) → AllLead message base places → IsName labels → message ≡ front ++ (compressed_octets places labels ++ more) → length front ≡ place
    → Reads message base place labels (place + length (compressed_octets places labels))
unfolding compressed_octets
reads places message base place [] front more all name is len =
    record { read = λ run used le room. grammar.ends run used place (begins_at front (0 ∷ []) more message place is len) }
reads places message base place (l ∷ ls) front more all name is len =
    reads_step places message base place l ls (first_offset places (l ∷ ls)) front more all name refl is len
    (λ rest_is rest_len. reads places message base (place + length l + 1) ls (front ++ label_octets l) more all (IsName-rest l ls name) rest_is rest_len)

pub compressed_read : (places : List Place) (message more : List ℕ) (name : List (List ℕ)) → AreOccurrences message places → IsName name → name_at ((message ++ compressed_octets places name) ++ more) (length message) ≡ Ok (name, length message + length (compressed_octets places name))
compressed_read places message more name occur is =
    let whole = (message ++ compressed_octets places name) ++ more in
    let assoc : whole ≡ message ++ (compressed_octets places name ++ more) = append_assoc message (compressed_octets places name) more in
    let all : AllLead whole (length message) places = subst (λ (m : List ℕ). AllLead m (length message) places) (sym assoc) (all_lead places message (compressed_octets places name ++ more) occur) in
    let h = reads places whole (length message) (length message) name message more all is assoc refl in
    name_only whole (length message) (Ok (name, length message + length (compressed_octets places name))) (h.read (length message) 0 (omega arith) (omega (arith, name_room name is)))

-- two lists of places as one
pub occurrences-append : (message : List ℕ) (a b : List Place) → AreOccurrences message a → AreOccurrences message b → AreOccurrences message (a ++ b)
occurrences-append message [] b ha hb = hb
occurrences-append message (p ∷ a) b ha hb = (ha.0, occurrences-append message a b ha.1 hb)

pub reachable_place_occurs : (message : List ℕ) (place : ℕ) (labels : List (List ℕ)) → IsOccurrence message (record { offset = place; labels = labels }) → AreOccurrences message (reachable_place place labels)
reachable_place_occurs message place labels h =
    cond_both (ltb place 16384) (record { offset = place; labels = labels } ∷ []) [] (AreOccurrences message) (λ e. (h, tt)) (λ e. tt)

new_places_step : (places : List Place) (message : List ℕ) (base place : ℕ) (l : List ℕ) (ls : List (List ℕ)) (o : Option ℕ) (front more : List ℕ) → AllLead message base places → IsName (l ∷ ls) → first_offset places (l ∷ ls) ≡ o
    → message ≡ front ++ (pointer_or o (label_octets l ++ compressed_octets places ls) ++ more) → length front ≡ place → base ≤ place
    → Reads message base place (l ∷ ls) (place + length (pointer_or o (label_octets l ++ compressed_octets places ls)))
    → (message ≡ (front ++ label_octets l) ++ (compressed_octets places ls ++ more) → length (front ++ label_octets l) ≡ place + length l + 1 → AreOccurrences message (new_places places (place + length l + 1) ls))
    → AreOccurrences message (unless_found o (reachable_place place (l ∷ ls) ++ new_places places (place + length l + 1) ls))
new_places_step places message base place l ls (Some t) front more all name e is len le h go = tt
new_places_step places message base place l ls None front more all name e is len le h go =
    let rest = rest_stands front l (compressed_octets places ls) more message is in
    let after = place + length (label_octets l ++ compressed_octets places ls) in
    let occur : IsOccurrence message (record { offset = place; labels = l ∷ ls }) = record {
      inside = omega (arith, ap length rest, length-append (front ++ label_octets l) (compressed_octets places ls ++ more), length-append front (label_octets l));
      stands = (after, name_only message place (Ok (l ∷ ls, after)) (h.read place 0 le (omega (arith, name_room (l ∷ ls) name))));
    } in
    occurrences-append message (reachable_place place (l ∷ ls)) (new_places places (place + length l + 1) ls) (reachable_place_occurs message place (l ∷ ls) occur) (go rest (omega (arith, length-append front (label_octets l))))

pub new_places_occur : (places : List Place) (message : List ℕ) (base place : ℕ) (labels : List (List ℕ)) (front more : List ℕ) → AllLead message base places → IsName labels → message ≡ front ++ (compressed_octets places labels ++ more) → length front ≡ place → base ≤ place
    → AreOccurrences message (new_places places place labels)
unfolding compressed_octets new_places
new_places_occur places message base place [] front more all name is len le = tt
new_places_occur places message base place (l ∷ ls) front more all name is len le =
    new_places_step places message base place l ls (first_offset places (l ∷ ls)) front more all name refl is len le
    (reads places message base place (l ∷ ls) front more all name is len)
    (λ rest_is rest_len. new_places_occur places message base (place + length l + 1) ls (front ++ label_octets l) more all (IsName-rest l ls name) rest_is rest_len (omega arith))

pub compressed_occurs : (places : List Place) (message : List ℕ) (name : List (List ℕ)) → AreOccurrences message places → IsName name → AreOccurrences (message ++ compressed_octets places name) (places ++ new_places places (length message) name)
compressed_occurs places message name occur is =
    let whole = message ++ compressed_octets places name in
    let nil : whole ≡ message ++ (compressed_octets places name ++ []) = ap (λ (x : List ℕ). message ++ x) (sym (append-nil (compressed_octets places name))) in
    occurrences-append whole places (new_places places (length message) name) (occurrences_more places message (compressed_octets places name) occur)
    (new_places_occur places whole (length message) (length message) name message [] (all_lead places message (compressed_octets places name) occur) is nil refl (omega arith))
