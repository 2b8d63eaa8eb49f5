-- Suffixes are looked up in the recent names.
use Rattle.std.proofs.Common.{◌≡◌, ℕ, zero, suc, add-one, ◌+◌, ◌-◌, ◌≤◌, ◌<◌, inl, inr, Bool, true, false, cond, ltb, Option, Some, None, IfSome, List, [], ◌∷◌, ◌++◌, length, take, drop, get_or, refl, sym, ap, subst, ◌∙◌, append_assoc, arith, length-append, drop-cons}
use Rattle.std.specs.List.{flat_map, AllByRecursion}
use Rattle.std.proofs.Math.Seq.{drop-append_seam, get_or-append_seam, take-length}
use Rattle.std.proofs.lemmas.Bool.{cases_lt, lt-ltb, le-ltb}
use Rattle.std.proofs.lemmas.List.{append-nil, drop_all, length-drop}
use Rattle.std.proofs.lemmas.Slice.Eq.{bytes_eq-Decides}
use Rattle.dns_name.specs.Labels.{IsName, label_octets, name_octets}
use Rattle.dns_name.specs.Wire.{labels_in, IsWire}
use Rattle.dns_name.proofs.WireLemmas.{name_octets-cons, IsName-rest, labels_in-octets}
use Rattle.packed_names.specs.declared.recent.RecentName.{RecentName}
use Rattle.packed_names.specs.Places.{Place, same_octets, first_offset, unless_found}
use Rattle.packed_names.specs.Recent.{added_places, known_after, count_unless_found, count_before_match, or_offset, match_offset, IsRecentName, BeginsLabel}
use Rattle.packed_names.specs.Table.{SplitsLabel}
use Rattle.packed_names.proofs.ReadLemmas.{same_is}
use Rattle.packed_names.proofs.TableLemmas.{first-append, none-append, first-self}
use Rattle.packed_names.proofs.CompressLemmas.{longer_if, wire_some}

-- what a name adds
pub added-root : (places : List Place) (at end : ℕ) → added_places places at end [] ≡ []
unfolding added_places
added-root places at end = refl

added-if : (places : List Place) (at end : ℕ) (l : List ℕ) (ls : List (List ℕ)) (b : Bool) → ltb at end ≡ b → added_places places at end (l ∷ ls) ≡ cond b (unless_found (first_offset places (l ∷ ls)) (record { offset = at; labels = l ∷ ls } ∷ []) ++ added_places places (at + length l + 1) end ls) []
unfolding added_places
added-if places at end l ls b e = ap (λ (v : Bool). cond v (unless_found (first_offset places (l ∷ ls)) (record { offset = at; labels = l ∷ ls } ∷ []) ++ added_places places (at + length l + 1) end ls) []) e

pub added-label : (places : List Place) (at end : ℕ) (l : List ℕ) (ls : List (List ℕ)) → at < end → added_places places at end (l ∷ ls) ≡ unless_found (first_offset places (l ∷ ls)) (record { offset = at; labels = l ∷ ls } ∷ []) ++ added_places places (at + length l + 1) end ls
added-label places at end l ls lt = added-if places at end l ls true (lt-ltb at end lt)

pub added-past : (places : List Place) (at end : ℕ) (labels : List (List ℕ)) → end ≤ at → added_places places at end labels ≡ []
added-past places at end [] le = added-root places at end
added-past places at end (l ∷ ls) le = added-if places at end l ls false (le-ltb at end le)

-- a name's octets, split before a suffix
pub octets-split : (front back : List (List ℕ)) → name_octets (front ++ back) ≡ flat_map label_octets front ++ name_octets back
octets-split [] back = refl
octets-split (l ∷ front) back =
    name_octets-cons l (front ++ back) ∙ ap (λ (o : List ℕ). label_octets l ++ o) (octets-split front back) ∙ sym (append_assoc (label_octets l) (flat_map label_octets front) (name_octets back))

none-empty : (x : List (List ℕ)) → first_offset [] x ≡ None
unfolding first_offset
none-empty x = refl

none_one : (p : Place) (x : List (List ℕ)) → (same_octets p.labels x ≡ true → ⊥) → first_offset (p ∷ []) x ≡ None
unfolding first_offset
none_one p x differs = longer_if (same_octets p.labels x) p.offset None differs refl

none_unless : (o : Option ℕ) (p : Place) (x : List (List ℕ)) → (same_octets p.labels x ≡ true → ⊥) → first_offset (unless_found o (p ∷ [])) x ≡ None
none_unless None p x differs = none_one p x differs
none_unless (Some t) p x differs = none-empty x

-- a name that is no suffix, or whose first label doesn't begin before the end, isn't found
pub missed : (places : List Place) (at end : ℕ) (labels x : List (List ℕ)) → IsName labels → IsName x → ((front : List (List ℕ)) → labels ≡ front ++ x → at + length (flat_map label_octets front) < end → ⊥) → first_offset (added_places places at end labels) x ≡ None
missed places at end [] x name is h = ap (λ (ps : List Place). first_offset ps x) (added-root places at end) ∙ none-empty x
missed places at end (l ∷ ls) x name is h =
    elim (cases_lt at end) [
      | inl less ↦
          let p : Place = record { offset = at; labels = l ∷ ls } in
          let piece = unless_found (first_offset places (l ∷ ls)) (p ∷ []) in
          ap (λ (ps : List Place). first_offset ps x) (added-label places at end l ls less)
          ∙ none-append piece (added_places places (at + length l + 1) end ls) x (none_unless (first_offset places (l ∷ ls)) p x (λ same. h [] (same_is (l ∷ ls) x name is same) (omega arith)))
          ∙ missed places (at + length l + 1) end ls x (IsName-rest l ls name) is (λ front e lt. h (l ∷ front) (ap (λ (v : List (List ℕ)). l ∷ v) e) (omega (arith, length-append l (flat_map label_octets front))))
      | inr more ↦ ap (λ (ps : List Place). first_offset ps x) (added-past places at end (l ∷ ls) more) ∙ none-empty x
    ]

-- a suffix whose first label begins before the end is found there
pub found : (places : List Place) (at end : ℕ) (front x : List (List ℕ)) → (x ≡ [] → ⊥) → first_offset places x ≡ None → at + length (flat_map label_octets front) < end → first_offset (added_places places at end (front ++ x)) x ≡ Some (at + length (flat_map label_octets front))
found places at end [] [] some none lt = absurd (some refl)
found places at end [] (l ∷ ls) some none lt =
    let p : Place = record { offset = at; labels = l ∷ ls } in
    let start : at ≡ at + length (flat_map label_octets []) = omega arith in
    ap (λ (ps : List Place). first_offset ps (l ∷ ls)) (added-label places at end l ls (omega arith))
    ∙ ap (λ (o : Option ℕ). first_offset (unless_found o (p ∷ []) ++ added_places places (at + length l + 1) end ls) (l ∷ ls)) none
    ∙ first-append (p ∷ []) (added_places places (at + length l + 1) end ls) (l ∷ ls) at (first-self p)
    ∙ ap (λ (n : ℕ). Some n) start
found places at end (l ∷ front) x some none lt =
    let p : Place = record { offset = at; labels = l ∷ (front ++ x) } in
    let piece = unless_found (first_offset places (l ∷ (front ++ x))) (p ∷ []) in
    let next : at + length l + 1 + length (flat_map label_octets front) ≡ at + length (flat_map label_octets (l ∷ front)) = omega (arith, length-append l (flat_map label_octets front)) in
    let longer : length (name_octets x) < length (name_octets (l ∷ (front ++ x))) = omega (arith, ap length (name_octets-cons l (front ++ x)), length-append l (name_octets (front ++ x)), ap length (octets-split front x), length-append (flat_map label_octets front) (name_octets x)) in
    ap (λ (ps : List Place). first_offset ps x) (added-label places at end l (front ++ x) (omega arith))
    ∙ none-append piece (added_places places (at + length l + 1) end (front ++ x)) x (none_unless (first_offset places (l ∷ (front ++ x))) p x (λ same. omega (arith, ap length ((bytes_eq-Decides (name_octets (l ∷ (front ++ x))) (name_octets x)).0 same))))
    ∙ found places (at + length l + 1) end front x some none (omega arith)
    ∙ ap (λ (n : ℕ). Some n) next

-- the same of names as they are written
pub no_match : (name : RecentName) (octets : List ℕ) → IsRecentName name → IsWire octets → ((front : List (List ℕ)) → labels_in name.octets.now ≡ front ++ labels_in octets → name.octets.now ≡ flat_map label_octets front ++ octets → name.start + length (flat_map label_octets front) < name.end → ⊥)
    → (places : List Place) → first_offset places (labels_in octets) ≡ None → first_offset (added_places places name.start name.end (labels_in name.octets.now)) (labels_in octets) ≡ None
no_match name octets is wire h places none =
    missed places name.start name.end (labels_in name.octets.now) (labels_in octets) is.wire.name wire.name
    (λ front e lt. h front e (is.wire.whole ∙ ap name_octets e ∙ octets-split front (labels_in octets) ∙ ap (λ (o : List ℕ). flat_map label_octets front ++ o) (sym wire.whole)) lt)

-- it is no label's beginning, or others stand there
pub no_suffix : (octets front_octets x : List ℕ) (index : ℕ) → octets ≡ front_octets ++ x → index ≡ length octets - length x → drop index octets ≡ x
no_suffix octets front x index e i =
    ap (λ (o : List ℕ). drop index o) e ∙ ap (λ (n : ℕ). drop n (front ++ x)) (omega (arith, ap length e, length-append front x)) ∙ drop-append_seam front x

pub tail_all : (octets : List ℕ) (index : ℕ) → take (length octets - index) (drop index octets) ≡ drop index octets
tail_all octets index = ap (λ (n : ℕ). take n (drop index octets)) (sym (length-drop index octets)) ∙ take-length (drop index octets)

pub begins_of : (octets x : List ℕ) (front : List (List ℕ)) (index : ℕ) → labels_in octets ≡ front ++ labels_in x → octets ≡ flat_map label_octets front ++ x → index ≡ length octets - length x → BeginsLabel octets index
begins_of octets x front index labels e i = record { front = front; back = labels_in x; labels = labels; index_is = omega (arith, ap length e, length-append (flat_map label_octets front) x) }

pub some_label : (octets : List ℕ) → IsWire octets → 2 ≤ length octets → labels_in octets ≡ [] → ⊥
some_label octets w some e = omega (arith, ap length w.whole, ap (λ (ls : List (List ℕ)). length (name_octets ls)) e)

IsName-back : (front back : List (List ℕ)) → IsName (front ++ back) → IsName back
IsName-back [] back is = is
IsName-back (l ∷ front) back is = IsName-back front back (IsName-rest l (front ++ back) is)

-- the suffix at a label's beginning, if these are its octets
pub is_match : (name : RecentName) (octets : List ℕ) (index : ℕ) → IsRecentName name → IsWire octets → 2 ≤ length octets → BeginsLabel name.octets.now index → drop index name.octets.now ≡ octets → name.start + index < name.end
    → (places : List Place) → first_offset places (labels_in octets) ≡ None → first_offset (added_places places name.start name.end (labels_in name.octets.now)) (labels_in octets) ≡ Some (name.start + index)
is_match name octets index is wire some b e lt places none =
    let whole : name.octets.now ≡ flat_map label_octets b.front ++ name_octets b.back = is.wire.whole ∙ ap name_octets b.labels ∙ octets-split b.front b.back in
    let back : name_octets b.back ≡ octets = sym (drop-append_seam (flat_map label_octets b.front) (name_octets b.back)) ∙ ap (λ (n : ℕ). drop n (flat_map label_octets b.front ++ name_octets b.back)) (sym b.index_is) ∙ ap (λ (o : List ℕ). drop index o) (sym whole) ∙ e in
    let is_back : IsName b.back = IsName-back b.front b.back (subst IsName b.labels is.wire.name) in
    let same : b.back ≡ labels_in octets = sym (labels_in-octets octets b.back (sym back) is_back) in
    let labels : labels_in name.octets.now ≡ b.front ++ labels_in octets = b.labels ∙ ap (λ (ls : List (List ℕ)). b.front ++ ls) same in
    ap (λ (ls : List (List ℕ)). first_offset (added_places places name.start name.end ls) (labels_in octets)) labels
    ∙ found places name.start name.end b.front (labels_in octets) (some_label octets wire some) none (omega (arith, b.index_is))
    ∙ ap (λ (n : ℕ). Some (name.start + n)) (sym b.index_is)

-- the walk over the labels of a name up to an index
pub record Walking (octets : List ℕ) (index at : ℕ) : Type 0 where
  pub front : List (List ℕ)
  pub back : List (List ℕ)
  pub labels : labels_in octets ≡ front ++ back
  pub at_is : at ≡ length (flat_map label_octets front)
  pub only : BeginsLabel octets index → at ≤ index

pub Walking-start : (octets : List ℕ) (index : ℕ) → Walking octets index 0
Walking-start octets index = record { front = []; back = labels_in octets; labels = refl; at_is = refl; only = λ b. omega arith }

-- of two ways to split labels, the longer front has the next label
longer_front : (front back front' back' : List (List ℕ)) (l : List ℕ) → front ++ (l ∷ back) ≡ front' ++ back' → length (flat_map label_octets front) < length (flat_map label_octets front') → length (flat_map label_octets front) + length l + 1 ≤ length (flat_map label_octets front')
longer_front [] back [] back' l e lt = absurd (omega arith)
longer_front [] back (m ∷ front') back' l e lt =
    let same : l ≡ m = cc in
    omega (arith, ap length same, length-append m (flat_map label_octets front'))
longer_front (k ∷ front) back [] back' l e lt = absurd (omega arith)
longer_front (k ∷ front) back (m ∷ front') back' l e lt =
    let same : k ≡ m = cc in
    let rest : front ++ (l ∷ back) ≡ front' ++ back' = cc in
    omega (
      arith,
      ap length same,
      length-append k (flat_map label_octets front),
      length-append m (flat_map label_octets front'),
      longer_front front back front' back' l rest (omega (arith, ap length same, length-append k (flat_map label_octets front), length-append m (flat_map label_octets front'))),
    )

flat_front : (front : List (List ℕ)) (l : List ℕ) → flat_map label_octets (front ++ l ∷ []) ≡ flat_map label_octets front ++ label_octets l
flat_front [] l = append-nil (label_octets l)
flat_front (k ∷ front) l = ap (λ (o : List ℕ). label_octets k ++ o) (flat_front front l) ∙ sym (append_assoc (label_octets k) (flat_map label_octets front) (label_octets l))

byte_there : (front more octets : List ℕ) (b : ℕ) → octets ≡ front ++ (b ∷ more) → get_or octets (length front) 0 ≡ b
byte_there front more octets b e = ap (λ (o : List ℕ). get_or o (length front) 0) e ∙ get_or-append_seam front b more 0

walk_label : (octets : List ℕ) (index at : ℕ) (front back : List (List ℕ)) → IsWire octets → index < length octets → at < index → labels_in octets ≡ front ++ back → at ≡ length (flat_map label_octets front) → (BeginsLabel octets index → at ≤ index) → Walking octets index (at + (get_or octets at 0 + 1))
walk_label octets index at front [] wire inside lt labels at_is only =
    absurd (omega (arith, ap length wire.whole, ap (λ (ls : List (List ℕ)). length (name_octets ls)) labels, ap length (octets-split front []), length-append (flat_map label_octets front) (0 ∷ [])))
walk_label octets index at front (l ∷ back) wire inside lt labels at_is only =
    let whole : octets ≡ flat_map label_octets front ++ (length l ∷ (l ++ name_octets back)) = wire.whole ∙ ap name_octets labels ∙ octets-split front (l ∷ back) ∙ ap (λ (o : List ℕ). flat_map label_octets front ++ o) (name_octets-cons l back) in
    let byte : get_or octets at 0 ≡ length l = ap (λ (n : ℕ). get_or octets n 0) at_is ∙ byte_there (flat_map label_octets front) (l ++ name_octets back) octets (length l) whole in
    record {
      front = front ++ l ∷ [];
      back = back;
      labels = labels ∙ sym (append_assoc front (l ∷ []) back);
      at_is = omega (arith, byte, ap length (flat_front front l), length-append (flat_map label_octets front) (label_octets l));
      only = λ b. omega (arith, byte, b.index_is, longer_front front back b.front b.back l (sym labels ∙ b.labels) (omega (arith, b.index_is)));
    }

pub Walking-label : (octets : List ℕ) (index at : ℕ) → IsWire octets → index < length octets → at < index → Walking octets index at → Walking octets index (at + (get_or octets at 0 + 1))
Walking-label octets index at wire inside lt w = walk_label octets index at w.front w.back wire inside lt w.labels w.at_is w.only

pub Walking-begins : (octets : List ℕ) (index at : ℕ) → Walking octets index at → at ≡ index → BeginsLabel octets index
Walking-begins octets index at w e = record { front = w.front; back = w.back; labels = w.labels; index_is = sym e ∙ w.at_is }

-- more names leave the first place of a suffix the first
pub known_more : (places : List Place) (names : List RecentName) (x : List (List ℕ)) (t : ℕ) → first_offset places x ≡ Some t → first_offset (known_after places names) x ≡ Some t
known_more places [] x t e = e
known_more places (name ∷ names) x t e =
    let added = added_places places name.start name.end (labels_in name.octets.now) in
    known_more (places ++ added) names x t (first-append places added x t e)

-- the names behind which a suffix is looked up: it is not found before them
pub record Searching (names : List RecentName) (i : ℕ) (x : List (List ℕ)) : Type 0 where
  pub before : List Place
  pub none : first_offset before x ≡ None
  pub same : known_after before (drop i names) ≡ known_after [] names

pub Searching-start : (names : List RecentName) (x : List (List ℕ)) → Searching names 0 x
Searching-start names x = record { before = []; none = none-empty x; same = refl }

found_some : (before : List Place) (name : RecentName) (others : List RecentName) (x : List (List ℕ)) (t : ℕ) → first_offset before x ≡ None → first_offset (added_places before name.start name.end (labels_in name.octets.now)) x ≡ Some t → first_offset (known_after before (name ∷ others)) x ≡ Some t
found_some before name others x t none e =
    let added = added_places before name.start name.end (labels_in name.octets.now) in
    known_more (before ++ added) others x t (none-append before added x none ∙ e)

pub Searching-found : (names : List RecentName) (d : RecentName) (i : ℕ) (x : List (List ℕ)) (t : ℕ) → Searching names i x → i < length names
    → ((places : List Place) → first_offset places x ≡ None → first_offset (added_places places (get_or names i d).start (get_or names i d).end (labels_in (get_or names i d).octets.now)) x ≡ Some t)
    → first_offset (known_after [] names) x ≡ Some t
Searching-found names d i x t s lt h =
    ap (λ (ps : List Place). first_offset ps x) (sym s.same)
    ∙ ap (λ (ns : List RecentName). first_offset (known_after s.before ns) x) (drop-cons names i d lt)
    ∙ found_some s.before (get_or names i d) (drop (suc i) names) x t s.none (h s.before s.none)

pub Searching-next : (names : List RecentName) (d : RecentName) (i : ℕ) (x : List (List ℕ)) → Searching names i x → i < length names
    → ((places : List Place) → first_offset places x ≡ None → first_offset (added_places places (get_or names i d).start (get_or names i d).end (labels_in (get_or names i d).octets.now)) x ≡ None)
    → Searching names (i + 1) x
Searching-next names d i x s lt h =
    let name = get_or names i d in
    let added = added_places s.before name.start name.end (labels_in name.octets.now) in
    record {
      before = s.before ++ added;
      none = none-append s.before added x s.none ∙ h s.before s.none;
      same = ap (λ (n : ℕ). known_after (s.before ++ added) (drop n names)) (add-one i) ∙ ap (known_after s.before) (sym (drop-cons names i d lt)) ∙ s.same;
    }

pub Searching-end : (names : List RecentName) (i : ℕ) (x : List (List ℕ)) → Searching names i x → length names ≤ i → first_offset (known_after [] names) x ≡ None
Searching-end names i x s le =
    ap (λ (ps : List Place). first_offset ps x) (sym s.same ∙ ap (known_after s.before) (drop_all i names le)) ∙ s.none

-- the first name of all
pub first_of_all : (name : RecentName) (names : List RecentName) (octets : List ℕ) → IsRecentName name → IsWire octets → 2 ≤ length octets → name.octets.now ≡ octets → name.start < name.end → first_offset (known_after [] (name ∷ names)) (labels_in octets) ≡ Some name.start
first_of_all name names octets is wire some same lt =
    found_some [] name names (labels_in octets) name.start (none-empty (labels_in octets))
    (ap (λ (o : List ℕ). first_offset (added_places [] name.start name.end (labels_in o)) (labels_in octets)) same
    ∙ found [] name.start name.end [] (labels_in octets) (some_label octets wire some) (none-empty (labels_in octets)) (omega arith)
    ∙ ap (λ (n : ℕ). Some n) (omega arith))

-- how far the labels of a name were passed over, of which no suffix has a place
pub record Matching (places : List Place) (octets rest : List ℕ) : Type 0 where
  pub wire : IsWire rest
  pub front : List ℕ
  pub parts : octets ≡ front ++ rest
  pub count : length front + count_before_match places (labels_in rest) ≡ count_before_match places (labels_in octets)
  pub offset : match_offset places (labels_in rest) ≡ match_offset places (labels_in octets)

pub Matching-start : (places : List Place) (octets : List ℕ) → IsWire octets → Matching places octets octets
Matching-start places octets wire = record { wire = wire; front = []; parts = refl; count = omega arith; offset = refl }

count-cons : (places : List Place) (l : List ℕ) (ls : List (List ℕ)) → count_before_match places (l ∷ ls) ≡ count_unless_found (first_offset places (l ∷ ls)) (length l + 1 + count_before_match places ls)
unfolding count_before_match
count-cons places l ls = refl

pub count-none : (places : List Place) (l : List ℕ) (ls : List (List ℕ)) → first_offset places (l ∷ ls) ≡ None → count_before_match places (l ∷ ls) ≡ length l + 1 + count_before_match places ls
count-none places l ls e = count-cons places l ls ∙ ap (λ (o : Option ℕ). count_unless_found o (length l + 1 + count_before_match places ls)) e

pub count-found : (places : List Place) (name : List (List ℕ)) (t : ℕ) → first_offset places name ≡ Some t → count_before_match places name ≡ 0
unfolding count_before_match
count-found places [] t e = refl
count-found places (l ∷ ls) t e = ap (λ (o : Option ℕ). count_unless_found o (length l + 1 + count_before_match places ls)) e

pub count-root : (places : List Place) → count_before_match places [] ≡ 0
unfolding count_before_match
count-root places = refl

match-cons : (places : List Place) (l : List ℕ) (ls : List (List ℕ)) → match_offset places (l ∷ ls) ≡ or_offset (first_offset places (l ∷ ls)) (match_offset places ls)
unfolding match_offset
match-cons places l ls = refl

pub match-none : (places : List Place) (l : List ℕ) (ls : List (List ℕ)) → first_offset places (l ∷ ls) ≡ None → match_offset places (l ∷ ls) ≡ match_offset places ls
match-none places l ls e = match-cons places l ls ∙ ap (λ (o : Option ℕ). or_offset o (match_offset places ls)) e

pub match-found : (places : List Place) (name : List (List ℕ)) (t : ℕ) → (name ≡ [] → ⊥) → first_offset places name ≡ Some t → match_offset places name ≡ Some t
match-found places [] t some e = absurd (some refl)
match-found places (l ∷ ls) t some e = match-cons places l ls ∙ ap (λ (o : Option ℕ). or_offset o (match_offset places ls)) e

pub match-root : (places : List Place) → match_offset places [] ≡ None
unfolding match_offset
match-root places = refl

pub Matching-label : (places : List Place) (octets rest : List ℕ) (count : ℕ) (others : List ℕ) → Matching places octets rest → SplitsLabel rest count others → first_offset places (labels_in rest) ≡ None → Matching places octets others
Matching-label places octets rest count others m cut none =
    let none' : first_offset places (cut.label ∷ labels_in others) ≡ None = ap (first_offset places) (sym cut.labels) ∙ none in
    record {
      wire = cut.wire;
      front = m.front ++ label_octets cut.label;
      parts = m.parts ∙ ap (λ (o : List ℕ). m.front ++ o) cut.parts ∙ sym (append_assoc m.front (label_octets cut.label) others);
      count = omega (arith, length-append m.front (label_octets cut.label), m.count, ap (count_before_match places) cut.labels, count-none places cut.label (labels_in others) none');
      offset = sym (ap (match_offset places) cut.labels ∙ match-none places cut.label (labels_in others) none') ∙ m.offset;
    }

-- the longest suffix that has a place
pub record Matched (places : List Place) (octets : List ℕ) (count : ℕ) (o : Option ℕ) : Type 0 where
  pub count_is : count ≡ count_before_match places (labels_in octets)
  pub offset_is : o ≡ match_offset places (labels_in octets)
  pub fits : count < length octets

pub Matching-found : (places : List Place) (octets rest : List ℕ) (count : ℕ) (others : List ℕ) (t : ℕ) → Matching places octets rest → SplitsLabel rest count others → first_offset places (labels_in rest) ≡ Some t → Matched places octets (length octets - length rest) (Some t)
Matching-found places octets rest count others t m cut e = record {
  count_is = omega (arith, ap length m.parts, length-append m.front rest, m.count, count-found places (labels_in rest) t e);
  offset_is = sym (match-found places (labels_in rest) t (λ root. let c : cut.label ∷ labels_in others ≡ [] = sym cut.labels ∙ root in cc) e) ∙ m.offset;
  fits = omega (arith, ap length m.parts, length-append m.front rest, wire_some rest m.wire);
}

pub Matching-root : (places : List Place) (octets rest : List ℕ) → Matching places octets rest → labels_in rest ≡ [] → Matched places octets (length octets - length rest) None
Matching-root places octets rest m root = record {
  count_is = omega (arith, ap length m.parts, length-append m.front rest, m.count, ap (count_before_match places) root, count-root places);
  offset_is = sym (ap (match_offset places) root ∙ match-root places) ∙ m.offset;
  fits = omega (arith, ap length m.parts, length-append m.front rest, wire_some rest m.wire);
}

-- what begins with a label is no root
pub label_some : (rest : List ℕ) (count : ℕ) (others : List ℕ) → SplitsLabel rest count others → 2 ≤ length rest
label_some rest count others cut = omega (arith, ap length cut.parts, length-append (label_octets cut.label) others, wire_some others cut.wire)

pub recent_at : (names : List RecentName) (d : RecentName) (k : ℕ) → AllByRecursion IsRecentName names → k < length names → IsRecentName (get_or names k d)
recent_at [] d k h lt = absurd (omega arith)
recent_at (n ∷ names) d zero h lt = h.0
recent_at (n ∷ names) d (suc k) h lt = recent_at names d k h.1 (omega arith)

pub recent_pushed : (names : List RecentName) (name : RecentName) → AllByRecursion IsRecentName names → IsRecentName name → AllByRecursion IsRecentName (names ++ name ∷ [])
recent_pushed [] name h is = (is, tt)
recent_pushed (n ∷ names) name h is = (h.0, recent_pushed names name h.1 is)

pub first_name_found : (names : List RecentName) (d : RecentName) (octets : List ℕ) → AllByRecursion IsRecentName names → IsWire octets → 2 ≤ length octets → (length names ≡ 0 → ⊥) → (get_or names 0 d).octets.now ≡ octets → (get_or names 0 d).start < (get_or names 0 d).end
    → first_offset (known_after [] names) (labels_in octets) ≡ Some (get_or names 0 d).start
first_name_found [] d octets h wire some any same lt = absurd (any refl)
first_name_found (n ∷ names) d octets h wire some any same lt = first_of_all n names octets h.0 wire some same lt

pub first_name_near : (names : List RecentName) (d : RecentName) → AllByRecursion IsRecentName names → (length names ≡ 0 → ⊥) → (get_or names 0 d).start < (get_or names 0 d).end → (get_or names 0 d).start < 16384
first_name_near [] d h any lt = absurd (any refl)
first_name_near (n ∷ names) d h any lt = omega (arith, h.0.near)

pub some_more : (places : List Place) (names : List RecentName) (x : List (List ℕ)) (o : Option ℕ) → IfSome o (λ t. first_offset places x ≡ Some t) → IfSome o (λ t. first_offset (known_after places names) x ≡ Some t)
some_more places names x None h = h
some_more places names x (Some t) h = known_more places names x t h
