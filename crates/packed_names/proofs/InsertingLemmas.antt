-- The written labels of names are taken into the table.
use Rattle.std.proofs.Common.{◌≡◌, ℕ, suc, add-one, ◌+◌, ◌≤◌, ◌<◌, Option, Some, None, MatchOption, List, [], ◌∷◌, ◌++◌, length, drop, get_or, refl, sym, ap, subst, ◌∙◌, append_assoc, arith, drop-cons}
use Rattle.std.proofs.lemmas.List.{append-nil, drop_all}
use Rattle.dns_name.specs.Wire.{labels_in, IsWire}
use Rattle.packed_names.specs.declared.table.SuffixEntry.{SuffixEntry}
use Rattle.packed_names.specs.declared.recent.RecentName.{RecentName}
use Rattle.packed_names.specs.Places.{Place, first_offset, reachable_place, unless_found}
use Rattle.packed_names.specs.Recent.{added_places, known_after}
use Rattle.packed_names.specs.Table.{suffix_places, IsTable, SplitsLabel}
use Rattle.packed_names.proofs.CompressLemmas.{Longer, found_before, none_before, longer_rest, longer_append, longer_reachable}
use Rattle.packed_names.proofs.RecentLemmas.{added-root, added-label, added-past}
use Rattle.packed_names.proofs.WrittenLemmas.{reachable_near}

-- what is known when the suffixes of some labels are in the table, and these octets are left, which stand at an offset
pub record Inserting (key : ℕ) (places : List Place) (octets : List ℕ) (start end : ℕ) (heads : List ℕ) (suffixes : List SuffixEntry) (rest : List ℕ) (at : ℕ) : Type 0 where
  pub table : IsTable key heads suffixes
  pub wire : IsWire rest
  pub extra : List Place
  pub places_are : suffix_places suffixes ≡ places ++ extra
  pub longer : Longer (labels_in rest) extra
  pub added : extra ++ added_places places at end (labels_in rest) ≡ added_places places start end (labels_in octets)

pub Inserting-start : (key : ℕ) (places : List Place) (octets : List ℕ) (start end : ℕ) (heads : List ℕ) (suffixes : List SuffixEntry) → suffix_places suffixes ≡ places → IsTable key heads suffixes → IsWire octets → Inserting key places octets start end heads suffixes octets start
Inserting-start key places octets start end heads suffixes are table wire = record { table = table; wire = wire; extra = []; places_are = are ∙ sym (append-nil places); longer = tt; added = refl }

-- the places that one suffix adds
inserted : (places extra : List Place) (suffixes suffixes' : List SuffixEntry) (labels : List (List ℕ)) (at : ℕ) (place : Option ℕ) → Longer labels extra → suffix_places suffixes ≡ places ++ extra
    → MatchOption place ((first_offset (suffix_places suffixes) labels ≡ None) × (suffix_places suffixes' ≡ suffix_places suffixes ++ reachable_place at labels)) (λ t. (first_offset (suffix_places suffixes) labels ≡ Some t) × (suffixes' ≡ suffixes) × (t < 16384))
    → suffix_places suffixes' ≡ suffix_places suffixes ++ unless_found (first_offset places labels) (reachable_place at labels)
inserted places extra suffixes suffixes' labels at None longer are h =
    let none : first_offset places labels ≡ None = none_before places extra labels (first_offset places labels) refl (ap (λ (ps : List Place). first_offset ps labels) (sym are) ∙ h.0) in
    h.1 ∙ ap (λ (o : Option ℕ). suffix_places suffixes ++ unless_found o (reachable_place at labels)) (sym none)
inserted places extra suffixes suffixes' labels at (Some t) longer are h =
    let some : first_offset places labels ≡ Some t = found_before places extra labels t (first_offset places labels) longer refl (ap (λ (ps : List Place). first_offset ps labels) (sym are) ∙ h.0) in
    ap suffix_places h.1 ∙ sym (append-nil (suffix_places suffixes)) ∙ ap (λ (o : Option ℕ). suffix_places suffixes ++ unless_found o (reachable_place at labels)) (sym some)

longer_unless_found : (o : Option ℕ) (l : List ℕ) (ls : List (List ℕ)) (at : ℕ) → Longer ls (unless_found o (reachable_place at (l ∷ ls)))
longer_unless_found None l ls at = longer_reachable l ls at
longer_unless_found (Some t) l ls at = tt

pub Inserting-label : (key : ℕ) (places : List Place) (octets : List ℕ) (start end : ℕ) (heads heads' : List ℕ) (suffixes suffixes' : List SuffixEntry) (rest : List ℕ) (count : ℕ) (others : List ℕ) (at : ℕ) (place : Option ℕ) → Inserting key places octets start end heads suffixes rest at → SplitsLabel rest count others → at < end → end ≤ 16384
    → IsTable key heads' suffixes'
    → MatchOption place ((first_offset (suffix_places suffixes) (labels_in rest) ≡ None) × (suffix_places suffixes' ≡ suffix_places suffixes ++ reachable_place at (labels_in rest))) (λ t. (first_offset (suffix_places suffixes) (labels_in rest) ≡ Some t) × (suffixes' ≡ suffixes) × (t < 16384))
    → Inserting key places octets start end heads' suffixes' others (at + count)
Inserting-label key places octets start end heads heads' suffixes suffixes' rest count others at place h cut lt near table outcome =
    let l = cut.label in
    let ls = labels_in others in
    let piece = unless_found (first_offset places (labels_in rest)) (reachable_place at (labels_in rest)) in
    let piece' = unless_found (first_offset places (l ∷ ls)) (reachable_place at (l ∷ ls)) in
    let same : piece ≡ piece' = ap (λ (x : List (List ℕ)). unless_found (first_offset places x) (reachable_place at x)) cut.labels in
    let came : suffix_places suffixes' ≡ suffix_places suffixes ++ piece' = inserted places h.extra suffixes suffixes' (labels_in rest) at place h.longer h.places_are outcome ∙ ap (λ (ps : List Place). suffix_places suffixes ++ ps) same in
    let next : at + length l + 1 ≡ at + count = omega (arith, cut.count_is) in
    let step : added_places places at end (labels_in rest) ≡ piece' ++ added_places places (at + count) end ls =
    ap (added_places places at end) cut.labels
    ∙ added-label places at end l ls lt
    ∙ ap (λ (ps : List Place). unless_found (first_offset places (l ∷ ls)) ps ++ added_places places (at + length l + 1) end ls) (sym (reachable_near at (l ∷ ls) (omega arith)))
    ∙ ap (λ (n : ℕ). piece' ++ added_places places n end ls) next in
    let longer : Longer (l ∷ ls) h.extra = subst (λ (x : List (List ℕ)). Longer x h.extra) cut.labels h.longer in
    record {
      table = table;
      wire = cut.wire;
      extra = h.extra ++ piece';
      places_are = came ∙ ap (λ (ps : List Place). ps ++ piece') h.places_are ∙ append_assoc places h.extra piece';
      longer = longer_append ls h.extra piece' (longer_rest l ls h.extra longer) (longer_unless_found (first_offset places (l ∷ ls)) l ls at);
      added = append_assoc h.extra piece' (added_places places (at + count) end ls) ∙ ap (λ (ps : List Place). h.extra ++ ps) (sym step) ∙ h.added;
    }

inserting_end : (places extra rest : List Place) (all : List Place) → rest ≡ [] → extra ++ rest ≡ all → places ++ extra ≡ places ++ all
inserting_end places extra rest all none e = ap (λ (ps : List Place). places ++ ps) (sym (append-nil extra) ∙ ap (λ (ps : List Place). extra ++ ps) (sym none) ∙ e)

pub Inserting-past : (key : ℕ) (places : List Place) (octets : List ℕ) (start end : ℕ) (heads : List ℕ) (suffixes : List SuffixEntry) (rest : List ℕ) (at : ℕ) → Inserting key places octets start end heads suffixes rest at → end ≤ at → suffix_places suffixes ≡ places ++ added_places places start end (labels_in octets)
Inserting-past key places octets start end heads suffixes rest at h le =
    h.places_are ∙ inserting_end places h.extra (added_places places at end (labels_in rest)) (added_places places start end (labels_in octets)) (added-past places at end (labels_in rest) le) h.added

pub Inserting-root : (key : ℕ) (places : List Place) (octets : List ℕ) (start end : ℕ) (heads : List ℕ) (suffixes : List SuffixEntry) (rest : List ℕ) (at : ℕ) → Inserting key places octets start end heads suffixes rest at → labels_in rest ≡ [] → suffix_places suffixes ≡ places ++ added_places places start end (labels_in octets)
Inserting-root key places octets start end heads suffixes rest at h root =
    h.places_are ∙ inserting_end places h.extra (added_places places at end (labels_in rest)) (added_places places start end (labels_in octets)) (ap (added_places places at end) root ∙ added-root places at end) h.added

-- what is known when some names are in the table
pub record InsertingNames (key : ℕ) (places : List Place) (names : List RecentName) (heads : List ℕ) (suffixes : List SuffixEntry) (i : ℕ) : Type 0 where
  pub table : IsTable key heads suffixes
  pub same : known_after (suffix_places suffixes) (drop i names) ≡ known_after places names

pub InsertingNames-next : (key : ℕ) (places : List Place) (names : List RecentName) (d : RecentName) (heads heads' : List ℕ) (suffixes suffixes' : List SuffixEntry) (i start end : ℕ) → InsertingNames key places names heads suffixes i → i < length names → IsTable key heads' suffixes'
    → start ≡ (get_or names i d).start → end ≡ (get_or names i d).end → suffix_places suffixes' ≡ suffix_places suffixes ++ added_places (suffix_places suffixes) start end (labels_in (get_or names i d).octets.now)
    → InsertingNames key places names heads' suffixes' (i + 1)
InsertingNames-next key places names d heads heads' suffixes suffixes' i start end h lt table start_is end_is e =
    let known = suffix_places suffixes in
    let name = get_or names i d in
    let is : suffix_places suffixes' ≡ known ++ added_places known name.start name.end (labels_in name.octets.now) =
    e ∙ ap (λ (n : ℕ). known ++ added_places known n end (labels_in name.octets.now)) start_is ∙ ap (λ (n : ℕ). known ++ added_places known name.start n (labels_in name.octets.now)) end_is in
    record {
      table = table;
      same = ap (λ (n : ℕ). known_after (suffix_places suffixes') (drop n names)) (add-one i) ∙ ap (λ (ps : List Place). known_after ps (drop (suc i) names)) is ∙ ap (known_after known) (sym (drop-cons names i d lt)) ∙ h.same;
    }

pub InsertingNames-end : (key : ℕ) (places : List Place) (names : List RecentName) (heads : List ℕ) (suffixes : List SuffixEntry) (i : ℕ) → InsertingNames key places names heads suffixes i → length names ≤ i → suffix_places suffixes ≡ known_after places names
InsertingNames-end key places names heads suffixes i h le = ap (known_after (suffix_places suffixes)) (sym (drop_all i names le)) ∙ h.same
