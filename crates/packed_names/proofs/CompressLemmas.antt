-- A name that is compressed label by label.
use Rattle.std.proofs.Common.{◌≡◌, ◌≢◌, ℕ, get_or, add-one, ◌+◌, ◌-◌, ◌≤◌, ◌<◌, Bool, true, false, cond, ltb, Option, Some, None, List, [], ◌∷◌, ◌++◌, length, take, drop, refl, sym, ap, subst, ◌∙◌, append_assoc, arith, length-append}
use Rattle.std.specs.List.{flat_map, AllByRecursion}
use Rattle.std.specs.Option.{IfSome}
use Rattle.std.proofs.lemmas.Bool.{cond_both}
use Rattle.std.proofs.Math.Seq.{take-length}
use Rattle.std.proofs.lemmas.List.{append-nil, length-drop, length-take, take_at, take-append-le, take-append-drop}
use Rattle.std.proofs.lemmas.Slice.Eq.{bytes_eq-Decides}
use Rattle.dns_name.specs.Labels.{label_octets, name_octets}
use Rattle.dns_name.specs.Wire.{labels_in, IsWire}
use Rattle.dns_name.proofs.WireLemmas.{name_octets-cons, Cuts, wire_cuts, wire_ends}
use Rattle.packed_names.specs.declared.table.SuffixEntry.{SuffixEntry}
use Rattle.packed_names.specs.Places.{Place, same_octets, first_offset, pointer_octets, pointer_or, compressed_octets, reachable_place, unless_found, new_places}
use Rattle.packed_names.specs.Table.{suffix_places, IsTable, SplitsLabel}
use Rattle.packed_names.proofs.TableLemmas.{first-append, none-append}

pub compressed_octets-found : (places : List Place) (name : List (List ℕ)) (t : ℕ) → first_offset places name ≡ Some t → (name ≡ [] → ⊥) → compressed_octets places name ≡ pointer_octets t
unfolding compressed_octets
compressed_octets-found places [] t e some = absurd (some refl)
compressed_octets-found places (l ∷ ls) t e some = ap (λ (o : Option ℕ). pointer_or o (label_octets l ++ compressed_octets places ls)) e

pub compressed_octets-none : (places : List Place) (l : List ℕ) (ls : List (List ℕ)) → first_offset places (l ∷ ls) ≡ None → compressed_octets places (l ∷ ls) ≡ label_octets l ++ compressed_octets places ls
unfolding compressed_octets
compressed_octets-none places l ls e = ap (λ (o : Option ℕ). pointer_or o (label_octets l ++ compressed_octets places ls)) e

pub compressed_octets-root : (places : List Place) → compressed_octets places [] ≡ 0 ∷ []
unfolding compressed_octets
compressed_octets-root places = refl

pub new_places-found : (places : List Place) (at : ℕ) (name : List (List ℕ)) (t : ℕ) → first_offset places name ≡ Some t → (name ≡ [] → ⊥) → new_places places at name ≡ []
unfolding new_places
new_places-found places at [] t e some = absurd (some refl)
new_places-found places at (l ∷ ls) t e some = ap (λ (o : Option ℕ). unless_found o (reachable_place at (l ∷ ls) ++ new_places places (at + length l + 1) ls)) e

pub new_places-none : (places : List Place) (at : ℕ) (l : List ℕ) (ls : List (List ℕ)) → first_offset places (l ∷ ls) ≡ None → new_places places at (l ∷ ls) ≡ reachable_place at (l ∷ ls) ++ new_places places (at + length l + 1) ls
unfolding new_places
new_places-none places at l ls e = ap (λ (o : Option ℕ). unless_found o (reachable_place at (l ∷ ls) ++ new_places places (at + length l + 1) ls)) e

pub new_places-root : (places : List Place) (at : ℕ) → new_places places at [] ≡ []
unfolding new_places
new_places-root places at = refl

-- places of names that are longer than this one
abbrev pub Longer : List (List ℕ) → List Place → Type 0
Longer labels places = AllByRecursion (λ p. length (name_octets labels) < length (name_octets p.labels)) places

pub longer_if : (v : Bool) (p : ℕ) (a : Option ℕ) → (v ≡ true → ⊥) → a ≡ None → cond v (Some p) a ≡ None
longer_if true p a differs e = absurd (differs refl)
longer_if false p a differs e = e

longer_none : (labels : List (List ℕ)) (extra : List Place) → Longer labels extra → first_offset extra labels ≡ None
unfolding first_offset
longer_none labels [] h = refl
longer_none labels (p ∷ extra) h =
    longer_if (same_octets p.labels labels) p.offset (first_offset extra labels)
    (λ same. omega (arith, h.0, ap length ((bytes_eq-Decides (name_octets p.labels) (name_octets labels)).0 same)))
    (longer_none labels extra h.1)

-- a look-up finds the places that were known before the name, and not those that the name itself adds
pub found_before : (places extra : List Place) (labels : List (List ℕ)) (t : ℕ) (o : Option ℕ) → Longer labels extra → first_offset places labels ≡ o → first_offset (places ++ extra) labels ≡ Some t → o ≡ Some t
found_before places extra labels t None h is e =
    let none : first_offset (places ++ extra) labels ≡ None = none-append places extra labels is ∙ longer_none labels extra h in
    absurd cc
found_before places extra labels t (Some s) h is e = sym (first-append places extra labels s is) ∙ e

pub none_before : (places extra : List Place) (labels : List (List ℕ)) (o : Option ℕ) → first_offset places labels ≡ o → first_offset (places ++ extra) labels ≡ None → o ≡ None
none_before places extra labels None is e = refl
none_before places extra labels (Some s) is e =
    let some : first_offset (places ++ extra) labels ≡ Some s = first-append places extra labels s is in
    absurd cc

octets_less : (l : List ℕ) (ls : List (List ℕ)) → length (name_octets ls) < length (name_octets (l ∷ ls))
octets_less l ls = omega (arith, ap length (name_octets-cons l ls), length-append l (name_octets ls))

pub longer_rest : (l : List ℕ) (ls : List (List ℕ)) (extra : List Place) → Longer (l ∷ ls) extra → Longer ls extra
longer_rest l ls [] h = tt
longer_rest l ls (p ∷ extra) h = (omega (arith, h.0, octets_less l ls), longer_rest l ls extra h.1)

pub longer_append : (labels : List (List ℕ)) (a b : List Place) → Longer labels a → Longer labels b → Longer labels (a ++ b)
longer_append labels [] b ha hb = hb
longer_append labels (p ∷ a) b ha hb = (ha.0, longer_append labels a b ha.1 hb)

pub longer_reachable : (l : List ℕ) (ls : List (List ℕ)) (at : ℕ) → Longer ls (reachable_place at (l ∷ ls))
longer_reachable l ls at = cond_both (ltb at 16384) (record { offset = at; labels = l ∷ ls } ∷ []) [] (Longer ls) (λ e. (octets_less l ls, tt)) (λ e. tt)

-- what is known when some labels of a name are written, and these are left
pub record Compressing (key : ℕ) (places : List Place) (start : List ℕ) (name : List (List ℕ)) (heads : List ℕ) (suffixes : List SuffixEntry) (out : List ℕ) (labels : List (List ℕ)) : Type 0 where
  pub table : IsTable key heads suffixes
  pub extra : List Place
  pub places_are : suffix_places suffixes ≡ places ++ extra
  pub longer : Longer labels extra
  pub wrote : out ++ compressed_octets places labels ≡ start ++ compressed_octets places name
  pub added : extra ++ new_places places (length out) labels ≡ new_places places (length start) name
  pub begins : take (length start) out ≡ start

pub Compressing-start : (key : ℕ) (places : List Place) (start : List ℕ) (name : List (List ℕ)) (heads : List ℕ) (suffixes : List SuffixEntry) → suffix_places suffixes ≡ places → IsTable key heads suffixes → Compressing key places start name heads suffixes start name
Compressing-start key places start name heads suffixes are table = record {
  table = table;
  extra = [];
  places_are = are ∙ sym (append-nil places);
  longer = tt;
  wrote = refl;
  added = refl;
  begins = ap (take (length start)) (sym (append-nil start)) ∙ take_at start [] (length start) refl;
}

begins_append : (start out more : List ℕ) → take (length start) out ≡ start → length start ≤ length out → take (length start) (out ++ more) ≡ start
begins_append start out more h le = take-append-le (length start) out more le ∙ h

begins_le : (start out : List ℕ) → take (length start) out ≡ start → length start ≤ length out
begins_le start out h = omega (arith, length-take (length start) out, ap length h)

-- one more label is written
pub Compressing-label : (key : ℕ) (places : List Place) (start : List ℕ) (name : List (List ℕ)) (heads heads' : List ℕ) (suffixes suffixes' : List SuffixEntry) (out out' : List ℕ) (l : List ℕ) (ls : List (List ℕ)) → Compressing key places start name heads suffixes out (l ∷ ls)
    → IsTable key heads' suffixes' → first_offset (suffix_places suffixes) (l ∷ ls) ≡ None → suffix_places suffixes' ≡ suffix_places suffixes ++ reachable_place (length out) (l ∷ ls) → out' ≡ out ++ label_octets l → Compressing key places start name heads' suffixes' out' ls
Compressing-label key places start name heads heads' suffixes suffixes' out out' l ls h table none are out_is =
    let before : first_offset places (l ∷ ls) ≡ None = none_before places h.extra (l ∷ ls) (first_offset places (l ∷ ls)) refl (ap (λ (ps : List Place). first_offset ps (l ∷ ls)) (sym h.places_are) ∙ none) in
    let at : length out' ≡ length out + length l + 1 = omega (arith, ap length out_is, length-append out (label_octets l)) in
    record {
      table = table;
      extra = h.extra ++ reachable_place (length out) (l ∷ ls);
      places_are = are ∙ ap (λ (ps : List Place). ps ++ reachable_place (length out) (l ∷ ls)) h.places_are ∙ append_assoc places h.extra (reachable_place (length out) (l ∷ ls));
      longer = longer_append ls h.extra (reachable_place (length out) (l ∷ ls)) (longer_rest l ls h.extra h.longer) (longer_reachable l ls (length out));
      wrote = ap (λ (o : List ℕ). o ++ compressed_octets places ls) out_is ∙ append_assoc out (label_octets l) (compressed_octets places ls) ∙ ap (λ (o : List ℕ). out ++ o) (sym (compressed_octets-none places l ls before)) ∙ h.wrote;
      added = append_assoc h.extra (reachable_place (length out) (l ∷ ls)) (new_places places (length out') ls)
          ∙ ap (λ (n : ℕ). h.extra ++ (reachable_place (length out) (l ∷ ls) ++ new_places places n ls)) at
          ∙ ap (λ (ps : List Place). h.extra ++ ps) (sym (new_places-none places (length out) l ls before))
          ∙ h.added;
      begins = ap (take (length start)) out_is ∙ begins_append start out (label_octets l) h.begins (begins_le start out h.begins);
    }

-- what is known when the whole name is written
pub record Compressed (places : List Place) (start : List ℕ) (name : List (List ℕ)) (suffixes : List SuffixEntry) (out : List ℕ) : Type 0 where
  pub octets : out ≡ start ++ compressed_octets places name
  pub places_are : suffix_places suffixes ≡ places ++ new_places places (length start) name

pub Compressing-pointer : (key : ℕ) (places : List Place) (start : List ℕ) (name : List (List ℕ)) (heads : List ℕ) (suffixes suffixes' : List SuffixEntry) (out out' : List ℕ) (l : List ℕ) (ls : List (List ℕ)) (t : ℕ) → Compressing key places start name heads suffixes out (l ∷ ls)
    → first_offset (suffix_places suffixes) (l ∷ ls) ≡ Some t → suffixes' ≡ suffixes → out' ≡ out ++ pointer_octets t → Compressed places start name suffixes' out'
Compressing-pointer key places start name heads suffixes suffixes' out out' l ls t h found same out_is =
    let before : first_offset places (l ∷ ls) ≡ Some t = found_before places h.extra (l ∷ ls) t (first_offset places (l ∷ ls)) h.longer refl (ap (λ (ps : List Place). first_offset ps (l ∷ ls)) (sym h.places_are) ∙ found) in
    record {
      octets = out_is ∙ ap (λ (o : List ℕ). out ++ o) (sym (compressed_octets-found places (l ∷ ls) t before (λ e. cc))) ∙ h.wrote;
      places_are = ap suffix_places same ∙ h.places_are ∙ ap (λ (ps : List Place). places ++ ps) (sym (append-nil h.extra) ∙ ap (λ (ps : List Place). h.extra ++ ps) (sym (new_places-found places (length out) (l ∷ ls) t before (λ e. cc))) ∙ h.added);
    }

pub Compressing-root : (key : ℕ) (places : List Place) (start : List ℕ) (name : List (List ℕ)) (heads : List ℕ) (suffixes : List SuffixEntry) (out out' : List ℕ) (labels : List (List ℕ)) → Compressing key places start name heads suffixes out labels → labels ≡ [] → out' ≡ out ++ 0 ∷ [] → Compressed places start name suffixes out'
Compressing-root key places start name heads suffixes out out' labels h none out_is =
    let end : compressed_octets places labels ≡ 0 ∷ [] = ap (compressed_octets places) none ∙ compressed_octets-root places in
    let empty : new_places places (length out) labels ≡ [] = ap (new_places places (length out)) none ∙ new_places-root places (length out) in
    record {
      octets = out_is ∙ ap (λ (o : List ℕ). out ++ o) (sym end) ∙ h.wrote;
      places_are = h.places_are ∙ ap (λ (ps : List Place). places ++ ps) (sym (append-nil h.extra) ∙ ap (λ (ps : List Place). h.extra ++ ps) (sym empty) ∙ h.added);
    }

-- the same, of the octets that are left of the name
pub record CompressingRest (key : ℕ) (places : List Place) (start octets : List ℕ) (heads : List ℕ) (suffixes : List SuffixEntry) (out rest : List ℕ) : Type 0 where
  pub compressing : Compressing key places start (labels_in octets) heads suffixes out (labels_in rest)
  pub wire : IsWire rest

pub CompressingRest-start : (key : ℕ) (places : List Place) (start octets : List ℕ) (heads : List ℕ) (suffixes : List SuffixEntry) → suffix_places suffixes ≡ places → IsTable key heads suffixes → IsWire octets → CompressingRest key places start octets heads suffixes start octets
CompressingRest-start key places start octets heads suffixes are table wire = record { compressing = Compressing-start key places start (labels_in octets) heads suffixes are table; wire = wire }

pub CompressingRest-label : (key : ℕ) (places : List Place) (start octets : List ℕ) (heads heads' : List ℕ) (suffixes suffixes' : List SuffixEntry) (out out' rest : List ℕ) (count : ℕ) (others : List ℕ) (at : ℕ) → CompressingRest key places start octets heads suffixes out rest → SplitsLabel rest count others
    → IsTable key heads' suffixes' → first_offset (suffix_places suffixes) (labels_in rest) ≡ None → suffix_places suffixes' ≡ suffix_places suffixes ++ reachable_place at (labels_in rest) → at ≡ length out → out' ≡ out ++ take count rest → CompressingRest key places start octets heads' suffixes' out' others
CompressingRest-label key places start octets heads heads' suffixes suffixes' out out' rest count others at h cut table none are at_is out_is =
    let l = cut.label in
    let ls = labels_in others in
    let taken : take count rest ≡ label_octets l = ap (take count) cut.parts ∙ take_at (label_octets l) others count (omega (arith, cut.count_is)) in
    record {
      compressing = Compressing-label key places start (labels_in octets) heads heads' suffixes suffixes' out out' l ls (subst (λ (x : List (List ℕ)). Compressing key places start (labels_in octets) heads suffixes out x) cut.labels h.compressing) table
          (ap (first_offset (suffix_places suffixes)) (sym cut.labels) ∙ none)
          (are ∙ ap (λ (n : ℕ). suffix_places suffixes ++ reachable_place n (labels_in rest)) at_is ∙ ap (λ (x : List (List ℕ)). suffix_places suffixes ++ reachable_place (length out) x) cut.labels)
          (out_is ∙ ap (λ (x : List ℕ). out ++ x) taken);
      wire = cut.wire;
    }

pub CompressingRest-pointer : (key : ℕ) (places : List Place) (start octets : List ℕ) (heads : List ℕ) (suffixes suffixes' : List SuffixEntry) (out out' rest : List ℕ) (count : ℕ) (others : List ℕ) (t : ℕ) → CompressingRest key places start octets heads suffixes out rest → SplitsLabel rest count others
    → first_offset (suffix_places suffixes) (labels_in rest) ≡ Some t → suffixes' ≡ suffixes → out' ≡ out ++ pointer_octets t → Compressed places start (labels_in octets) suffixes' out'
CompressingRest-pointer key places start octets heads suffixes suffixes' out out' rest count others t h cut found same out_is =
    Compressing-pointer key places start (labels_in octets) heads suffixes suffixes' out out' cut.label (labels_in others) t (subst (λ (x : List (List ℕ)). Compressing key places start (labels_in octets) heads suffixes out x) cut.labels h.compressing) (ap (first_offset (suffix_places suffixes)) (sym cut.labels) ∙ found) same out_is

-- the first label of a name as it is written in full
split_label_at : (n : ℕ) (tail : List ℕ) → Cuts (n ∷ tail) n tail → SplitsLabel (n ∷ tail) (n + 1) (drop n tail)
split_label_at n tail c =
    let len : length (take n tail) ≡ n = omega (arith, length-take n tail, c.fits) in
    record {
      label = take n tail;
      labels = c.labels;
      parts = ap (λ (x : List ℕ). n ∷ x) (sym (take-append-drop n tail)) ∙ ap (λ (k : ℕ). k ∷ (take n tail ++ drop n tail)) (sym len);
      count_is = omega arith;
      wire = c.others;
    }

pub split_label_of : (octets : List ℕ) → IsWire octets → 1 ≤ get_or octets 0 0 → SplitsLabel octets (get_or octets 0 0 + 1) (drop (get_or octets 0 0 + 1) octets)
split_label_of [] w low = absurd (omega arith)
split_label_of (n ∷ tail) w low =
    let d : drop (n + 1) (n ∷ tail) ≡ drop n tail = ap (λ (k : ℕ). drop k (n ∷ tail)) (add-one n) in
    rw d (split_label_at n tail (wire_cuts (n ∷ tail) n tail w refl low))

pub split_label_none : (octets : List ℕ) → IsWire octets → get_or octets 0 0 ≡ 0 → labels_in octets ≡ []
split_label_none [] w z = absurd (omega (arith, ap length w.whole, length-append (flat_map label_octets (labels_in [])) (0 ∷ [])))
split_label_none (n ∷ tail) w z = wire_ends (n ∷ tail) n tail refl z

pub wire_some : (octets : List ℕ) → IsWire octets → 0 < length octets
wire_some octets w = omega (arith, ap length w.whole, length-append (flat_map label_octets (labels_in octets)) (0 ∷ []))

pub wire_short : (octets : List ℕ) → IsWire octets → length octets ≤ 255
wire_short octets w = omega (arith, ap length w.whole, w.name.short)

pub split_label_room : (octets : List ℕ) (len : ℕ) → IsWire octets → len ≡ get_or octets 0 0 → (len ≡ 0 → ⊥) → len + 1 ≤ length octets
split_label_room octets len w is some =
    let c = split_label_of octets w (omega arith) in
    omega (arith, ap length c.parts, c.count_is, length-append (label_octets c.label) (drop (get_or octets 0 0 + 1) octets))

pub split_label_whole : (octets : List ℕ) (len : ℕ) → IsWire octets → len ≡ get_or octets 0 0 → (len ≡ 0 → ⊥) → SplitsLabel octets (len + 1) (take (length octets - (len + 1)) (drop (len + 1) octets))
split_label_whole octets len w is some =
    let all : take (length octets - (len + 1)) (drop (len + 1) octets) ≡ drop (len + 1) octets = ap (λ (n : ℕ). take n (drop (len + 1) octets)) (sym (length-drop (len + 1) octets)) ∙ take-length (drop (len + 1) octets) in
    rw (all, is) (split_label_of octets w (omega arith))

-- a name of one octet is the root
root_short : (name : List (List ℕ)) → length (name_octets name) < 2 → name ≡ []
root_short [] lt = refl
root_short (l ∷ ls) lt = absurd (omega (arith, lt, length-append (flat_map label_octets (l ∷ ls)) (0 ∷ []), length-append (label_octets l) (flat_map label_octets ls)))

pub wire_root : (octets : List ℕ) → IsWire octets → length octets < 2 → labels_in octets ≡ []
wire_root octets w lt = root_short (labels_in octets) (subst (λ (n : ℕ). n < 2) (ap length w.whole) lt)

pub root_octets : (places : List Place) (out octets out' : List ℕ) → labels_in octets ≡ [] → out' ≡ out ++ 0 ∷ [] → out' ≡ out ++ compressed_octets places (labels_in octets)
unfolding compressed_octets
root_octets places out octets out' root is = rw root is

pub root_places : (places places' : List Place) (at : ℕ) (octets : List ℕ) → labels_in octets ≡ [] → places' ≡ places → places' ≡ places ++ new_places places at (labels_in octets)
unfolding new_places
root_places places places' at octets root is = rw root (is ∙ sym (append-nil places))

-- a name whose whole has a place
pub known_octets : (result : Option ℕ) (places known : List Place) (name : List (List ℕ)) → known ≡ places → IfSome result (λ t. first_offset known name ≡ Some t) → IfSome result (λ t. name ≢ [])
    → IfSome result (λ t. compressed_octets places name ≡ pointer_octets t)
known_octets None places known name same found some = tt
known_octets (Some t) places known name same found some = compressed_octets-found places name t (ap (λ (ps : List Place). first_offset ps name) (sym same) ∙ found) some

pub known_places_none : (result : Option ℕ) (places known : List Place) (at : ℕ) (name : List (List ℕ)) → known ≡ places → IfSome result (λ t. first_offset known name ≡ Some t) → IfSome result (λ t. name ≢ [])
    → IfSome result (λ t. new_places places at name ≡ [])
known_places_none None places known at name same found some = tt
known_places_none (Some t) places known at name same found some = new_places-found places at name t (ap (λ (ps : List Place). first_offset ps name) (sym same) ∙ found) some
