-- Names and data in lower case.
use Rattle.std.proofs.Common.{◌≡◌, ℕ, ◌+◌, ◌<◌, ◌≤◌, ◌^◌, List, [], ◌∷◌, ◌++◌, length, take, drop, get_or, Option, Some, None, Ok, refl, sym, ap, subst, ◌∙◌, append_assoc, arith, length-append}
use Rattle.std.specs.Prelude.{MatchOption, ⊤, IsOk}
use Rattle.std.proofs.lemmas.List.{append-nil, take_at, drop_at, drop-drop, drop_more, drop_all, length-drop}
use Rattle.dns_name.specs.Labels.{IsName, name_octets, lowered}
use Rattle.dns_name.specs.Reading.{name_at}
use Rattle.dns_name.specs.Standing.{Stands}
use Rattle.dns_name.proofs.AlikeLemmas.{lowered-lowered}
use Rattle.dns_name.proofs.Standing.{name_written}
use Rattle.dns_name.proofs.WireLemmas.{IsName-lowered}
use Rattle.dns_record.specs.declared.part.Part.{Part}
use Rattle.dns_record.specs.declared.part.Part.TheVariants.{Name, Fixed}
use Rattle.dns_record.specs.Part.{layout_of, HasParts}
use Rattle.dns_record.specs.Record.{PlainRecord, IsData}
use Rattle.dns_record.proofs.Data.{is_data}
use Rattle.dns_record.specs.Row.{PlainRow, IsRow, AreLowered, IsLoweredBy, IsLoweredData, lower_case_part, lowered_parts, lowered_layout, lowered_data}

-- the name that octets begin with
pub name_first : (octets rest : List ℕ) (name : List (List ℕ)) → IsName name → octets ≡ name_octets name ++ rest → name_at octets 0 ≡ Ok (name, length (name_octets name))
name_first octets rest name is e =
    let m = name_octets name in
    let stands : Stands m octets 0 (length m) = record { begins = ap (take (length m)) e ∙ take_at m rest (length m) refl; ends = omega arith } in
    name_written name octets 0 (length m) is stands

-- and what is behind it
pub name_rest : (octets rest : List ℕ) (name : List (List ℕ)) → octets ≡ name_octets name ++ rest → drop (length (name_octets name)) octets ≡ rest
name_rest octets rest name e = ap (drop (length (name_octets name))) e ∙ drop_at (name_octets name) rest (length (name_octets name)) refl

pub has_name : (part : Part) (others : List Part) (octets : List ℕ) → part ≡ Name → HasParts (part ∷ others) octets → IsOk (name_at octets 0)
has_name part others octets e has =
    let h = subst (λ (p : Part). HasParts (p ∷ others) octets) e has in
    rw (name_first octets h.1 h.0 h.2 h.3) refl

-- so many octets before others
pub has_fixed : (part : Part) (count : ℕ) (others : List Part) (octets : List ℕ) → part ≡ Fixed count → HasParts (part ∷ others) octets → count ≤ length octets
has_fixed part count others octets e has =
    let h = subst (λ (p : Part). HasParts (p ∷ others) octets) e has in
    omega (arith, h.2, ap length h.3, length-append h.0 h.1)

-- the parts behind the first
part_within : (part : Part) (others : List Part) (octets : List ℕ) → HasParts (part ∷ others) octets → (lower_case_part part octets).1 ≤ length octets
part_within Name others octets h = rw (name_first octets h.1 h.0 h.2 h.3) (omega (arith, ap length h.3, length-append (name_octets h.0) h.1))
part_within (Fixed count) others octets h = omega (arith, h.2, ap length h.3, length-append h.0 h.1)

parts_behind : (part : Part) (others : List Part) (octets : List ℕ) → HasParts (part ∷ others) octets → HasParts others (drop (lower_case_part part octets).1 octets)
parts_behind Name others octets h = rw (name_first octets h.1 h.0 h.2 h.3, name_rest octets h.1 h.0 h.3) h.4
parts_behind (Fixed count) others octets h =
    let rest : drop count octets ≡ h.1 = ap (drop count) h.3 ∙ drop_at h.0 h.1 count h.2 in
    rw rest h.4

-- what is written and what is left, while the parts are gone through
pub record HasLowered (parts : List Part) (octets : List ℕ) (i place : ℕ) (out : List ℕ) : Type 0 where
  pub within : place ≤ length octets
  pub has : HasParts (drop i parts) (drop place octets)
  pub written : out ++ lowered_parts (drop i parts) (drop place octets) ≡ lowered_parts parts octets

pub lowered_start : (parts : List Part) (octets : List ℕ) → HasParts parts octets → HasLowered parts octets 0 0 []
lowered_start parts octets h = record { within = omega arith; has = h; written = refl }

pub next_has : (parts : List Part) (octets : List ℕ) (i place : ℕ) (out : List ℕ) (d : Part) → i < length parts → HasLowered parts octets i place out → HasParts (get_or parts i d ∷ drop (i + 1) parts) (drop place octets)
next_has parts octets i place out d lt h = subst (λ (ps : List Part). HasParts ps (drop place octets)) (drop_more parts i d lt) h.has

pub next_within : (parts : List Part) (octets : List ℕ) (i place used : ℕ) (out : List ℕ) (d : Part) → i < length parts → HasLowered parts octets i place out
    → used ≡ (lower_case_part (get_or parts i d) (drop place octets)).1 → place + used ≤ length octets
next_within parts octets i place used out d lt h e =
    omega (arith, e, h.within, part_within (get_or parts i d) (drop (i + 1) parts) (drop place octets) (next_has parts octets i place out d lt h), length-drop place octets)

pub lowered_more : (parts : List Part) (octets : List ℕ) (i place used : ℕ) (out new : List ℕ) (d : Part) → i < length parts → HasLowered parts octets i place out
    → used ≡ (lower_case_part (get_or parts i d) (drop place octets)).1 → new ≡ out ++ (lower_case_part (get_or parts i d) (drop place octets)).0 → HasLowered parts octets (i + 1) (place + used) new
unfolding lowered_parts
lowered_more parts octets i place used out new d lt h e f =
    let part = get_or parts i d in
    let others = drop (i + 1) parts in
    let first = lower_case_part part (drop place octets) in
    let has = next_has parts octets i place out d lt h in
    let behind : drop first.1 (drop place octets) ≡ drop (place + used) octets = ap (λ (n : ℕ). drop n (drop place octets)) (sym e) ∙ drop-drop used place octets in
    record {
      within = next_within parts octets i place used out d lt h e;
      has = subst (HasParts others) behind (parts_behind part others (drop place octets) has);
      written =
          ap (λ (l : List ℕ). l ++ lowered_parts others (drop (place + used) octets)) f
          ∙ append_assoc out first.0 (lowered_parts others (drop (place + used) octets))
          ∙ ap (λ (l : List ℕ). out ++ (first.0 ++ lowered_parts others l)) (sym behind)
          ∙ ap (λ (ps : List Part). out ++ lowered_parts ps (drop place octets)) (sym (drop_more parts i d lt))
          ∙ h.written;
    }

pub lowered_end : (parts : List Part) (octets : List ℕ) (i place : ℕ) (out : List ℕ) → length parts ≤ i → HasLowered parts octets i place out → out ≡ lowered_parts parts octets
unfolding lowered_parts
lowered_end parts octets i place out le h = sym (append-nil out) ∙ ap (λ (ps : List Part). out ++ lowered_parts ps (drop place octets)) (sym (drop_all i parts le)) ∙ h.written

-- the parts of data in lower case
lowered_name : (octets rest : List ℕ) (name : List (List ℕ)) (parts : List Part) → IsName name → octets ≡ name_octets name ++ rest → lowered_parts (Name ∷ parts) octets ≡ name_octets (lowered name) ++ lowered_parts parts rest
unfolding lowered_parts
lowered_name octets rest name parts is e = rw (name_first octets rest name is e, name_rest octets rest name e) refl

lowered_fixed : (octets first rest : List ℕ) (count : ℕ) (parts : List Part) → length first ≡ count → octets ≡ first ++ rest → lowered_parts (Fixed count ∷ parts) octets ≡ first ++ lowered_parts parts rest
unfolding lowered_parts
lowered_fixed octets first rest count parts len e =
    let front : take count octets ≡ first = ap (take count) e ∙ take_at first rest count len in
    let behind : drop count octets ≡ rest = ap (drop count) e ∙ drop_at first rest count len in
    rw (front, behind) refl

has_lowered : (parts : List Part) (octets : List ℕ) → HasParts parts octets → HasParts parts (lowered_parts parts octets)
unfolding lowered_parts
has_lowered [] octets h = refl
has_lowered (Name ∷ parts) octets h = (lowered h.0, lowered_parts parts h.1, IsName-lowered h.0 h.2, lowered_name octets h.1 h.0 parts h.2 h.3, has_lowered parts h.1 h.4)
has_lowered (Fixed count ∷ parts) octets h = (h.0, lowered_parts parts h.1, h.2, lowered_fixed octets h.0 h.1 count parts h.2 h.3, has_lowered parts h.1 h.4)

parts_stay : (parts : List Part) (octets : List ℕ) → HasParts parts octets → lowered_parts parts (lowered_parts parts octets) ≡ lowered_parts parts octets
unfolding lowered_parts
parts_stay [] octets h = refl
parts_stay (Name ∷ parts) octets h =
    let front = lowered_name octets h.1 h.0 parts h.2 h.3 in
    lowered_name (lowered_parts (Name ∷ parts) octets) (lowered_parts parts h.1) (lowered h.0) parts (IsName-lowered h.0 h.2) front
    ∙ ap (λ (name : List (List ℕ)). name_octets name ++ lowered_parts parts (lowered_parts parts h.1)) (lowered-lowered h.0)
    ∙ ap (λ (l : List ℕ). name_octets (lowered h.0) ++ l) (parts_stay parts h.1 h.4)
    ∙ sym front
parts_stay (Fixed count ∷ parts) octets h =
    let front = lowered_fixed octets h.0 h.1 count parts h.2 h.3 in
    lowered_fixed (lowered_parts (Fixed count ∷ parts) octets) h.0 (lowered_parts parts h.1) count parts h.2 front ∙ ap (λ (l : List ℕ). h.0 ++ l) (parts_stay parts h.1 h.4) ∙ sym front

pub parts_of : (rtype : ℕ) (rdata : List ℕ) (parts : List Part) → layout_of rtype 1 ≡ Some parts → IsData rtype 1 rdata → HasParts parts rdata
parts_of rtype rdata parts e h = subst (λ (o : Option (List Part)). MatchOption o ⊤ (λ (ps : List Part). HasParts ps rdata)) e h.parts

-- data in lower case is data of its type, and stays
layout_is : (layout : Option (List Part)) (rtype : ℕ) (rdata : List ℕ) → layout_of rtype 1 ≡ layout → IsData rtype 1 rdata → IsData rtype 1 (lowered_layout layout rdata)
layout_is None rtype rdata e h = h
layout_is (Some parts) rtype rdata e h = is_data rtype 1 (lowered_parts parts rdata) parts e (has_lowered parts rdata (parts_of rtype rdata parts e h))

layout_stays : (layout : Option (List Part)) (rtype : ℕ) (rdata : List ℕ) → layout_of rtype 1 ≡ layout → IsData rtype 1 rdata → lowered_layout layout (lowered_layout layout rdata) ≡ lowered_layout layout rdata
layout_stays None rtype rdata e h = refl
layout_stays (Some parts) rtype rdata e h = parts_stay parts rdata (parts_of rtype rdata parts e h)

lowered_is : (rtype : ℕ) (rdata : List ℕ) → IsData rtype 1 rdata → IsData rtype 1 (lowered_data rtype rdata)
unfolding lowered_data
lowered_is rtype rdata h = layout_is (layout_of rtype 1) rtype rdata refl h

lowered_stays : (rtype : ℕ) (rdata : List ℕ) → IsData rtype 1 rdata → lowered_data rtype (lowered_data rtype rdata) ≡ lowered_data rtype rdata
unfolding lowered_data
lowered_stays rtype rdata h = layout_stays (layout_of rtype 1) rtype rdata refl h

-- what is made of a record is a row
pub row_is : (r : PlainRecord) (row : PlainRow) → row.owner ≡ lowered r.owner → row.rtype ≡ r.rtype → row.rdata ≡ lowered_data r.rtype r.rdata → IsName row.owner → row.rtype < 2 ^ 16 → row.ttl < 2 ^ 32 → IsData r.rtype 1 r.rdata → IsRow row
row_is r row owner rtype rdata name type_fits ttl_fits h = record {
  is_owner = name;
  type_fits = type_fits;
  ttl_fits = ttl_fits;
  is_data = rw (rtype, rdata) (lowered_is r.rtype r.rdata h);
  owner_is_lower_case = rw owner (lowered-lowered r.owner);
  data_is_lower_case = rw (rtype, rdata) (lowered_stays r.rtype r.rdata h);
}

are_lowered : (parts : List Part) (octets : List ℕ) → HasParts parts octets → AreLowered parts octets (lowered_parts parts octets)
unfolding lowered_parts
are_lowered [] octets h = (h, refl)
are_lowered (Name ∷ parts) octets h = (h.0, h.1, lowered_parts parts h.1, h.2, h.3, lowered_name octets h.1 h.0 parts h.2 h.3, are_lowered parts h.1 h.4)
are_lowered (Fixed count ∷ parts) octets h = (h.0, h.1, lowered_parts parts h.1, h.2, h.3, lowered_fixed octets h.0 h.1 count parts h.2 h.3, are_lowered parts h.1 h.4)

lowered_only : (parts : List Part) (octets low : List ℕ) → AreLowered parts octets low → low ≡ lowered_parts parts octets
unfolding lowered_parts
lowered_only [] octets low h = h.1
lowered_only (Name ∷ parts) octets low h =
    h.5 ∙ ap (λ (l : List ℕ). name_octets (lowered h.0) ++ l) (lowered_only parts h.1 h.2 h.6) ∙ sym (lowered_name octets h.1 h.0 parts h.3 h.4)
lowered_only (Fixed count ∷ parts) octets low h = h.5 ∙ ap (λ (l : List ℕ). h.0 ++ l) (lowered_only parts h.1 h.2 h.6) ∙ sym (lowered_fixed octets h.0 h.1 count parts h.3 h.4)

layout_lowered : (layout : Option (List Part)) (rtype : ℕ) (rdata : List ℕ) → layout_of rtype 1 ≡ layout → IsData rtype 1 rdata → IsLoweredBy layout rdata (lowered_layout layout rdata)
layout_lowered None rtype rdata e h = refl
layout_lowered (Some parts) rtype rdata e h = are_lowered parts rdata (parts_of rtype rdata parts e h)

layout_only : (layout : Option (List Part)) (rdata low : List ℕ) → IsLoweredBy layout rdata low → low ≡ lowered_layout layout rdata
layout_only None rdata low h = h
layout_only (Some parts) rdata low h = lowered_only parts rdata low h

pub data_lowered : (rtype : ℕ) (rdata : List ℕ) → IsData rtype 1 rdata → IsLoweredData rtype rdata (lowered_data rtype rdata)
unfolding lowered_data
data_lowered rtype rdata h = layout_lowered (layout_of rtype 1) rtype rdata refl h

pub data_only : (rtype : ℕ) (rdata low : List ℕ) → IsLoweredData rtype rdata low → low ≡ lowered_data rtype rdata
unfolding lowered_data
data_only rtype rdata low h = layout_only (layout_of rtype 1) rdata low h
