-- Data whose names are compressed are read as the data.
use Rattle.std.proofs.Common.{◌≡◌, ℕ, ◌+◌, ◌≤◌, eqb, true, List, [], ◌∷◌, ◌++◌, length, take, drop, Option, Some, None, Ok, refl, sym, ap, subst, ◌∙◌, append_assoc, arith, length-append}
use Rattle.std.specs.Prelude.{MatchOption, ⊤}
use Rattle.std.proofs.lemmas.Bool.{cond_both, eq-eqb}
use Rattle.std.proofs.lemmas.List.{take_at, drop_at}
use Rattle.dns_name.specs.Labels.{IsName, Name, name_octets}
use Rattle.dns_name.specs.Reading.{NameOutcome, name_at}
use Rattle.dns_name.specs.Standing.{Stands}
use Rattle.packed_names.specs.Occurrence.{AreOccurrences}
use Rattle.packed_names.specs.Places.{Place, compressed_octets, new_places}
use Rattle.packed_names.proofs.ReadLemmas.{compressed_read, compressed_occurs, occurrences_more}
use Rattle.dns_record.specs.declared.part.Part.{Part}
use Rattle.dns_record.specs.declared.part.Part.TheVariants.{Name as NamePart, Fixed}
use Rattle.dns_record.specs.Part.{HasParts, layout_of}
use Rattle.dns_record.specs.Reading.{data_at, data_by_layout, octets_at, parts_at}
use Rattle.dns_record.specs.Record.{IsData}
use Rattle.dns_record.proofs.DataStanding.{data_written}
use Rattle.dns_record.proofs.LowerCase.{name_first, name_rest}
use Rattle.dns_record.proofs.PartStanding.{octets_written}
use Rattle.dns_message.specs.Compressed.{WrittenPart, compressed_layout, data_by, data_parts, first_name, has_compressed_names, plain_part}
use Rattle.packed_names.proofs.ChoiceLemmas.{no_longer as name_no_longer}

-- the octets stand behind these
pub stands_behind : (before octets more : List ℕ) → Stands octets ((before ++ octets) ++ more) (length before) (length before + length octets)
stands_behind before octets more =
    record {
      begins =
          ap (λ (l : List ℕ). take (length octets) (drop (length before) l)) (append_assoc before octets more)
          ∙ ap (take (length octets)) (drop_at before (octets ++ more) (length before) refl)
          ∙ take_at octets more (length octets) refl;
      ends = refl;
    }

-- a name, and parts behind it
abbrev pub behind_name : List Place → ℕ → List Part → Name → List ℕ → WrittenPart
behind_name places at parts name rest =
    let others = data_parts (places ++ new_places places at name) (at + length (compressed_octets places name)) parts rest in
    record { octets = compressed_octets places name ++ others.octets; places = others.places }

-- octets, and parts behind them
abbrev pub behind_octets : List Place → ℕ → List Part → List ℕ → List ℕ → WrittenPart
behind_octets places at parts first rest =
    let others = data_parts places (at + length first) parts rest in
    record { octets = first ++ others.octets; places = others.places }

pub begins_name : (places : List Place) (at : ℕ) (parts : List Part) (name : Name) (rest rdata : List ℕ) → IsName name → rdata ≡ name_octets name ++ rest → data_parts places at (NamePart ∷ parts) rdata ≡ behind_name places at parts name rest
unfolding data_parts
begins_name places at parts name rest rdata is e =
    ap (λ (o : NameOutcome). behind_name places at parts (first_name o).0 (drop (first_name o).1 rdata)) (name_first rdata rest name is e) ∙ ap (behind_name places at parts name) (name_rest rdata rest name e)

pub begins_octets : (places : List Place) (at count : ℕ) (parts : List Part) (first rest rdata : List ℕ) → length first ≡ count → rdata ≡ first ++ rest → data_parts places at (Fixed count ∷ parts) rdata ≡ behind_octets places at parts first rest
unfolding data_parts
begins_octets places at count parts first rest rdata len e =
    let front : take count rdata ≡ first = ap (take count) e ∙ take_at first rest count len in
    let behind : drop count rdata ≡ rest = ap (drop count) e ∙ drop_at first rest count len in
    ap (λ (l : List ℕ). behind_octets places at parts l (drop count rdata)) front ∙ ap (behind_octets places at parts first) behind

-- what is read, part by part
name_then : (parts : List Part) (bytes : List ℕ) (at middle after : ℕ) (name : Name) (rest rdata : List ℕ) → rdata ≡ name_octets name ++ rest → name_at bytes at ≡ Ok (name, middle) → parts_at parts bytes middle ≡ Ok (rest, after)
    → parts_at (NamePart ∷ parts) bytes at ≡ Ok (rdata, after)
unfolding parts_at
name_then parts bytes at middle after name rest rdata e first others = rw (first, others) (ap (λ (l : List ℕ). Ok (l, after)) (sym e))

octets_then : (parts : List Part) (bytes : List ℕ) (at count middle after : ℕ) (first rest rdata : List ℕ) → rdata ≡ first ++ rest → octets_at count bytes at ≡ Ok (first, middle) → parts_at parts bytes middle ≡ Ok (rest, after)
    → parts_at (Fixed count ∷ parts) bytes at ≡ Ok (rdata, after)
unfolding parts_at
octets_then parts bytes at count middle after first rest rdata e one others = rw (one, others) (ap (λ (l : List ℕ). Ok (l, after)) (sym e))

-- what is known of data that are written behind these octets
pub record ReadsParts (message : List ℕ) (parts : List Part) (rdata : List ℕ) (written : WrittenPart) : Type 0 where
  pub read : (more : List ℕ) → parts_at parts ((message ++ written.octets) ++ more) (length message) ≡ Ok (rdata, length message + length written.octets)
  pub occur : AreOccurrences (message ++ written.octets) written.places
  pub no_longer : length written.octets ≤ length rdata

regrouped : (a b c d : List ℕ) → (a ++ (b ++ c)) ++ d ≡ (a ++ b) ++ (c ++ d)
regrouped a b c d = simp append_assoc

none_read : (places : List Place) (message rdata : List ℕ) → AreOccurrences message places → rdata ≡ [] → ReadsParts message [] rdata (plain_part places rdata)
unfolding parts_at
none_read places message rdata occur none =
    record {
      read = λ more. ap (λ (l : List ℕ). Ok (l, length message)) (sym none) ∙ ap (λ (n : ℕ). Ok (rdata, n)) (omega (arith, ap length none));
      occur = occurrences_more places message rdata occur;
      no_longer = omega arith;
    }

name_read : (places : List Place) (message : List ℕ) (parts : List Part) (name : Name) (rest rdata : List ℕ) (others : WrittenPart) → AreOccurrences message places → IsName name → rdata ≡ name_octets name ++ rest
    → ReadsParts (message ++ compressed_octets places name) parts rest others
    → ReadsParts message (NamePart ∷ parts) rdata (record { octets = compressed_octets places name ++ others.octets; places = others.places })
name_read places message parts name rest rdata others occur is e h =
    let own = compressed_octets places name in
    let sum = length-append own others.octets in
    let len = length-append message own in
    record {
      read = λ more.
          let whole = (message ++ (own ++ others.octets)) ++ more in
          let first : name_at whole (length message) ≡ Ok (name, length (message ++ own)) =
          ap (λ (l : List ℕ). name_at l (length message)) (regrouped message own others.octets more)
          ∙ compressed_read places message (others.octets ++ more) name occur is
          ∙ ap (λ (n : ℕ). Ok (name, n)) (sym len)
          in
          let behind : parts_at parts whole (length (message ++ own)) ≡ Ok (rest, length message + length (own ++ others.octets)) =
          ap (λ (l : List ℕ). parts_at parts l (length (message ++ own))) (ap (λ (l : List ℕ). l ++ more) (sym (append_assoc message own others.octets)))
          ∙ h.read more
          ∙ ap (λ (n : ℕ). Ok (rest, n)) (omega (arith, sum, len))
          in
          name_then parts whole (length message) (length (message ++ own)) (length message + length (own ++ others.octets)) name rest rdata e first behind;
      occur = subst (λ (l : List ℕ). AreOccurrences l others.places) (append_assoc message own others.octets) h.occur;
      no_longer = omega (arith, sum, h.no_longer, name_no_longer places name, ap length e, length-append (name_octets name) rest);
    }

octets_read : (message : List ℕ) (parts : List Part) (count : ℕ) (first rest rdata : List ℕ) (others : WrittenPart) → length first ≡ count → rdata ≡ first ++ rest → ReadsParts (message ++ first) parts rest others
    → ReadsParts message (Fixed count ∷ parts) rdata (record { octets = first ++ others.octets; places = others.places })
octets_read message parts count first rest rdata others size e h =
    let sum = length-append first others.octets in
    let len = length-append message first in
    record {
      read = λ more.
          let whole = (message ++ (first ++ others.octets)) ++ more in
          let stands : Stands first whole (length message) (length message + length first) = subst (λ (l : List ℕ). Stands first l (length message) (length message + length first)) (sym (regrouped message first others.octets more)) (stands_behind message first (others.octets ++ more)) in
          let room : length message + length first ≤ length whole = omega (arith, ap length (regrouped message first others.octets more), length-append (message ++ first) (others.octets ++ more), len) in
          let one : octets_at count whole (length message) ≡ Ok (first, length message + length first) = octets_written count first whole (length message) (length message + length first) size room stands in
          let behind : parts_at parts whole (length message + length first) ≡ Ok (rest, length message + length (first ++ others.octets)) =
          ap (λ (l : List ℕ). parts_at parts l (length message + length first)) (ap (λ (l : List ℕ). l ++ more) (sym (append_assoc message first others.octets)))
          ∙ ap (parts_at parts (((message ++ first) ++ others.octets) ++ more)) (sym len)
          ∙ h.read more
          ∙ ap (λ (n : ℕ). Ok (rest, n)) (omega (arith, sum, len))
          in
          octets_then parts whole (length message) count (length message + length first) (length message + length (first ++ others.octets)) first rest rdata e one behind;
      occur = subst (λ (l : List ℕ). AreOccurrences l others.places) (append_assoc message first others.octets) h.occur;
      no_longer = omega (arith, sum, h.no_longer, ap length e, length-append first rest);
    }

-- data that are written behind these octets are read, whatever stands behind them
pub parts_read : (places : List Place) (message : List ℕ) (parts : List Part) (rdata : List ℕ) → AreOccurrences message places → HasParts parts rdata → ReadsParts message parts rdata (data_parts places (length message) parts rdata)
unfolding data_parts
parts_read places message [] rdata occur h = none_read places message rdata occur h
parts_read places message (NamePart ∷ parts) rdata occur h =
    let own = compressed_octets places h.0 in
    let next = places ++ new_places places (length message) h.0 in
    let others = parts_read next (message ++ own) parts h.1 (compressed_occurs places message h.0 occur h.2) h.4 in
    let at_end : ReadsParts (message ++ own) parts h.1 (data_parts next (length message + length own) parts h.1) = subst (λ (n : ℕ). ReadsParts (message ++ own) parts h.1 (data_parts next n parts h.1)) (length-append message own) others in
    subst (ReadsParts message (NamePart ∷ parts) rdata) (sym (begins_name places (length message) parts h.0 h.1 rdata h.2 h.3)) (name_read places message parts h.0 h.1 rdata (data_parts next (length message + length own) parts h.1) occur h.2 h.3 at_end)
parts_read places message (Fixed count ∷ parts) rdata occur h =
    let others = parts_read places (message ++ h.0) parts h.1 (occurrences_more places message h.0 occur) h.4 in
    let at_end : ReadsParts (message ++ h.0) parts h.1 (data_parts places (length message + length h.0) parts h.1) = subst (λ (n : ℕ). ReadsParts (message ++ h.0) parts h.1 (data_parts places n parts h.1)) (length-append message h.0) others in
    subst (ReadsParts message (Fixed count ∷ parts) rdata) (sym (begins_octets places (length message) count parts h.0 h.1 rdata h.2 h.3)) (octets_read message parts count h.0 h.1 rdata (data_parts places (length message + length h.0) parts h.1) h.2 h.3 at_end)

-- the data of a record

pub record ReadsData (rtype class : ℕ) (message rdata : List ℕ) (written : WrittenPart) : Type 0 where
  pub read : (more : List ℕ) → data_at rtype class ((message ++ written.octets) ++ more) (length message) (length message + length written.octets) ≡ Ok rdata
  pub occur : AreOccurrences (message ++ written.octets) written.places
  pub no_longer : length written.octets ≤ length rdata

filled_read : (layout : List Part) (o : Option (List Part)) (rdata bytes : List ℕ) (at after : ℕ) → o ≡ Some layout → parts_at layout bytes at ≡ Ok (rdata, after) → data_by_layout o bytes at after ≡ Ok rdata
filled_read layout o rdata bytes at after e read =
    let same : eqb after after ≡ true = eq-eqb after after refl in
    rw (e, read, same) refl

filled_at : (rtype class : ℕ) (layout : List Part) (rdata bytes : List ℕ) (at after : ℕ) → layout_of rtype class ≡ Some layout → parts_at layout bytes at ≡ Ok (rdata, after) → data_at rtype class bytes at after ≡ Ok rdata
unfolding data_at
filled_at rtype class layout rdata bytes at after e read = filled_read layout (layout_of rtype class) rdata bytes at after e read

layout_is : (rtype class : ℕ) (layout : List Part) → compressed_layout rtype class ≡ Some layout → layout_of rtype class ≡ Some layout
layout_is rtype class layout =
    cond_both (has_compressed_names rtype) (layout_of rtype class) None (λ (o : Option (List Part)). o ≡ Some layout → layout_of rtype class ≡ Some layout) (λ t e. e) (λ t e. absurd cc)

pub parts_of : (rtype class : ℕ) (layout : List Part) (rdata : List ℕ) → compressed_layout rtype class ≡ Some layout → IsData rtype class rdata → HasParts layout rdata
parts_of rtype class layout rdata e is = subst (λ (o : Option (List Part)). MatchOption o ⊤ (λ (ps : List Part). HasParts ps rdata)) (layout_is rtype class layout e) is.parts

data_read_by : (layout : Option (List Part)) (rtype class : ℕ) (places : List Place) (message rdata : List ℕ) → compressed_layout rtype class ≡ layout → AreOccurrences message places → IsData rtype class rdata
    → ReadsData rtype class message rdata (data_by layout places (length message) rdata)
data_read_by None rtype class places message rdata e occur is =
    record {
      read = λ more.
          let whole = (message ++ rdata) ++ more in
          let room : length message + length rdata ≤ length whole = omega (arith, length-append (message ++ rdata) more, length-append message rdata) in
          data_written rtype class rdata whole (length message) (length message + length rdata) is room (stands_behind message rdata more);
      occur = occurrences_more places message rdata occur;
      no_longer = omega arith;
    }
data_read_by (Some layout) rtype class places message rdata e occur is =
    let h = parts_read places message layout rdata occur (parts_of rtype class layout rdata e is) in
    let written = data_parts places (length message) layout rdata in
    record {
      read = λ more. filled_at rtype class layout rdata ((message ++ written.octets) ++ more) (length message) (length message + length written.octets) (layout_is rtype class layout e) (h.read more);
      occur = h.occur;
      no_longer = h.no_longer;
    }

-- data that are written behind these octets are read, whatever stands behind them
pub data_read : (rtype class : ℕ) (places : List Place) (message rdata : List ℕ) → AreOccurrences message places → IsData rtype class rdata → ReadsData rtype class message rdata (data_by (compressed_layout rtype class) places (length message) rdata)
data_read rtype class places message rdata occur is = data_read_by (compressed_layout rtype class) rtype class places message rdata refl occur is
