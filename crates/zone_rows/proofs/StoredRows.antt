-- Rows as a list keeps them.
use Rattle.std.proofs.Common.{◌≡◌, ℕ, ◌+◌, ◌<◌, ◌≤◌, ◌^◌, List, [], ◌∷◌, ◌++◌, length, map, slice_get, take, Some, Result, Ok, Err, IfOk, sym, ap, ◌∙◌, subst, arith, append_assoc}
use Rattle.std.specs.Prelude.{All}
use Rattle.std.specs.Option.{option_map}
use Rattle.std.proofs.lemmas.List.{map-append, length-map, take_all}
use Rattle.std.proofs.lemmas.List.Elements.{All-map, All-push}
use Rattle.std.proofs.lemmas.Option.{slice_get-map, slice_get_within, get_or_from_slice_get}
use Rattle.dns_name.specs.Labels.{name_octets}
use Rattle.dns_name.specs.Standing.{Stands}
use Rattle.dns_name.specs.Wire.{labels_in}
use Rattle.dns_name.proofs.WireLemmas.{labels_in-octets, IsWire-octets}
use Rattle.dns_record.specs.Reading.{Fails, record_at}
use Rattle.dns_record.specs.Record.{PlainRecord, IsRecord, record_octets}
use Rattle.dns_record.specs.Row.{PlainRow, IsRow, row_of}
use Rattle.dns_record.specs.declared.fault.RecordError.{RecordError}
use Rattle.dns_record.specs.declared.fault.RecordError.TheVariants.{Fault}
use Rattle.dns_record.specs.declared.fault.RecordFault.{RecordFault}
use Rattle.packed_lists.specs.Blocks.{PlainRowList, with_row}
use Rattle.packed_lists.specs.Stored.{PlainStored, NumbersRise}
use Rattle.zone_rows.specs.Stored.{IsStored, plain_row, record_of}

pub joined_three : (before a b c : List ℕ) → ((before ++ a) ++ b) ++ c ≡ before ++ ((a ++ b) ++ c)
joined_three before a b c = simp append_assoc

-- these are the parts of the row, its owner as it is written
pub record AreParts (owner : List ℕ) (rtype ttl : ℕ) (rdata : List ℕ) (row : PlainRow) : Type 0 where
  pub owner_is : owner ≡ name_octets row.owner
  pub rtype_is : rtype ≡ row.rtype
  pub ttl_is : ttl ≡ row.ttl
  pub rdata_is : rdata ≡ row.rdata
  pub is_row : IsRow row

abbrev stored : ℕ → List ℕ → ℕ → ℕ → List ℕ → PlainStored
stored number owner rtype ttl rdata = record { number = number; owner = owner; rtype = rtype; ttl = ttl; rdata = rdata }

plain_is : (number : ℕ) (owner : List ℕ) (rtype ttl : ℕ) (rdata : List ℕ) (row : PlainRow) → AreParts owner rtype ttl rdata row → plain_row (stored number owner rtype ttl rdata) ≡ row
plain_is number owner rtype ttl rdata row p =
    let name : labels_in owner ≡ row.owner = labels_in-octets owner row.owner p.owner_is p.is_row.is_owner in
    λ i. record { owner = name i; rtype = p.rtype_is i; ttl = p.ttl_is i; rdata = p.rdata_is i }

is_stored : (number : ℕ) (owner : List ℕ) (rtype ttl : ℕ) (rdata : List ℕ) (row : PlainRow) → AreParts owner rtype ttl rdata row → IsStored (stored number owner rtype ttl rdata)
is_stored number owner rtype ttl rdata row p = record {
  is_wire = IsWire-octets owner row.owner p.owner_is p.is_row.is_owner;
  is_row = subst IsRow (sym (plain_is number owner rtype ttl rdata row p)) p.is_row;
}

-- one row more
pub plain_more : (list new : PlainRowList) (owner : List ℕ) (rtype ttl : ℕ) (rdata : List ℕ) (row : PlainRow) → new ≡ with_row list owner rtype ttl rdata → AreParts owner rtype ttl rdata row
    → map plain_row new.rows ≡ map plain_row list.rows ++ row ∷ []
plain_more list new owner rtype ttl rdata row e p =
    ap (λ (l : PlainRowList). map plain_row l.rows) e
    ∙ map-append plain_row list.rows (stored list.next owner rtype ttl rdata ∷ [])
    ∙ ap (λ (r : PlainRow). map plain_row list.rows ++ r ∷ []) (plain_is list.next owner rtype ttl rdata row p)

pub stored_more : (list new : PlainRowList) (owner : List ℕ) (rtype ttl : ℕ) (rdata : List ℕ) (row : PlainRow) → new ≡ with_row list owner rtype ttl rdata → AreParts owner rtype ttl rdata row
    → All IsStored list.rows → All IsStored new.rows
stored_more list new owner rtype ttl rdata row e p are =
    subst (λ (l : PlainRowList). All IsStored l.rows) (sym e) (All-push IsStored list.rows (stored list.next owner rtype ttl rdata) are (is_stored list.next owner rtype ttl rdata row p))

-- there are fewer than 2^32
rise_count : (low high : ℕ) (rows : List PlainStored) → NumbersRise low rows high → low + length rows ≤ high
rise_count low high [] rise = omega (arith, rise)
rise_count low high (r ∷ rows) rise = omega (arith, rise.0, rise_count (r.number + 1) high rows rise.1)

pub few_rows : (list : PlainRowList) → NumbersRise 0 list.rows list.next → list.next < 2 ^ 32 → length (map plain_row list.rows) < 2 ^ 32
few_rows list rise fits = omega (arith, length-map list.rows plain_row, rise_count 0 list.next list.rows rise, fits)

-- the row at a place
pub stored_at : (rows : List PlainStored) (at : ℕ) (row : PlainStored) → slice_get rows at ≡ Some row → All IsStored rows → IsStored row
stored_at rows at row e are = subst IsStored (get_or_from_slice_get rows at row row e) (are at row (slice_get_within rows at row e))

pub plain_at : (rows : List PlainStored) (at : ℕ) (row : PlainStored) → slice_get rows at ≡ Some row → slice_get (map plain_row rows) at ≡ Some (plain_row row)
plain_at rows at row e = slice_get-map plain_row rows at ∙ ap (option_map plain_row) e

pub are_rows : (rows : List PlainStored) → All IsStored rows → All IsRow (map plain_row rows)
are_rows rows are = All-map IsRow plain_row rows (λ k d h. (are k d h).is_row)

-- a row is read back from its record
abbrev pub IsReadBack : Type 0
IsReadBack = (r : PlainRecord) (message : List ℕ) (at after : ℕ) → IsRecord r → Stands (record_octets r) message at after → record_at message at ≡ Ok (r, after)

pub is_record : (row : PlainRow) → IsRow row → IsRecord (record_of row)
is_record row is = record { is_owner = is.is_owner; type_fits = is.type_fits; class_fits = omega arith; ttl_fits = is.ttl_fits; is_data = is.is_data }

stands : (octets all : List ℕ) → all ≡ octets → Stands octets all 0 (length all)
stands octets all e = record { begins = ap (take (length octets)) e ∙ take_all (length octets) octets (omega arith); ends = ap length e ∙ omega arith }

pub read_back : (row : PlainRow) (octets all : List ℕ) → IsReadBack → IsRow row → all ≡ octets → octets ≡ record_octets (record_of row) → record_at all 0 ≡ Ok (record_of row, length all)
read_back row octets all law is here written = law (record_of row) all 0 (length all) (is_record row is) (stands (record_octets (record_of row)) all (here ∙ written))

pub no_fault : (e : RecordError) (f : RecordFault) (read : Result (PlainRecord × ℕ) RecordFault) (x : PlainRecord × ℕ) → e ≡ Fault f → Fails e read → read ≡ Ok x → ⊥
no_fault e f read x is fails ok = differs f x (sym (subst (λ (d : RecordError). Fails d read) is fails) ∙ ok) where
  differs : (f : RecordFault) (x : PlainRecord × ℕ) → ◌≡◌ {A = Result (PlainRecord × ℕ) RecordFault} (Err f) (Ok x) → ⊥
  differs f x e = cc e

pub same_record : (found : PlainRecord × ℕ) (whole : PlainRecord) (n : ℕ) (read : Result (PlainRecord × ℕ) RecordFault) → read ≡ Ok found → read ≡ Ok (whole, n) → found.0 ≡ whole
same_record found whole n read first second = same_first found (whole, n) (sym first ∙ second) where
  same_first : (x y : PlainRecord × ℕ) → ◌≡◌ {A = Result (PlainRecord × ℕ) RecordFault} (Ok x) (Ok y) → x.0 ≡ y.0
  same_first x y e = let same : x ≡ y = cc e in ap (λ (z : PlainRecord × ℕ). z.0) same

is_its_row : (row : PlainRow) → IsRow row → row_of (record_of row) ≡ row
is_its_row row is = λ i. record { owner = is.owner_is_lower_case i; rtype = row.rtype; ttl = row.ttl; rdata = is.data_is_lower_case i }

pub as_row : {E : Type 0} (r : Result PlainRow E) (found : PlainRecord) (row : PlainRow) → IfOk r (λ x. x ≡ row_of found) → found ≡ record_of row → IsRow row → IfOk r (λ x. x ≡ row)
as_row (Ok x) found row made same is = made ∙ ap row_of same ∙ is_its_row row is
as_row (Err e) found row made same is = made
