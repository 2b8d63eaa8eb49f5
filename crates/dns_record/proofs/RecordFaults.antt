-- The first fault of a record is told exactly where the rules of the grammar show it.
use Rattle.std.proofs.Common.{◌≡◌, ℕ, ◌+◌, ◌<◌, ◌≤◌, inl, inr, true, false, eqb, ltb, List, [], ◌∷◌, length, Option, Some, None, Result, Ok, Err, refl, sym, ap, subst, ◌∙◌, arith}
use Rattle.std.proofs.lemmas.Bool.{cond_both, ltb-true, lt-ltb, le-ltb}
use Rattle.dns_name.specs.declared.fault.NameFault.{NameFault}
use Rattle.dns_name.specs.Grammar.{NameAt}
use Rattle.dns_name.specs.Reading as reading
use Rattle.dns_name.specs.Reading.{◌>>=◌, name_at}
use Rattle.dns_name.specs.Standing.{Stands}
use Rattle.dns_name.proofs.GrammarLemmas.{name_stands, name_only}
use Rattle.dns_record.specs.declared.fault.RecordFault.{RecordFault}
use Rattle.dns_record.specs.declared.fault.RecordFault.TheVariants.{Name as InName, Short, Data}
use Rattle.dns_record.specs.declared.part.Part.{Part}
use Rattle.dns_record.specs.declared.part.Part.TheVariants.{Name, Fixed}
use Rattle.dns_record.specs.Becomes.{as_owner, as_data}
use Rattle.dns_record.specs.Faults.{FieldsAt, RecordShows}
use Rattle.dns_record.specs.Grammar.{DataAt}
use Rattle.dns_record.specs.Number.{number_at, number_octets, AreOctets}
use Rattle.dns_record.specs.Part.{layout_of}
use Rattle.dns_record.specs.Reading.{end_at, with_octets, part_at, parts_at, data_that_fills, data_by_layout, data_at, record_at}
use Rattle.dns_name.proofs.Binding.{bind_err, err_is}
use Rattle.dns_record.proofs.DataStanding.{data_stands, data_only}
use Rattle.dns_record.proofs.Numbers.{number_read, number_fits, u16_stands}
use Rattle.dns_record.proofs.RecordReads.{at_data, at_end, at_fixed, at_owner, owner_read, end_read}

-- what is wrong with the data is told as one fault

abbrev IsData : {A : Type 0} → Result A RecordFault → Type 0
IsData (Ok x) = Unit {0}
IsData (Err fault) = fault ≡ Data

name_data : (read : reading.NameOutcome) → IsData (as_data read)
name_data (Ok x) = tt
name_data (Err fault) = refl

then_data : {A B : Type 0} (r : Result A RecordFault) (f : A → Result B RecordFault) → IsData r → ((x : A) → IsData (f x)) → IsData (r >>= f)
then_data (Ok x) f h g = g x
then_data (Err fault) f h g = h

with_data : (front : List ℕ) (r : Result (List ℕ × ℕ) RecordFault) → IsData r → IsData (with_octets front r)
with_data front (Ok x) h = tt
with_data front (Err fault) h = h

part_data : (part : Part) (message : List ℕ) (place : ℕ) → IsData (part_at part message place)
part_data Name message place = then_data (as_data (name_at message place)) _ (name_data (name_at message place)) (λ x. tt)
part_data (Fixed count) message place = cond_both (ltb (length message) (place + count)) (Err Data) _ IsData (λ t. refl) (λ t. tt)

parts_data : (parts : List Part) (message : List ℕ) (place : ℕ) → IsData (parts_at parts message place)
unfolding parts_at
parts_data [] message place = tt
parts_data (part ∷ parts) message place = then_data (part_at part message place) (λ first. with_octets first.0 (parts_at parts message first.1)) (part_data part message place) (λ first. with_data first.0 (parts_at parts message first.1) (parts_data parts message first.1))

filled_data : (after : ℕ) (read : List ℕ × ℕ) → IsData (data_that_fills after read)
filled_data after read = cond_both (eqb read.1 after) (Ok read.0) (Err Data) IsData (λ t. tt) (λ t. refl)

laid_data : (layout : Option (List Part)) (message : List ℕ) (place after : ℕ) → IsData (data_by_layout layout message place after)
laid_data None message place after = tt
laid_data (Some parts) message place after = then_data (parts_at parts message place) (data_that_fills after) (parts_data parts message place) (filled_data after)

data_fault : (rtype class : ℕ) (message : List ℕ) (place after : ℕ) → IsData (data_at rtype class message place after)
unfolding data_at
data_fault rtype class message place after = laid_data (layout_of rtype class) message place after

-- the error is this one
err_data : {A : Type 0} (r : Result A RecordFault) (fault : RecordFault) → IsData r → r ≡ Err fault → fault ≡ Data
err_data (Ok x) fault h e = absurd cc
err_data {A = A} (Err f) fault h e = sym (err_is {A = A} f fault e) ∙ h

-- from what is told to the rules

owner_fault : (read : reading.NameOutcome) (fault : RecordFault) → as_owner read ≡ Err fault → (name : NameFault) × (read ≡ Err name) × (InName name ≡ fault)
owner_fault (Ok x) fault e = absurd cc
owner_fault (Err name) fault e = (name, refl, err_is {A = List (List ℕ) × ℕ} (InName name) fault e)

end_fault : (message : List ℕ) (place count : ℕ) (fault : RecordFault) → end_at message place count ≡ Err fault → (length message < place + count) × (Short ≡ fault)
end_fault message place count fault =
    cond_both (ltb (length message) (place + count)) (Err Short) (Ok (place + count)) (λ (r : Result ℕ RecordFault). r ≡ Err fault → (length message < place + count) × (Short ≡ fault))
    (λ t e. (ltb-true (length message) (place + count) t, err_is {A = ℕ} Short fault e))
    (λ t e. absurd cc)

number_at_place : (message : List ℕ) (place after : ℕ) → AreOctets message → after ≡ place + 2 → after ≤ length message → Stands (number_octets 2 (number_at 2 message place)) message place after
number_at_place message place after octets e inside = rw e (u16_stands message place octets (omega (arith, e)))

fields_at : (message : List ℕ) (at : ℕ) (owner : List (List ℕ) × ℕ) → AreOctets message → name_at message at ≡ Ok owner → owner.1 + 10 ≤ length message
    → FieldsAt message at owner.1 (number_at 2 message owner.1) (number_at 2 message (owner.1 + 2)) (number_at 2 message (owner.1 + 8))
fields_at message at owner octets named inside = record {
  owner = owner.0;
  named = subst (λ (o : reading.NameOutcome). NameAt message at o) named (name_stands message at);
  type_stands = number_at_place message owner.1 (owner.1 + 2) octets refl (omega arith);
  class_stands = number_at_place message (owner.1 + 2) (owner.1 + 4) octets (omega arith) (omega arith);
  size_stands = number_at_place message (owner.1 + 8) (owner.1 + 10) octets (omega arith) (omega arith);
  type_fits = number_fits 2 message owner.1 octets;
  class_fits = number_fits 2 message (owner.1 + 2) octets;
  size_fits = number_fits 2 message (owner.1 + 8) octets;
  inside = inside;
}

no_data : (rtype class : ℕ) (message : List ℕ) (place after : ℕ) (fault : RecordFault) → data_at rtype class message place after ≡ Err fault → (rdata : List ℕ) → DataAt rtype class message place rdata after → ⊥
no_data rtype class message place after fault e rdata h =
    let read : data_at rtype class message place after ≡ Ok rdata = data_only rtype class rdata message place after h in
    cc

not_whole : (message : List ℕ) (owner : List (List ℕ) × ℕ) (after : ℕ) (rdata : List ℕ) (fault : RecordFault) → at_data message owner after rdata ≡ Err fault → ⊥
not_whole message owner after rdata fault e = cc

in_data : (message : List ℕ) (at : ℕ) (owner : List (List ℕ) × ℕ) (after : ℕ) (fault : RecordFault) → AreOctets message → name_at message at ≡ Ok owner → owner.1 + 10 ≤ length message → owner.1 + 10 + number_at 2 message (owner.1 + 8) ≡ after → after ≤ length message
    → data_at (number_at 2 message owner.1) (number_at 2 message (owner.1 + 2)) message (owner.1 + 10) after ≡ Err fault → RecordShows message at fault
in_data message at owner after fault octets named inside end within f =
    let rtype = number_at 2 message owner.1 in
    let class = number_at 2 message (owner.1 + 2) in
    let is : fault ≡ Data = err_data (data_at rtype class message (owner.1 + 10) after) fault (data_fault rtype class message (owner.1 + 10) after) f in
    let shows : RecordShows message at Data = record {
      place = owner.1;
      rtype = rtype;
      class = class;
      size = number_at 2 message (owner.1 + 8);
      fields = fields_at message at owner octets named inside;
      inside = omega (arith, end, within);
      no_data = subst (λ (n : ℕ). (rdata : List ℕ) → DataAt rtype class message (owner.1 + 10) rdata n → ⊥) (sym end) (no_data rtype class message (owner.1 + 10) after fault f);
    } in
    subst (RecordShows message at) (sym is) shows

behind_end : (message : List ℕ) (at : ℕ) (owner : List (List ℕ) × ℕ) (after : ℕ) (fault : RecordFault) → AreOctets message → name_at message at ≡ Ok owner → owner.1 + 10 ≤ length message → owner.1 + 10 + number_at 2 message (owner.1 + 8) ≡ after → after ≤ length message
    → at_end message owner (owner.1 + 10) after ≡ Err fault → RecordShows message at fault
behind_end message at owner after fault octets named inside end within e =
    elim (bind_err (data_at (number_at 2 message owner.1) (number_at 2 message (owner.1 + 2)) message (owner.1 + 10) after) (at_data message owner after) fault e) [
      | inl f ↦ in_data message at owner after fault octets named inside end within f
      | inr p ↦ absurd (not_whole message owner after p.0 fault p.2)
    ]

behind_fixed : (message : List ℕ) (at : ℕ) (owner : List (List ℕ) × ℕ) (fault : RecordFault) → AreOctets message → name_at message at ≡ Ok owner → owner.1 + 10 ≤ length message
    → at_fixed message owner (owner.1 + 10) ≡ Err fault → RecordShows message at fault
behind_fixed message at owner fault octets named inside e =
    let size = number_at 2 message (owner.1 + 8) in
    elim (bind_err (end_at message (owner.1 + 10) size) (at_end message owner (owner.1 + 10)) fault e) [
      | inl f ↦
          let cut = end_fault message (owner.1 + 10) size fault f in
          let shows : RecordShows message at Short = inr (record { place = owner.1; rtype = number_at 2 message owner.1; class = number_at 2 message (owner.1 + 2); size = size; fields = fields_at message at owner octets named inside; cut = cut.0 }) in
          subst (RecordShows message at) cut.1 shows
      | inr p ↦
          let end = end_read message (owner.1 + 10) size p.0 p.1 in
          behind_end message at owner p.0 fault octets named inside end.1 (omega (arith, end.0, end.1)) p.2
    ]

behind_owner : (message : List ℕ) (at : ℕ) (owner : List (List ℕ) × ℕ) (fault : RecordFault) → AreOctets message → name_at message at ≡ Ok owner → at_owner message owner ≡ Err fault → RecordShows message at fault
behind_owner message at owner fault octets named e =
    elim (bind_err (end_at message owner.1 10) (at_fixed message owner) fault e) [
      | inl f ↦
          let cut = end_fault message owner.1 10 fault f in
          let stands : NameAt message at (Ok owner) = subst (λ (o : reading.NameOutcome). NameAt message at o) named (name_stands message at) in
          let shows : RecordShows message at Short = inl (record { owner = owner.0; place = owner.1; named = stands; cut = cut.0 }) in
          subst (RecordShows message at) cut.1 shows
      | inr p ↦
          let end = end_read message owner.1 10 p.0 p.1 in
          behind_fixed message at owner fault octets named (omega (arith, end.0)) (subst (λ (n : ℕ). at_fixed message owner n ≡ Err fault) (sym end.1) p.2)
    ]

-- the fault that is told stands there by the rules
pub record_shows : (message : List ℕ) (at : ℕ) (fault : RecordFault) → AreOctets message → record_at message at ≡ Err fault → RecordShows message at fault
unfolding record_at
record_shows message at fault octets e =
    elim (bind_err (as_owner (name_at message at)) (at_owner message) fault e) [
      | inl f ↦
          let name = owner_fault (name_at message at) fault f in
          let shows : RecordShows message at (InName name.0) = subst (λ (o : reading.NameOutcome). NameAt message at o) name.1 (name_stands message at) in
          subst (RecordShows message at) name.2 shows
      | inr p ↦ behind_owner message at p.0 fault octets (owner_read (name_at message at) p.0 p.1) p.2
    ]

-- from the rules to what is told

record Numbers (message : List ℕ) (place rtype class size : ℕ) : Type 0 where
  pub rtype_is : number_at 2 message place ≡ rtype
  pub class_is : number_at 2 message (place + 2) ≡ class
  pub size_is : number_at 2 message (place + 8) ≡ size

numbers_of : (message : List ℕ) (at place rtype class size : ℕ) → FieldsAt message at place rtype class size → Numbers message place rtype class size
numbers_of message at place rtype class size h = record {
  rtype_is = number_read 2 rtype message place (place + 2) h.type_fits h.type_stands;
  class_is = number_read 2 class message (place + 2) (place + 4) h.class_fits h.class_stands;
  size_is = number_read 2 size message (place + 8) (place + 10) h.size_fits h.size_stands;
}

only_data : (rtype class : ℕ) (message : List ℕ) (place after : ℕ) (r : Result (List ℕ) RecordFault) → IsData r → ((rdata : List ℕ) → r ≡ Ok rdata → ⊥) → r ≡ Err Data
only_data rtype class message place after (Ok rdata) h none = absurd (none rdata refl)
only_data rtype class message place after (Err fault) h none = ap (λ (f : RecordFault). Err f) h

-- what stands there by the rules is told
pub record_fails : (message : List ℕ) (at : ℕ) (fault : RecordFault) → RecordShows message at fault → record_at message at ≡ Err fault
unfolding record_at
record_fails message at (InName fault) h =
    let named : name_at message at ≡ Err fault = name_only message at (Err fault) h in
    rw named refl
record_fails message at Short (inl h) =
    let named : name_at message at ≡ Ok (h.owner, h.place) = name_only message at (Ok (h.owner, h.place)) h.named in
    let cut : ltb (length message) (h.place + 10) ≡ true = lt-ltb (length message) (h.place + 10) h.cut in
    rw (named, cut) refl
record_fails message at Short (inr h) =
    let f = h.fields in
    let named : name_at message at ≡ Ok (f.owner, h.place) = name_only message at (Ok (f.owner, h.place)) f.named in
    let whole : ltb (length message) (h.place + 10) ≡ false = le-ltb (length message) (h.place + 10) f.inside in
    let size : number_at 2 message (h.place + 8) ≡ h.size = (numbers_of message at h.place h.rtype h.class h.size f).size_is in
    let cut : ltb (length message) (h.place + 10 + h.size) ≡ true = lt-ltb (length message) (h.place + 10 + h.size) h.cut in
    rw (named, whole, size, cut) refl
record_fails message at Data h =
    let f = h.fields in
    let named : name_at message at ≡ Ok (f.owner, h.place) = name_only message at (Ok (f.owner, h.place)) f.named in
    let whole : ltb (length message) (h.place + 10) ≡ false = le-ltb (length message) (h.place + 10) f.inside in
    let numbers = numbers_of message at h.place h.rtype h.class h.size f in
    let size : number_at 2 message (h.place + 8) ≡ h.size = numbers.size_is in
    let rtype : number_at 2 message h.place ≡ h.rtype = numbers.rtype_is in
    let class : number_at 2 message (h.place + 2) ≡ h.class = numbers.class_is in
    let end = h.place + 10 + h.size in
    let fits : ltb (length message) end ≡ false = le-ltb (length message) end h.inside in
    let told : data_at h.rtype h.class message (h.place + 10) end ≡ Err Data =
    only_data h.rtype h.class message (h.place + 10) end (data_at h.rtype h.class message (h.place + 10) end) (data_fault h.rtype h.class message (h.place + 10) end)
    (λ rdata e. h.no_data rdata (data_stands h.rtype h.class rdata message (h.place + 10) end (omega arith) h.inside e)) in
    rw (named, whole, size, fits, rtype, class, told) refl
