-- The data of a record where it stands in a message.
use Rattle.std.proofs.Common.{◌≡◌, ℕ, ◌+◌, ◌-◌, ◌<◌, ◌≤◌, ◌^◌, eqb, true, List, length, take, drop, Option, Some, None, Result, Ok, Err, refl, ap, subst, ◌∙◌, arith}
use Rattle.std.specs.Prelude.{MatchOption, ⊤}
use Rattle.std.proofs.lemmas.Bool.{cond_both, eqb-true, eq-eqb}
use Rattle.std.proofs.lemmas.List.{length-take, length-drop}
use Rattle.dns_name.specs.Standing.{Stands}
use Rattle.dns_record.specs.declared.fault.RecordFault.{RecordFault}
use Rattle.dns_record.specs.declared.fault.RecordFault.TheVariants.{Data}
use Rattle.dns_record.specs.declared.part.Part.{Part}
use Rattle.dns_record.specs.Grammar.{PartsAt, DataAt}
use Rattle.dns_record.specs.Part.{layout_of, HasParts}
use Rattle.dns_record.specs.Reading.{parts_at, data_that_fills, data_by_layout, data_at}
use Rattle.dns_record.specs.Record.{IsData}
use Rattle.dns_name.proofs.Binding.{bind_ok, ok_is}
use Rattle.dns_record.proofs.Data.{is_data, is_any_data, parts_have}
use Rattle.dns_record.proofs.PartGrammar.{parts_stand, parts_only}
use Rattle.dns_record.proofs.PartStanding.{parts_written}

-- octets are taken where they stand
taken : (rdata message : List ℕ) (place after : ℕ) → Stands rdata message place after → take (after - place) (drop place message) ≡ rdata
taken rdata message place after s =
    let len : after - place ≡ length rdata = omega (arith, s.ends) in
    ap (λ (n : ℕ). take n (drop place message)) len ∙ s.begins

taken_stands : (message : List ℕ) (place after : ℕ) → place ≤ after → after ≤ length message → Stands (take (after - place) (drop place message)) message place after
taken_stands message place after order within =
    let len : length (take (after - place) (drop place message)) ≡ after - place = omega (arith, length-take (after - place) (drop place message), length-drop place message) in
    record { begins = ap (λ (n : ℕ). take n (drop place message)) len; ends = omega (arith, len) }

-- parts that fill their length
filled_read : (parts : List Part) (rdata message : List ℕ) (place after : ℕ) → parts_at parts message place ≡ Ok (rdata, after) → data_by_layout (Some parts) message place after ≡ Ok rdata
filled_read parts rdata message place after read =
    let same : eqb after after ≡ true = eq-eqb after after refl in
    rw (read, same) refl

filled_is : (after : ℕ) (read : List ℕ × ℕ) (rdata : List ℕ) → data_that_fills after read ≡ Ok rdata → read ≡ (rdata, after)
filled_is after read rdata =
    cond_both (eqb read.1 after) (Ok read.0) (Err Data) (λ (r : Result (List ℕ) RecordFault). r ≡ Ok rdata → read ≡ (rdata, after))
    (λ t e.
    let first : read.0 ≡ rdata = ok_is {E = RecordFault} read.0 rdata e in
    let second : read.1 ≡ after = eqb-true read.1 after t in
    ap (λ (bytes : List ℕ). (bytes, read.1)) first ∙ ap (λ (n : ℕ). (rdata, n)) second)
    (λ t e. absurd cc)

parts_filled : (parts : List Part) (rdata message : List ℕ) (place after : ℕ) → data_by_layout (Some parts) message place after ≡ Ok rdata → parts_at parts message place ≡ Ok (rdata, after)
parts_filled parts rdata message place after e =
    let p = bind_ok (parts_at parts message place) (data_that_fills after) rdata e in
    p.1 ∙ ap (λ (x : List ℕ × ℕ). Ok x) (filled_is after p.0 rdata p.2)

-- what is written as data is read as that data
laid_written : (layout : Option (List Part)) (rdata message : List ℕ) (place after : ℕ) → MatchOption layout ⊤ (λ parts. HasParts parts rdata) → after ≤ length message → Stands rdata message place after → data_by_layout layout message place after ≡ Ok rdata
laid_written None rdata message place after h within s = ap (λ (bytes : List ℕ). Ok bytes) (taken rdata message place after s)
laid_written (Some parts) rdata message place after h within s = filled_read parts rdata message place after (parts_written parts rdata message place after h within s)

pub data_written : (rtype class : ℕ) (rdata message : List ℕ) (place after : ℕ) → IsData rtype class rdata → after ≤ length message → Stands rdata message place after → data_at rtype class message place after ≡ Ok rdata
unfolding data_at
data_written rtype class rdata message place after h within s = laid_written (layout_of rtype class) rdata message place after h.parts within s

-- what is read as data is such as the type and class have
laid_is : (layout : Option (List Part)) (rtype class : ℕ) (rdata message : List ℕ) (place after : ℕ) → layout_of rtype class ≡ layout → after < place + 2 ^ 16 → data_by_layout layout message place after ≡ Ok rdata → IsData rtype class rdata
laid_is None rtype class rdata message place after l short e =
    let octets = take (after - place) (drop place message) in
    let same : octets ≡ rdata = ok_is {E = RecordFault} octets rdata e in
    is_any_data rtype class rdata l (omega (arith, ap length same, length-take (after - place) (drop place message)))
laid_is (Some parts) rtype class rdata message place after l short e =
    is_data rtype class rdata parts l (parts_have parts message place (rdata, after) (parts_filled parts rdata message place after e))

pub data_is : (rtype class : ℕ) (rdata message : List ℕ) (place after : ℕ) → after < place + 2 ^ 16 → data_at rtype class message place after ≡ Ok rdata → IsData rtype class rdata
unfolding data_at
data_is rtype class rdata message place after short e = laid_is (layout_of rtype class) rtype class rdata message place after refl short e

-- what is read as data stands there by the rules
laid_stands : (layout : Option (List Part)) (rdata message : List ℕ) (place after : ℕ) → place ≤ after → after ≤ length message → data_by_layout layout message place after ≡ Ok rdata
    → MatchOption layout (Stands rdata message place after) (λ parts. PartsAt parts message place rdata after)
laid_stands None rdata message place after order within e =
    subst (λ (bytes : List ℕ). Stands bytes message place after) (ok_is {E = RecordFault} (take (after - place) (drop place message)) rdata e) (taken_stands message place after order within)
laid_stands (Some parts) rdata message place after order within e = parts_stand parts message place (rdata, after) (parts_filled parts rdata message place after e)

pub data_stands : (rtype class : ℕ) (rdata message : List ℕ) (place after : ℕ) → place ≤ after → after ≤ length message → data_at rtype class message place after ≡ Ok rdata → DataAt rtype class message place rdata after
unfolding data_at
data_stands rtype class rdata message place after order within e = laid_stands (layout_of rtype class) rdata message place after order within e

-- data that stands there by the rules is read
laid_only : (layout : Option (List Part)) (rdata message : List ℕ) (place after : ℕ) → MatchOption layout (Stands rdata message place after) (λ parts. PartsAt parts message place rdata after)
    → data_by_layout layout message place after ≡ Ok rdata
laid_only None rdata message place after h = ap (λ (bytes : List ℕ). Ok bytes) (taken rdata message place after h)
laid_only (Some parts) rdata message place after h = filled_read parts rdata message place after (parts_only parts message place rdata after h)

pub data_only : (rtype class : ℕ) (rdata message : List ℕ) (place after : ℕ) → DataAt rtype class message place rdata after → data_at rtype class message place after ≡ Ok rdata
unfolding data_at
data_only rtype class rdata message place after h = laid_only (layout_of rtype class) rdata message place after h
