-- Parts of the data are read exactly where they stand by the rules of the grammar.
use Rattle.std.proofs.Common.{◌≡◌, ℕ, ◌+◌, ◌≤◌, ltb, List, [], ◌∷◌, ◌++◌, length, take, drop, Result, Ok, Err, refl, sym, ap, subst, arith}
use Rattle.std.proofs.lemmas.Bool.{cond_both, ltb-false}
use Rattle.std.proofs.lemmas.List.{length-take, length-drop}
use Rattle.dns_name.specs.Grammar.{NameAt}
use Rattle.dns_name.specs.Labels.{name_octets}
use Rattle.dns_name.specs.Reading.{NameOutcome, name_at}
use Rattle.dns_name.specs.Standing.{Stands}
use Rattle.dns_name.proofs.GrammarLemmas.{name_stands, name_only}
use Rattle.dns_record.specs.declared.fault.RecordFault.{RecordFault}
use Rattle.dns_record.specs.declared.fault.RecordFault.TheVariants.{Data}
use Rattle.dns_record.specs.declared.part.Part.{Part}
use Rattle.dns_record.specs.declared.part.Part.TheVariants.{Name, Fixed}
use Rattle.dns_record.specs.Becomes.{as_data}
use Rattle.dns_record.specs.Grammar.{PartsAt}
use Rattle.dns_record.specs.Reading.{with_octets, octets_at, part_at, parts_at}
use Rattle.dns_name.proofs.Binding.{bind_ok, ok_is}
use Rattle.dns_record.proofs.PartStanding.{octets_written}

-- a name and the place after it, as octets
abbrev spelling : List (List ℕ) × ℕ → List ℕ × ℕ
spelling name = (name_octets name.0, name.1)

abbrev read_spelled : List (List ℕ) × ℕ → Result (List ℕ × ℕ) RecordFault
read_spelled name = Ok (spelling name)

data_read : (read : NameOutcome) (x : List (List ℕ) × ℕ) → as_data read ≡ Ok x → read ≡ Ok x
data_read (Ok y) x e = ap (λ (z : List (List ℕ) × ℕ). Ok z) (ok_is {E = RecordFault} y x e)
data_read (Err fault) x e = absurd cc

-- a part that is read, and parts that stand behind it
part_stands : (part : Part) (parts : List Part) (message : List ℕ) (place : ℕ) (first rest : List ℕ × ℕ) → part_at part message place ≡ Ok first → PartsAt parts message first.1 rest.0 rest.1 → PartsAt (part ∷ parts) message place (first.0 ++ rest.0) rest.1
part_stands Name parts message place first rest e =
    let p = bind_ok (as_data (name_at message place)) read_spelled first e in
    let name = p.0 in
    let same : spelling name ≡ first = ok_is {E = RecordFault} (spelling name) first p.2 in
    let stands : NameAt message place (Ok name) = subst (λ (o : NameOutcome). NameAt message place o) (data_read (name_at message place) name p.1) (name_stands message place) in
    subst (λ (x : List ℕ × ℕ). PartsAt parts message x.1 rest.0 rest.1 → PartsAt (Name ∷ parts) message place (x.0 ++ rest.0) rest.1) same (λ h. (name.0, name.1, rest.0, stands, refl, h))
part_stands (Fixed count) parts message place first rest e = fixed e
  where
    octets : List ℕ
    octets = take count (drop place message)

    Follows : List ℕ × ℕ → Type 0
    Follows x = PartsAt parts message x.1 rest.0 rest.1 → PartsAt (Fixed count ∷ parts) message place (x.0 ++ rest.0) rest.1

    follows : place + count ≤ length message → Follows (octets, place + count)
    follows within h =
        let len : length octets ≡ count = omega (arith, length-take count (drop place message), length-drop place message) in
        let stands : Stands octets message place (place + count) = record { begins = ap (λ (n : ℕ). take n (drop place message)) len; ends = omega arith } in
        (octets, rest.0, len, stands, within, refl, h)

    fixed : octets_at count message place ≡ Ok first → Follows first
    fixed =
        cond_both (ltb (length message) (place + count)) (Err Data) (Ok (octets, place + count)) (λ (r : Result (List ℕ × ℕ) RecordFault). r ≡ Ok first → Follows first)
        (λ t f. absurd cc)
        (λ t f. subst Follows (ok_is {E = RecordFault} (octets, place + count) first f) (follows (ltb-false (length message) (place + count) t)))

-- what is read behind other octets
behind_read : (front : List ℕ) (others : Result (List ℕ × ℕ) RecordFault) (x : List ℕ × ℕ) → with_octets front others ≡ Ok x → (rest : List ℕ × ℕ) × (others ≡ Ok rest) × ((front ++ rest.0, rest.1) ≡ x)
behind_read front (Ok rest) x e = (rest, refl, ok_is {E = RecordFault} (front ++ rest.0, rest.1) x e)
behind_read front (Err fault) x e = absurd cc

-- what is read as parts stands there by the rules
pub parts_stand : (parts : List Part) (message : List ℕ) (place : ℕ) (x : List ℕ × ℕ) → parts_at parts message place ≡ Ok x → PartsAt parts message place x.0 x.1
unfolding parts_at
parts_stand [] message place x e = subst (λ (y : List ℕ × ℕ). PartsAt [] message place y.0 y.1) (ok_is {E = RecordFault} ([], place) x e) (refl, refl)
parts_stand (part ∷ parts) message place x e =
    let p = bind_ok (part_at part message place) (λ first. with_octets first.0 (parts_at parts message first.1)) x e in
    let first = p.0 in
    let q = behind_read first.0 (parts_at parts message first.1) x p.2 in
    let rest = q.0 in
    subst (λ (y : List ℕ × ℕ). PartsAt (part ∷ parts) message place y.0 y.1) q.2 (part_stands part parts message place first rest p.1 (parts_stand parts message first.1 rest q.1))

-- what stands there by the rules is read
pub parts_only : (parts : List Part) (message : List ℕ) (place : ℕ) (octets : List ℕ) (after : ℕ) → PartsAt parts message place octets after → parts_at parts message place ≡ Ok (octets, after)
unfolding parts_at
parts_only [] message place octets after h = rw (h.0, h.1) refl
parts_only (Name ∷ parts) message place octets after h =
    let first : name_at message place ≡ Ok (h.0, h.1) = name_only message place (Ok (h.0, h.1)) h.3 in
    let others : parts_at parts message h.1 ≡ Ok (h.2, after) = parts_only parts message h.1 h.2 after h.5 in
    rw (first, others) (ap (λ (bytes : List ℕ). Ok (bytes, after)) (sym h.4))
parts_only (Fixed count ∷ parts) message place octets after h =
    let first : octets_at count message place ≡ Ok (h.0, place + count) = octets_written count h.0 message place (place + count) h.2 h.4 h.3 in
    let others : parts_at parts message (place + count) ≡ Ok (h.1, after) = parts_only parts message (place + count) h.1 after h.6 in
    rw (first, others) (ap (λ (bytes : List ℕ). Ok (bytes, after)) (sym h.5))
