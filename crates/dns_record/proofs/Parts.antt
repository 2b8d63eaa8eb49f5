-- Reading the parts of the data one after another, as a loop does.
use Rattle.std.proofs.Common.{◌≡◌, ℕ, ◌+◌, ◌<◌, ◌≤◌, List, [], ◌∷◌, ◌++◌, length, get_or, drop, Result, Ok, Err, refl, sym, ap, ◌∙◌, append_assoc}
use Rattle.std.proofs.lemmas.List.{append-nil, drop_more, drop_all}
use Rattle.dns_name.specs.Reading.{◌>>=◌}
use Rattle.dns_record.specs.declared.fault.RecordFault.{RecordFault}
use Rattle.dns_record.specs.declared.fault.RecordError.{RecordError}
use Rattle.dns_record.specs.declared.fault.RecordError.TheVariants as errors
use Rattle.dns_record.specs.declared.part.Part.{Part}
use Rattle.dns_record.specs.Reading.{with_octets, part_at, parts_at, Fails}

abbrev Outcome : Type 0
Outcome = Result (List ℕ × ℕ) RecordFault

pub with_octets-nil : (read : Outcome) → with_octets [] read ≡ read
with_octets-nil (Ok x) = refl
with_octets-nil (Err fault) = refl

with_octets-append : (front more : List ℕ) (read : Outcome) → with_octets front (with_octets more read) ≡ with_octets (front ++ more) read
with_octets-append front more (Ok x) = ap (λ (octets : List ℕ). Ok (octets, x.1)) (sym (append_assoc front more x.0))
with_octets-append front more (Err fault) = refl

same_outcome : (read : Outcome) (x y : List ℕ × ℕ) → read ≡ Ok x → read ≡ Ok y → x ≡ y
same_outcome read x y e f = cc

after_part : (rdata rdata' : List ℕ) (place' : ℕ) (rest : List ℕ × ℕ → Outcome) (first : Outcome) → with_octets rdata first ≡ Ok (rdata', place')
    → with_octets rdata (first >>= λ x. with_octets x.0 (rest x)) ≡ with_octets rdata' (first >>= rest)
after_part rdata rdata' place' rest (Ok x) e =
    let both : Outcome = Ok (rdata ++ x.0, x.1) in
    let same : (rdata ++ x.0, x.1) ≡ (rdata', place') = same_outcome both (rdata ++ x.0, x.1) (rdata', place') refl e in
    with_octets-append rdata x.0 (rest x) ∙ ap (λ (y : List ℕ × ℕ). with_octets y.0 (rest x)) same
after_part rdata rdata' place' rest (Err fault) e = absurd cc

at_place : (rdata rdata' : List ℕ) (place' : ℕ) (rest : ℕ → Outcome) (first : Outcome) → with_octets rdata first ≡ Ok (rdata', place') → (first >>= λ x. rest x.1) ≡ rest place'
at_place rdata rdata' place' rest (Ok x) e =
    let both : Outcome = Ok (rdata ++ x.0, x.1) in
    let same : (rdata ++ x.0, x.1) ≡ (rdata', place') = same_outcome both (rdata ++ x.0, x.1) (rdata', place') refl e in
    ap (λ (y : List ℕ × ℕ). rest y.1) same
at_place rdata rdata' place' rest (Err fault) e = absurd cc

-- one part more
pub part_more : (parts : List Part) (i : ℕ) (d : Part) (message rdata rdata' : List ℕ) (place place' : ℕ) (total : Outcome) → i < length parts
    → with_octets rdata (part_at (get_or parts i d) message place) ≡ Ok (rdata', place') → with_octets rdata (parts_at (drop i parts) message place) ≡ total
    → with_octets rdata' (parts_at (drop (i + 1) parts) message place') ≡ total
unfolding parts_at
part_more parts i d message rdata rdata' place place' total lt e so_far =
    let part = get_or parts i d in
    let rest = λ (y : ℕ). parts_at (drop (i + 1) parts) message y in
    let step : with_octets rdata (parts_at (part ∷ drop (i + 1) parts) message place) ≡ with_octets rdata' (rest place') =
    after_part rdata rdata' place' (λ (x : List ℕ × ℕ). rest x.1) (part_at part message place) e ∙ ap (with_octets rdata') (at_place rdata rdata' place' rest (part_at part message place) e) in
    sym step ∙ ap (λ (ps : List Part). with_octets rdata (parts_at ps message place)) (sym (drop_more parts i d lt)) ∙ so_far

fails_on : (e : RecordError) (rdata : List ℕ) (rest : List ℕ × ℕ → Outcome) (first total : Outcome) → Fails e first → with_octets rdata (first >>= rest) ≡ total → Fails e total
fails_on errors.OutOfMemory rdata rest first total f so_far = tt
fails_on (errors.Fault fault) rdata rest first total f so_far = sym so_far ∙ rw f refl

-- a part that can't be read
pub part_fails : (e : RecordError) (parts : List Part) (i : ℕ) (d : Part) (message rdata : List ℕ) (place : ℕ) (total : Outcome) → i < length parts
    → Fails e (part_at (get_or parts i d) message place) → with_octets rdata (parts_at (drop i parts) message place) ≡ total → Fails e total
unfolding parts_at
part_fails e parts i d message rdata place total lt f so_far =
    fails_on e rdata (λ x. with_octets x.0 (parts_at (drop (i + 1) parts) message x.1)) (part_at (get_or parts i d) message place) total f
    (ap (λ (ps : List Part). with_octets rdata (parts_at ps message place)) (sym (drop_more parts i d lt)) ∙ so_far)

-- no part is left
pub parts_end : (parts : List Part) (i : ℕ) (message rdata : List ℕ) (place : ℕ) (total : Outcome) → length parts ≤ i → with_octets rdata (parts_at (drop i parts) message place) ≡ total → total ≡ Ok (rdata, place)
unfolding parts_at
parts_end parts i message rdata place total le so_far =
    sym so_far ∙ ap (λ (ps : List Part). with_octets rdata (parts_at ps message place)) (drop_all i parts le) ∙ ap (λ (octets : List ℕ). Ok (octets, place)) (append-nil rdata)
