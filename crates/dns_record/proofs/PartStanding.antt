-- Parts of the data where they stand in a message.
use Rattle.std.proofs.Common.{◌≡◌, ℕ, ◌+◌, ◌<◌, ◌≤◌, ltb, false, List, [], ◌∷◌, ◌++◌, length, take, drop, Ok, refl, sym, ap, subst, ◌∙◌, arith}
use Rattle.std.proofs.lemmas.Bool.{le-ltb}
use Rattle.std.proofs.lemmas.List.{length-take, length-drop}
use Rattle.dns_name.specs.Labels.{name_octets}
use Rattle.dns_name.specs.Reading.{name_at}
use Rattle.dns_name.specs.Standing.{Stands}
use Rattle.dns_name.proofs.Standing.{name_written, stands_first, stands_second}
use Rattle.dns_record.specs.declared.part.Part.{Part}
use Rattle.dns_record.specs.declared.part.Part.TheVariants.{Name, Fixed}
use Rattle.dns_record.specs.Part.{HasParts}
use Rattle.dns_record.specs.Reading.{octets_at, parts_at}

-- what stands in a message, and isn't empty, ends within it
pub stands_within : (octets message : List ℕ) (at after : ℕ) → 0 < length octets → Stands octets message at after → after ≤ length message
stands_within octets message at after lt h = omega (arith, h.ends, ap length h.begins, length-take (length octets) (drop at message), length-drop at message)

-- two parts that stand one after the other, with the place between them
pub stands_parts : (first second message : List ℕ) (at middle after : ℕ) → at + length first ≡ middle → Stands (first ++ second) message at after → Stands first message at middle × Stands second message middle after
stands_parts first second message at middle after e h = (
  subst (λ (m : ℕ). Stands first message at m) e (stands_first first second message at after h),
  subst (λ (m : ℕ). Stands second message m after) e (stands_second first second message at after h),
)

-- so many octets are read where they stand
pub octets_written : (count : ℕ) (octets message : List ℕ) (at after : ℕ) → length octets ≡ count → after ≤ length message → Stands octets message at after → octets_at count message at ≡ Ok (octets, after)
octets_written count octets message at after len within h =
    let room : ltb (length message) (at + count) ≡ false = le-ltb (length message) (at + count) (omega (arith, h.ends)) in
    let taken : take count (drop at message) ≡ octets = ap (λ (n : ℕ). take n (drop at message)) (sym len) ∙ h.begins in
    let place : at + count ≡ after = omega (arith, h.ends) in
    rw (room, taken, place) refl

-- parts are read where they stand
pub parts_written : (parts : List Part) (octets message : List ℕ) (at after : ℕ) → HasParts parts octets → after ≤ length message → Stands octets message at after → parts_at parts message at ≡ Ok (octets, after)
unfolding parts_at
parts_written [] octets message at after h within s =
    let end : at ≡ after = omega (arith, s.ends, ap length h) in
    rw (h, end) refl
parts_written (Name ∷ parts) octets message at after h within s =
    let front = name_octets h.0 in
    let middle = at + length front in
    let both = stands_parts front h.1 message at middle after refl (subst (λ (bytes : List ℕ). Stands bytes message at after) h.3 s) in
    let first : name_at message at ≡ Ok (h.0, middle) = name_written h.0 message at middle h.2 both.0 in
    let others : parts_at parts message middle ≡ Ok (h.1, after) = parts_written parts h.1 message middle after h.4 within both.1 in
    rw (first, others) (ap (λ (bytes : List ℕ). Ok (bytes, after)) (sym h.3))
parts_written (Fixed count ∷ parts) octets message at after h within s =
    let front = h.0 in
    let middle = at + length front in
    let both = stands_parts front h.1 message at middle after refl (subst (λ (bytes : List ℕ). Stands bytes message at after) h.3 s) in
    let first : octets_at count message at ≡ Ok (front, middle) = octets_written count front message at middle h.2 (omega (arith, both.1.ends)) both.0 in
    let others : parts_at parts message middle ≡ Ok (h.1, after) = parts_written parts h.1 message middle after h.4 within both.1 in
    rw (first, others) (ap (λ (bytes : List ℕ). Ok (bytes, after)) (sym h.3))
