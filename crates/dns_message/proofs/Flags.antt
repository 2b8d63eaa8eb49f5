-- The two octets of flags, from a header's spelling to the header.
use Rattle.std.proofs.Common.{◌≡◌, ℕ, ◌+◌, ◌*◌, ◌/◌, ◌%◌, ◌<◌, ◌^◌, Bool, true, false, eqb, List, [], ◌∷◌, take, drop, get_or, refl, sym, ap, ◌∙◌, arith}
use Rattle.std.specs.Prelude.{slice_index}
use Rattle.std.proofs.lemmas.List.{get_or-drop}
use Rattle.dns_record.specs.Number.{number_at, AreOctets}
use Rattle.dns_record.proofs.Numbers.{number_fits}
use Rattle.dns_message.specs.declared.header.Header.{Header}
use Rattle.dns_message.specs.Reading.{is_set, header_in}
use Rattle.dns_message.specs.Spelling.{bit, first_flags, second_flags}

-- a bit and its number

bit_small : (b : Bool) → bit b < 2
bit_small false = omega arith
bit_small true = omega arith

bit_read : (b : Bool) → eqb (bit b) 1 ≡ b
bit_read false = refl
bit_read true = refl

-- the header of these numbers
abbrev header_of : ℕ → ℕ → ℕ → Header
header_of id first second = record {
  id = id;
  qr = is_set 128 first;
  opcode = first / 8 % 16;
  aa = is_set 4 first;
  tc = is_set 2 first;
  rd = is_set 1 first;
  ra = is_set 128 second;
  rcode = second % 16;
}

header_parts : (bytes : List ℕ) → header_in bytes ≡ header_of (number_at 2 bytes 0) (slice_index bytes 2) (slice_index bytes 3)
unfolding header_in
header_parts bytes = refl

-- the third octet

-- its parts as numbers
record AreParts (octet qr opcode aa tc rd : ℕ) : Type 0 where
  pub qr_is : octet / 128 % 2 ≡ qr
  pub opcode_is : octet / 8 % 16 ≡ opcode
  pub aa_is : octet / 4 % 2 ≡ aa
  pub tc_is : octet / 2 % 2 ≡ tc
  pub rd_is : octet / 1 % 2 ≡ rd

parts_are : (qr opcode aa tc rd : ℕ) → qr < 2 → opcode < 16 → aa < 2 → tc < 2 → rd < 2 → AreParts (128 * qr + 8 * (opcode % 16) + 4 * aa + 2 * tc + rd) qr opcode aa tc rd
parts_are qr opcode aa tc rd a b c d e = record { qr_is = omega arith; opcode_is = omega arith; aa_is = omega arith; tc_is = omega arith; rd_is = omega arith }

-- the fourth octet

record AreLowParts (octet ra rcode : ℕ) : Type 0 where
  pub ra_is : octet / 128 % 2 ≡ ra
  pub rcode_is : octet % 16 ≡ rcode

low_parts_are : (ra z rcode : ℕ) → ra < 2 → z < 8 → rcode < 16 → AreLowParts (128 * ra + 16 * z + rcode % 16) ra rcode
low_parts_are ra z rcode a b c = record { ra_is = omega arith; rcode_is = omega arith }

-- the two octets in a message

record Two (octets : List ℕ) (x y : ℕ) : Type 0 where
  pub first : get_or octets 0 0 ≡ x
  pub second : get_or octets 1 0 ≡ y

two_read : (octets : List ℕ) (x y : ℕ) → take 2 octets ≡ x ∷ y ∷ [] → Two octets x y
two_read [] x y e = absurd cc
two_read (a ∷ []) x y e = absurd cc
two_read (a ∷ b ∷ rest) x y e = record { first = cc; second = cc }

-- the header that is read of these numbers
header_from : (id first second z : ℕ) (h : Header) → id ≡ h.id → first ≡ first_flags h → second ≡ second_flags z h → h.opcode < 16 → h.rcode < 16 → z < 8 → header_of id first second ≡ h
header_from id first second z h e f g opcode_fits rcode_fits z_fits =
    let p = parts_are (bit h.qr) h.opcode (bit h.aa) (bit h.tc) (bit h.rd) (bit_small h.qr) opcode_fits (bit_small h.aa) (bit_small h.tc) (bit_small h.rd) in
    let q = low_parts_are (bit h.ra) z h.rcode (bit_small h.ra) z_fits rcode_fits in
    let qr : is_set 128 (first_flags h) ≡ h.qr = ap (λ (k : ℕ). eqb k 1) p.qr_is ∙ bit_read h.qr in
    let aa : is_set 4 (first_flags h) ≡ h.aa = ap (λ (k : ℕ). eqb k 1) p.aa_is ∙ bit_read h.aa in
    let tc : is_set 2 (first_flags h) ≡ h.tc = ap (λ (k : ℕ). eqb k 1) p.tc_is ∙ bit_read h.tc in
    let rd : is_set 1 (first_flags h) ≡ h.rd = ap (λ (k : ℕ). eqb k 1) p.rd_is ∙ bit_read h.rd in
    let ra : is_set 128 (second_flags z h) ≡ h.ra = ap (λ (k : ℕ). eqb k 1) q.ra_is ∙ bit_read h.ra in
    let opcode : first_flags h / 8 % 16 ≡ h.opcode = p.opcode_is in
    let rcode : second_flags z h % 16 ≡ h.rcode = q.rcode_is in
    rw (e, f, g) (rw (qr, opcode, aa, tc, rd, ra, rcode) refl)

-- what stands there as flags is read as the header
pub header_read : (bytes : List ℕ) (z : ℕ) (h : Header) → number_at 2 bytes 0 ≡ h.id → h.opcode < 16 → h.rcode < 16 → z < 8 → take 2 (drop 2 bytes) ≡ first_flags h ∷ second_flags z h ∷ [] → header_in bytes ≡ h
header_read bytes z h id opcode_fits rcode_fits z_fits e =
    let two = two_read (drop 2 bytes) (first_flags h) (second_flags z h) e in
    let first : slice_index bytes 2 ≡ first_flags h = sym (get_or-drop 2 bytes 0 0) ∙ two.first in
    let second : slice_index bytes 3 ≡ second_flags z h = sym (get_or-drop 2 bytes 1 0) ∙ two.second in
    header_parts bytes ∙ header_from (number_at 2 bytes 0) (slice_index bytes 2) (slice_index bytes 3) z h id first second opcode_fits rcode_fits z_fits

-- how large the parts of a header are that is read
pub record IsSmall (h : Header) : Type 0 where
  pub id_fits : h.id < 2 ^ 16
  pub opcode_fits : h.opcode < 16
  pub rcode_fits : h.rcode < 16

pub header_small : (bytes : List ℕ) → AreOctets bytes → IsSmall (header_in bytes)
unfolding header_in
header_small bytes octets = record { id_fits = number_fits 2 bytes 0 octets; opcode_fits = omega arith; rcode_fits = omega arith }
