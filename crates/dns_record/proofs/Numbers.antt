-- Numbers where they stand in a message.
use Rattle.std.proofs.Common.{◌≡◌, ℕ, ◌+◌, ◌*◌, ◌/◌, ◌%◌, ◌^◌, ◌<◌, ◌≤◌, List, [], ◌∷◌, ◌++◌, length, take, drop, refl, sym, ap, subst, ◌∙◌, arith}
use Rattle.std.proofs.lemmas.List.{take-append-drop, length-drop, get_or-drop}
use Rattle.byteorder.specs.Endian.{big_number, big_bytes}
use Rattle.byteorder.specs.Numbers.{big_number-reads_back, length-bytes_high_first, big_from-lt}
use Rattle.dns_name.specs.Standing.{Stands}
use Rattle.dns_record.specs.Number.{number_at, number_octets, AreOctets}

pub length-number_octets : (count number : ℕ) → length (number_octets count number) ≡ count
unfolding number_octets
length-number_octets count number = length-bytes_high_first count number

-- the number that stands somewhere is read
pub number_read : (count number : ℕ) (message : List ℕ) (at after : ℕ) → number < 256 ^ count → Stands (number_octets count number) message at after → number_at count message at ≡ number
unfolding number_at number_octets
number_read count number message at after lt h =
    let octets = big_bytes count number in
    let rest = drop (length octets) (drop at message) in
    let split : drop at message ≡ octets ++ rest = sym (take-append-drop (length octets) (drop at message)) ∙ ap (λ (l : List ℕ). l ++ rest) h.begins in
    ap (big_number count) split ∙ big_number-reads_back count number rest lt

two : (b : List ℕ) → 2 ≤ length b → AreOctets b → take 2 b ≡ big_bytes 2 (big_number 2 b)
two [] long octets = absurd (omega arith)
two (x ∷ []) long octets = absurd (omega arith)
two (x ∷ y ∷ rest) long octets =
    let fx : x < 256 = octets 0 in
    let fy : y < 256 = octets 1 in
    let ex : x ≡ (x * 256 + (y * 1 + 0)) / 256 % 256 = omega arith in
    let ey : y ≡ (x * 256 + (y * 1 + 0)) % 256 = omega arith in
    ap (λ (a : ℕ). a ∷ y ∷ []) ex ∙ ap (λ (a : ℕ). (x * 256 + (y * 1 + 0)) / 256 % 256 ∷ a ∷ []) ey

four : (b : List ℕ) → 4 ≤ length b → AreOctets b → take 4 b ≡ big_bytes 4 (big_number 4 b)
four [] long octets = absurd (omega arith)
four (x ∷ []) long octets = absurd (omega arith)
four (x ∷ y ∷ []) long octets = absurd (omega arith)
four (x ∷ y ∷ z ∷ []) long octets = absurd (omega arith)
four (x ∷ y ∷ z ∷ w ∷ rest) long octets =
    let fx : x < 256 = octets 0 in
    let fy : y < 256 = octets 1 in
    let fz : z < 256 = octets 2 in
    let fw : w < 256 = octets 3 in
    let n = x * 16777216 + (y * 65536 + (z * 256 + (w * 1 + 0))) in
    let ex : x ≡ n / 16777216 % 256 = omega arith in
    let ey : y ≡ n / 65536 % 256 = omega arith in
    let ez : z ≡ n / 256 % 256 = omega arith in
    let ew : w ≡ n % 256 = omega arith in
    ap (λ (a : ℕ). a ∷ y ∷ z ∷ w ∷ []) ex ∙ ap (λ (a : ℕ). n / 16777216 % 256 ∷ a ∷ z ∷ w ∷ []) ey ∙ ap (λ (a : ℕ). n / 16777216 % 256 ∷ n / 65536 % 256 ∷ a ∷ w ∷ []) ez ∙ ap (λ (a : ℕ). n / 16777216 % 256 ∷ n / 65536 % 256 ∷ n / 256 % 256 ∷ a ∷ []) ew

octets_from : (message : List ℕ) (at : ℕ) → AreOctets message → AreOctets (drop at message)
octets_from message at h = λ k. subst (λ (n : ℕ). n < 256) (sym (get_or-drop at message k 0)) (h (at + k))

-- what is read as a number of 16 bits stands there
pub u16_stands : (message : List ℕ) (at : ℕ) → AreOctets message → at + 2 ≤ length message → Stands (number_octets 2 (number_at 2 message at)) message at (at + 2)
unfolding number_at number_octets
u16_stands message at octets long = record {
  begins = two (drop at message) (omega (arith, length-drop at message)) (octets_from message at octets);
  ends = refl;
}

-- what is read as a number of 32 bits stands there
pub u32_stands : (message : List ℕ) (at : ℕ) → AreOctets message → at + 4 ≤ length message → Stands (number_octets 4 (number_at 4 message at)) message at (at + 4)
unfolding number_at number_octets
u32_stands message at octets long = record {
  begins = four (drop at message) (omega (arith, length-drop at message)) (octets_from message at octets);
  ends = refl;
}

-- a number of octets fits as many
pub number_fits : (count : ℕ) (message : List ℕ) (at : ℕ) → AreOctets message → number_at count message at < 256 ^ count
unfolding number_at
number_fits count message at octets = big_from-lt 0 count (drop at message) (octets_from message at octets)
