-- Zones put into a set and taken out, bit by bit.
use Rattle.std.proofs.Common.{◌≡◌, ℕ, zero, suc, ◌-◌, ◌*◌, ◌%◌, ◌^◌, ◌≤◌, ◌<◌, ◌==◌, Bool, true, false, not, ◌||◌, ◌&&◌, refl, ap, ◌∙◌, arith, bit_and, bit_or, max}
use Rattle.std.specs.Int.{bit_at, bit_not}
use Rattle.std.proofs.Common.{w64}
use mir.Val.{bits}
use Rattle.std.proofs.lemmas.Bool.{eqb-true}
use Rattle.std.proofs.lemmas.Nat.Bits.{bit_at-lt, bit_at_or, bit_at_clear_other, bit_at_clear_same, bit_at_set_other, bit_at_set_same}
use Rattle.std.proofs.lemmas.Nat.{one_shl}
use Rattle.summary_index.specs.Zones.{has_zone, zones_without}
use Rattle.zone_rows.specs.declared.zone.TheConstants.{ZONE_LIMIT}

-- the bit of a zone
abbrev pub bit_of : ℕ → ℕ
bit_of number = 1 * 2 ^ (number - 1) % 2 ^ bits w64

with_by : (mask number n : ℕ) (b : Bool) → (n == number) ≡ b → 1 ≤ number → number ≤ ZONE_LIMIT → 1 ≤ n → has_zone (bit_or mask (bit_of number)) n ≡ (b || has_zone mask n)
with_by mask number n true e some within low =
    let same : n ≡ number = eqb-true n number e in
    ap (λ (k : ℕ). bit_at (bit_or mask (bit_of number)) (k - 1) == 1) same
    ∙ ap (λ (k : ℕ). k == 1) (bit_at_set_same w64 mask (number - 1) (omega (arith, some, within)))
with_by mask number n false e some within low =
    ap (λ (k : ℕ). k == 1) (bit_at_set_other w64 mask (number - 1) (omega (arith, some, within)) (n - 1) (λ s. other mask number n e some low s)) where
      other : (mask number n : ℕ) → (n == number) ≡ false → 1 ≤ number → 1 ≤ n → n - 1 ≡ number - 1 → ⊥
      other mask number n e some low s = grind (arith, e, some, low, s)

pub with_zone : (mask number n : ℕ) → 1 ≤ number → number ≤ ZONE_LIMIT → 1 ≤ n → has_zone (bit_or mask (bit_of number)) n ≡ ((n == number) || has_zone mask n)
with_zone mask number n some within low = with_by mask number n (n == number) refl some within low

without_by : (mask number n : ℕ) (b : Bool) → (n == number) ≡ b → 1 ≤ number → number ≤ ZONE_LIMIT → 1 ≤ n → n ≤ ZONE_LIMIT → has_zone (bit_and mask (bit_not w64 (bit_of number))) n ≡ (not b && has_zone mask n)
without_by mask number n true e some within low high =
    let same : n ≡ number = eqb-true n number e in
    ap (λ (k : ℕ). bit_at (bit_and mask (bit_not w64 (bit_of number))) (k - 1) == 1) same
    ∙ ap (λ (k : ℕ). k == 1) (bit_at_clear_same w64 mask (number - 1) (omega (arith, some, within)))
without_by mask number n false e some within low high =
    ap (λ (k : ℕ). k == 1) (bit_at_clear_other w64 mask (number - 1) (omega (arith, some, within)) (n - 1) (omega (arith, low, high)) (λ s. other mask number n e some low s)) where
      other : (mask number n : ℕ) → (n == number) ≡ false → 1 ≤ number → 1 ≤ n → n - 1 ≡ number - 1 → ⊥
      other mask number n e some low s = grind (arith, e, some, low, s)

pub without_zone : (mask number n : ℕ) → 1 ≤ number → number ≤ ZONE_LIMIT → 1 ≤ n → n ≤ ZONE_LIMIT → has_zone (bit_and mask (bit_not w64 (bit_of number))) n ≡ (not (n == number) && has_zone mask n)
without_zone mask number n some within low high = without_by mask number n (n == number) refl some within low high

-- the greater of two bits is 1 where one of them is
either_bit : (x y : ℕ) → x < 2 → y < 2 → (max x y == 1) ≡ ((x == 1) || (y == 1))
either_bit zero zero a b = refl
either_bit zero (suc zero) a b = refl
either_bit (suc zero) zero a b = refl
either_bit (suc zero) (suc zero) a b = refl
either_bit (suc (suc x)) y a b = absurd (omega (arith, a))
either_bit x (suc (suc y)) a b = absurd (omega (arith, b))

pub zones_of_both : (a b n : ℕ) → has_zone (bit_or a b) n ≡ (has_zone a n || has_zone b n)
zones_of_both a b n = ap (λ (k : ℕ). k == 1) (bit_at_or a b (n - 1)) ∙ either_bit (bit_at a (n - 1)) (bit_at b (n - 1)) (bit_at-lt a (n - 1)) (bit_at-lt b (n - 1))

-- the zone is taken out by the bits of its number
pub same_mask : (mask number : ℕ) → 1 ≤ number → number ≤ ZONE_LIMIT → bit_and mask (bit_not w64 (bit_of number)) ≡ zones_without number mask
same_mask mask number some within = ap (λ (bit : ℕ). bit_and mask (bit_not w64 bit)) (one_shl (number - 1) 64 (omega (arith, some, within)))
