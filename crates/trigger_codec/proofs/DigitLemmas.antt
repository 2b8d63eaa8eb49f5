-- Numbers that few digits write.
use Rattle.std.proofs.Common.{◌≡◌, ℕ, zero, suc, ◌+◌, ◌*◌, ◌<◌, ◌≤◌, ◌^◌, List, [], ◌∷◌, length, Bool, true, false, refl, arith, ◌&&◌}
use Rattle.std.specs.Char.{digit_value, is_ascii_hexdigit}
use Rattle.std.specs.List.{list_all}
use Rattle.std.specs.Str.Parse.{digits_value, AllDigits}
use Rattle.std.proofs.Math.Nat.{mul-le-mul_left}
use Rattle.std.proofs.lemmas.Bool.Decides.{nat_tests}
use Rattle.std.proofs.lemmas.Int.Digits.{digits_value-lt}

-- one digit more
pub one_digit_more : (value base digit i : ℕ) → value < 64 ^ i → base ≤ 16 → digit ≤ 36 → i < 4 → value * base + digit < 64 ^ (i + 1)
one_digit_more value base digit zero h b d lt = omega (arith, mul-le-mul_left value b)
one_digit_more value base digit (suc zero) h b d lt = omega (arith, mul-le-mul_left value b)
one_digit_more value base digit (suc (suc zero)) h b d lt = omega (arith, mul-le-mul_left value b)
one_digit_more value base digit (suc (suc (suc zero))) h b d lt = omega (arith, mul-le-mul_left value b)
one_digit_more value base digit (suc (suc (suc (suc i)))) h b d lt = absurd (omega arith)

pub four_digits_fit : (value i : ℕ) → value < 64 ^ i → i ≤ 4 → value < 2 ^ 32
four_digits_fit value zero h le = omega arith
four_digits_fit value (suc zero) h le = omega arith
four_digits_fit value (suc (suc zero)) h le = omega arith
four_digits_fit value (suc (suc (suc zero))) h le = omega arith
four_digits_fit value (suc (suc (suc (suc zero)))) h le = omega arith
four_digits_fit value (suc (suc (suc (suc (suc i))))) h le = absurd (omega arith)

both_true : (a b : Bool) → (a && b) ≡ true → (a ≡ true) × (b ≡ true)
both_true true b h = (refl, h)
both_true false b h = absurd cc

hex_digit : (c : ℕ) → is_ascii_hexdigit c ≡ true → digit_value c < 16
hex_digit c h = grind (arith, nat_tests)

all_hex : (label : List ℕ) → list_all is_ascii_hexdigit label ≡ true → AllDigits 16 label
all_hex [] h = tt
all_hex (c ∷ cs) h =
    let b = both_true (is_ascii_hexdigit c) (list_all is_ascii_hexdigit cs) h in
    (hex_digit c b.0, all_hex cs b.1)

short_power : (n : ℕ) → n ≤ 4 → 16 ^ n ≤ 65536
short_power zero h = omega arith
short_power (suc zero) h = omega arith
short_power (suc (suc zero)) h = omega arith
short_power (suc (suc (suc zero))) h = omega arith
short_power (suc (suc (suc (suc zero)))) h = omega arith
short_power (suc (suc (suc (suc (suc i))))) h = absurd (omega arith)

-- a word of at most four hexadecimal digits
pub word_below : (label : List ℕ) → list_all is_ascii_hexdigit label ≡ true → length label ≤ 4 → digits_value 16 label < 65536
word_below label h few = omega (arith, digits_value-lt 16 label (all_hex label h), short_power (length label) few)
