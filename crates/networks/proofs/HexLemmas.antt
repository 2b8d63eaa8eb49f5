-- Numbers that few hexadecimal digits write.
use Rattle.std.proofs.Common.{◌≡◌, ℕ, zero, suc, ◌+◌, ◌*◌, ◌<◌, ◌≤◌, ◌^◌, List, [], ◌∷◌, length, true, arith}
use Rattle.std.specs.Char.{digit_value, is_ascii_hexdigit}
use Rattle.std.specs.List.{list_all}
use Rattle.std.specs.Str.Parse.{digits_value, AllDigits}
use Rattle.std.proofs.lemmas.Bool.{and_parts}
use Rattle.std.proofs.lemmas.Bool.Decides.{nat_tests}
use Rattle.std.proofs.lemmas.Int.Digits.{digits_value-lt}

-- one digit more
pub one_digit_more : (value digit i : ℕ) → value < 64 ^ i → digit ≤ 36 → i < 4 → value * 16 + digit < 64 ^ (i + 1)
one_digit_more value digit zero h d lt = omega arith
one_digit_more value digit (suc zero) h d lt = omega arith
one_digit_more value digit (suc (suc zero)) h d lt = omega arith
one_digit_more value digit (suc (suc (suc zero))) h d lt = omega arith
one_digit_more value digit (suc (suc (suc (suc i)))) h d lt = absurd (omega arith)

pub four_digits_fit : (value i : ℕ) → value < 64 ^ i → i ≤ 4 → value < 2 ^ 32
four_digits_fit value zero h le = omega arith
four_digits_fit value (suc zero) h le = omega arith
four_digits_fit value (suc (suc zero)) h le = omega arith
four_digits_fit value (suc (suc (suc zero))) h le = omega arith
four_digits_fit value (suc (suc (suc (suc zero)))) h le = omega arith
four_digits_fit value (suc (suc (suc (suc (suc i))))) h le = absurd (omega arith)

hex_digit : (c : ℕ) → is_ascii_hexdigit c ≡ true → digit_value c < 16
hex_digit c h = grind (arith, nat_tests)

all_hex : (text : List ℕ) → list_all is_ascii_hexdigit text ≡ true → AllDigits 16 text
all_hex [] h = tt
all_hex (c ∷ cs) h =
    let b = and_parts (is_ascii_hexdigit c) (list_all is_ascii_hexdigit cs) h in
    (hex_digit c b.0, all_hex cs b.1)

short_power : (n : ℕ) → n ≤ 4 → 16 ^ n ≤ 65536
short_power zero h = omega arith
short_power (suc zero) h = omega arith
short_power (suc (suc zero)) h = omega arith
short_power (suc (suc (suc zero))) h = omega arith
short_power (suc (suc (suc (suc zero)))) h = omega arith
short_power (suc (suc (suc (suc (suc i))))) h = absurd (omega arith)

-- a group of at most four digits
pub group_below : (text : List ℕ) → list_all is_ascii_hexdigit text ≡ true → length text ≤ 4 → digits_value 16 text < 65536
group_below text h few = omega (arith, digits_value-lt 16 text (all_hex text h), short_power (length text) few)
