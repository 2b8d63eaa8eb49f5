-- Numbers as digits, and back.
use Rattle.std.proofs.Common.{◌≡◌, ℕ, suc, ◌+◌, ◌/◌, ◌%◌, ◌<◌, ◌≤◌, List, [], ◌∷◌, length, Bool, true, false, refl, ap, arith}
use Rattle.std.specs.Prelude.{◌==◌, if◌then◌else◌}
use Rattle.std.specs.Char.{digit_value, is_ascii_digit, is_ascii_hexdigit}
use Rattle.std.specs.Fmt.{decimal, digits, digits_onto, digit_glyph}
use Rattle.std.specs.List.{list_all}
use Rattle.std.specs.Str.Parse.{digits_value, AllDigits}
use Rattle.std.proofs.lemmas.Bool.{and_from}
use Rattle.std.proofs.lemmas.Bool.Decides.{nat_tests}
use Rattle.std.proofs.lemmas.Fmt.{digits_is_IsNumeral, decimal_is_IsNumeral, length-decimal-le}
use Rattle.trigger_codec.specs.Canonical.{hexadecimal}

-- what the decimal and the hexadecimal digits of a number are
pub record Writes (most base : ℕ) (is_digit : ℕ → Bool) (number : ℕ) (label : List ℕ) : Type 0 where
  pub some : 1 ≤ length label
  pub few : length label ≤ most
  pub digits : list_all is_digit label ≡ true
  pub value : digits_value base label ≡ number

decimal_digit_is : (c : ℕ) → digit_value c < 10 → is_ascii_digit c ≡ true
decimal_digit_is c h = grind (arith, nat_tests)

hex_digit_is : (c : ℕ) → digit_value c < 16 → is_ascii_hexdigit c ≡ true
hex_digit_is c h = grind (arith, nat_tests)

all_decimal : (label : List ℕ) → AllDigits 10 label → list_all is_ascii_digit label ≡ true
all_decimal [] h = refl
all_decimal (c ∷ cs) h = and_from _ _ (decimal_digit_is c h.0) (all_decimal cs h.1)

all_hex : (label : List ℕ) → AllDigits 16 label → list_all is_ascii_hexdigit label ≡ true
all_hex [] h = refl
all_hex (c ∷ cs) h = and_from _ _ (hex_digit_is c h.0) (all_hex cs h.1)

pub decimal_writes : (number : ℕ) → number < 1000 → Writes 3 10 is_ascii_digit number (decimal number)
decimal_writes number h =
    let is = decimal_is_IsNumeral number (omega arith) in
    record {
      some = is.0.0;
      few = length-decimal-le 3 number (omega arith) (omega arith) (omega arith);
      digits = all_decimal (decimal number) is.0.1;
      value = is.1;
    }

-- one digit more of at most so many
onto_case : (b : Bool) (more rest : List ℕ) (acc m : ℕ) → length more ≡ acc + 1 → length rest ≤ acc + 1 + m → length (if b then more else rest) ≤ acc + suc m
onto_case true more rest acc m h k = omega (arith, h)
onto_case false more rest acc m h k = omega (arith, k)

onto_step : (k n m : ℕ) (acc : List ℕ) → ((front : List ℕ) → length (digits_onto k 16 false (n / 16) front) ≤ length front + m) → length (digits_onto (suc k) 16 false n acc) ≤ length acc + suc m
onto_step k n m acc h =
    let glyphs : List ℕ = digit_glyph false (n % 16) ∷ acc in
    onto_case (n / 16 == 0) glyphs (digits_onto k 16 false (n / 16) glyphs) (length acc) m (omega arith) (omega (arith, h glyphs))

onto_one : (k n : ℕ) (acc : List ℕ) → n < 16 → length (digits_onto (suc k) 16 false n acc) ≤ length acc + 1
onto_one k n acc h =
    let none : n / 16 ≡ 0 = omega arith in
    let test : (n / 16 == 0) ≡ true = ap (λ (q : ℕ). q == 0) none in
    rw test (omega arith)

hex_len : (number : ℕ) → number < 65536 → length (hexadecimal number) ≤ 4
unfolding digits
hex_len number h =
    onto_step 63 number 3 [] (λ a. onto_step 62 (number / 16) 2 a (λ b. onto_step 61 (number / 16 / 16) 1 b (λ c. onto_one 60 (number / 16 / 16 / 16) c (omega arith))))

pub hexadecimal_writes : (number : ℕ) → number < 65536 → Writes 4 16 is_ascii_hexdigit number (hexadecimal number)
hexadecimal_writes number h =
    let is = digits_is_IsNumeral 16 false (omega arith) (omega arith) number (omega arith) in
    record { some = is.0.0; few = hex_len number h; digits = all_hex (hexadecimal number) is.0.1; value = is.1 }
