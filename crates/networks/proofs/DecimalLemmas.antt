-- Octets as they are written, read back.
use Rattle.std.proofs.Common.{◌≡◌, ℕ, suc, ◌+◌, ◌-◌, ◌*◌, ◌<◌, ◌≤◌, Bool, true, false, ◌==◌, nat_lt, if◌then◌else◌, List, [], ◌∷◌, ◌++◌, length, get_or, take, drop, decimal, codes, Option, Some, None, refl, ap, ◌∙◌, arith, lt-ltb, le-leb, ne_eqb, append_assoc, inl, inr}
use Rattle.std.specs.Char.{digit_value, is_ascii_digit}
use Rattle.std.specs.List.{AllByRecursion, fold, list_all, position_or_len, before_first, after_first}
use Rattle.std.specs.Net.Text.{dotted_text}
use Rattle.std.specs.Str.Parse.{AllDigits, digits_value_after}
use Rattle.std.proofs.lemmas.Bool.{and_from, and_right, cases_eq}
use Rattle.std.proofs.lemmas.Bool.Decides.{nat_tests}
use Rattle.std.proofs.lemmas.Fmt.{decimal_is_IsNumeral, decimal_digit, length-decimal-le, first_decimal}
use Rattle.networks.specs.Decimal.{decimal_of, is_number, value_of}
use Rattle.networks.specs.Dotted.{is_octet_dot, has_leading_zero, octet_of, dotted_of}
use Rattle.networks.specs.Optional.{◌>>=◌}
use Rattle.networks.proofs.ColonLemmas.{place_next}

digit_is : (c : ℕ) → digit_value c < 10 → is_ascii_digit c ≡ true
digit_is c h = grind (arith, nat_tests)

digit_worth : (c : ℕ) → digit_value c < 10 → c - 48 ≡ digit_value c
digit_worth c h = grind (arith, nat_tests)

no_dot : (c : ℕ) → digit_value c < 10 → is_octet_dot c ≡ false
no_dot c h = grind (arith, nat_tests)

all_decimal : (text : List ℕ) → AllDigits 10 text → list_all is_ascii_digit text ≡ true
all_decimal [] h = refl
all_decimal (c ∷ cs) h = and_from _ _ (digit_is c h.0) (all_decimal cs h.1)

value_behind : (n : ℕ) (text : List ℕ) → AllDigits 10 text → fold (λ value b. value * 10 + (b - 48)) n text ≡ digits_value_after 10 n text
value_behind n [] h = refl
value_behind n (c ∷ cs) h = value_behind (n * 10 + (c - 48)) cs h.1 ∙ ap (λ (d : ℕ). digits_value_after 10 (n * 10 + d) cs) (digit_worth c h.0)

abbrev HasNoDot : List ℕ → Type 0
HasNoDot text = AllByRecursion (λ b. is_octet_dot b ≡ false) text

digits_no_dot : (text : List ℕ) → AllDigits 10 text → HasNoDot text
digits_no_dot [] h = tt
digits_no_dot (c ∷ cs) h = (no_dot c h.0, digits_no_dot cs h.1)

octet_no_dot : (n : ℕ) → n < 256 → HasNoDot (decimal n)
octet_no_dot n few = digits_no_dot (decimal n) (decimal_is_IsNumeral n (omega arith)).0.1

no_leading_zero : (n : ℕ) → n < 256 → has_leading_zero (decimal n) ≡ false
no_leading_zero n few =
    elim (cases_eq n 0) [
      | inl none ↦ ap (λ (m : ℕ). has_leading_zero (decimal m)) none ∙ ap has_leading_zero (decimal_digit 0 (omega arith))
      | inr some ↦
          let more : 48 < get_or (decimal n) 0 0 = first_decimal n (omega arith) (omega arith) in
          and_right (nat_lt 1 (length (decimal n))) (get_or (decimal n) 0 0 == 48) (ne_eqb (get_or (decimal n) 0 0) 48 (λ e. absurd (omega arith)))
    ]

decimal_read : (n : ℕ) → n < 256 → decimal_of 3 256 (decimal n) ≡ Some n
decimal_read n few =
    let is = decimal_is_IsNumeral n (omega arith) in
    let value : value_of (decimal n) ≡ n = value_behind 0 (decimal n) is.0.1 ∙ is.1 in
    let short : length (decimal n) ≤ 3 = length-decimal-le 3 n (omega arith) (omega arith) (omega arith) in
    let test : is_number 3 256 (decimal n) ≡ true = and_from _ _ (and_from _ _ (and_from _ _ (lt-ltb 0 (length (decimal n)) is.0.0) (le-leb (length (decimal n)) 3 short)) (all_decimal (decimal n) is.0.1)) (lt-ltb (value_of (decimal n)) 256 (omega (arith, value))) in
    ap (λ (b : Bool). if b then Some (value_of (decimal n)) else None) test ∙ ap (λ (m : ℕ). let o : Option ℕ = Some m in o) value

octet_read : (strict : Bool) (n : ℕ) → n < 256 → octet_of strict (decimal n) ≡ Some n
octet_read true n few = ap (λ (b : Bool). if b then None else decimal_of 3 256 (decimal n)) (no_leading_zero n few) ∙ decimal_read n few
octet_read false n few = decimal_read n few

-- what stands before a dot, and behind it
before_dot : (text rest : List ℕ) → HasNoDot text → before_first is_octet_dot (text ++ (46 ∷ rest)) ≡ text
before_dot [] rest h = refl
before_dot (x ∷ xs) rest h = ap (λ (n : ℕ). take n (x ∷ (xs ++ (46 ∷ rest)))) (place_next x (xs ++ (46 ∷ rest)) h.0) ∙ ap (λ (t : List ℕ). x ∷ t) (before_dot xs rest h.1)

after_dot : (text rest : List ℕ) → HasNoDot text → after_first is_octet_dot (text ++ (46 ∷ rest)) ≡ rest
after_dot [] rest h = refl
after_dot (x ∷ xs) rest h =
    let next : position_or_len is_octet_dot (x ∷ (xs ++ (46 ∷ rest))) + 1 ≡ suc (position_or_len is_octet_dot (xs ++ (46 ∷ rest)) + 1) = omega (arith, place_next x (xs ++ (46 ∷ rest)) h.0) in
    ap (λ (n : ℕ). drop n (x ∷ (xs ++ (46 ∷ rest)))) next ∙ after_dot xs rest h.1

abbrev four : Option ℕ → Option ℕ → Option ℕ → Option ℕ → Option ℕ
four a b c d = a >>= (λ first. b >>= (λ second. c >>= (λ third. d >>= (λ fourth. Some (((first * 256 + second) * 256 + third) * 256 + fourth)))))

four_is : (o p q r : Option ℕ) (a b c d : ℕ) → o ≡ Some a → p ≡ Some b → q ≡ Some c → r ≡ Some d → four o p q r ≡ Some (((a * 256 + b) * 256 + c) * 256 + d)
four_is o p q r a b c d e f g h = rw (e, f, g, h) refl

parts_read : (strict : Bool) (ta tb tc td : List ℕ) (a b c d : ℕ) → HasNoDot ta → HasNoDot tb → HasNoDot tc → octet_of strict ta ≡ Some a → octet_of strict tb ≡ Some b → octet_of strict tc ≡ Some c → octet_of strict td ≡ Some d
    → dotted_of strict (ta ++ (46 ∷ (tb ++ (46 ∷ (tc ++ (46 ∷ td)))))) ≡ Some (((a * 256 + b) * 256 + c) * 256 + d)
unfolding dotted_of
parts_read strict ta tb tc td a b c d na nb nc ea eb ec ed =
    let third : List ℕ = tc ++ (46 ∷ td) in
    let second : List ℕ = tb ++ (46 ∷ third) in
    let text : List ℕ = ta ++ (46 ∷ second) in
    let behind : after_first is_octet_dot text ≡ second = after_dot ta second na in
    let later : after_first is_octet_dot (after_first is_octet_dot text) ≡ third = ap (after_first is_octet_dot) behind ∙ after_dot tb third nb in
    four_is (octet_of strict (before_first is_octet_dot text)) (octet_of strict (before_first is_octet_dot (after_first is_octet_dot text))) (octet_of strict (before_first is_octet_dot (after_first is_octet_dot (after_first is_octet_dot text)))) (octet_of strict (after_first is_octet_dot (after_first is_octet_dot (after_first is_octet_dot text)))) a b c d
    (ap (octet_of strict) (before_dot ta second na) ∙ ea)
    (ap (λ (t : List ℕ). octet_of strict (before_first is_octet_dot t)) behind ∙ ap (octet_of strict) (before_dot tb third nb) ∙ eb)
    (ap (λ (t : List ℕ). octet_of strict (before_first is_octet_dot t)) later ∙ ap (octet_of strict) (before_dot tc td nc) ∙ ec)
    (ap (λ (t : List ℕ). octet_of strict (after_first is_octet_dot t)) later ∙ ap (octet_of strict) (after_dot tc td nc) ∙ ed)

from_right : (a b c d : List ℕ) → (((((a ++ codes ".") ++ b) ++ codes ".") ++ c) ++ codes ".") ++ d ≡ a ++ (46 ∷ (b ++ (46 ∷ (c ++ (46 ∷ d)))))
from_right a b c d = simp append_assoc

pub dotted_read : (strict : Bool) (a b c d : ℕ) → a < 256 → b < 256 → c < 256 → d < 256 → dotted_of strict (dotted_text a b c d) ≡ Some (((a * 256 + b) * 256 + c) * 256 + d)
dotted_read strict a b c d fa fb fc fd =
    ap (dotted_of strict) (from_right (decimal a) (decimal b) (decimal c) (decimal d))
    ∙ parts_read strict (decimal a) (decimal b) (decimal c) (decimal d) a b c d (octet_no_dot a fa) (octet_no_dot b fb) (octet_no_dot c fc)
    (octet_read strict a fa) (octet_read strict b fb) (octet_read strict c fc) (octet_read strict d fd)
