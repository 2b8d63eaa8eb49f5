-- How many first bits two numbers have in common.
use Rattle.std.proofs.Common.{◌≡◌, ℕ, zero, suc, ◌+◌, ◌-◌, ◌*◌, ◌/◌, ◌%◌, ◌^◌, ◌<◌, ◌≤◌, Bool, true, not, ◌&&◌, nat_lt, inl, inr, sym, ap, ◌∙◌, subst, arith, eq-eqb, bit_xor, pow-suc}
use Rattle.std.proofs.lemmas.Bool.{cases_lt}
use Rattle.std.proofs.lemmas.Bool.Decides.{nat_tests}
use Rattle.std.proofs.lemmas.Nat.{xor_lt, xor_shr, and_le_l, and_le_r, leading_length, leading_top, div_below, le-div, pow_pos, pow_below, div-add-mod', mod-mul-add, div-mul-add}
use Rattle.std.proofs.lemmas.Nat.Bits.{bit_at_xor}
use Rattle.std.specs.Int.{bit_at}
use Rattle.std.specs.Int.Bits.{xor_add_and}
use Rattle.std.specs.Int.Count.{count_leading_zeros, leading_of_zero}
use Rattle.prefix_index.specs.Bits.{PlainBits, bits_valid}

same_xor : (p q : ℕ) → bit_xor p q ≡ 0 → p ≡ q
same_xor p q e = omega (arith, xor_add_and p q, and_le_l p q, and_le_r p q)

small : (z m : ℕ) → z < m → z / m ≡ 0
small z m h = let k : z / m < 1 = div_below z m 1 (omega arith) (omega arith) in omega arith

wider : (z m k : ℕ) → z < 2 ^ m → m ≤ k → z < 2 ^ k
wider z m k h le = elim (cases_lt m k) as (λ _. z < 2 ^ k) [
  | inl lt ↦ let p : 2 ^ m < 2 ^ k = pow_below m k lt in omega arith
  | inr ge ↦ let e : m ≡ k = omega arith in subst (λ n. z < 2 ^ n) e h
]

pub agree_of : (w c x y : ℕ) → x < 2 ^ w → y < 2 ^ w → c ≤ count_leading_zeros w (bit_xor x y) → x / 2 ^ (w - c) ≡ y / 2 ^ (w - c)
agree_of w c x y hx hy le =
    let z = bit_xor x y in
    let top = leading_length w z (xor_lt w x y hx hy) in
    let fits : z < 2 ^ (w - c) = wider z top.0 (w - c) top.2 (omega (arith, top.1)) in
    same_xor (x / 2 ^ (w - c)) (y / 2 ^ (w - c)) (sym (xor_shr x y (w - c)) ∙ small z (2 ^ (w - c)) fits)

twice : (j : ℕ) → 2 ^ suc j ≡ 2 ^ j * 2
twice j = pow-suc 2 j

not_zero : (w z : ℕ) → count_leading_zeros w z < w → 0 < z
not_zero w zero h = absurd (omega (arith, leading_of_zero w))
not_zero w (suc z) h = omega arith

highest : (z j : ℕ) → 2 ^ j ≤ z → z < 2 ^ suc j → z / 2 ^ j ≡ 1
highest z j le lt =
    let low : 1 ≤ z / 2 ^ j = le-div 1 z (2 ^ j) (pow_pos j) (omega arith) in
    let high : z / 2 ^ j < 2 = div_below z (2 ^ j) 2 (pow_pos j) (omega (arith, twice j)) in
    omega arith

pub differ_of : (w c x y : ℕ) → x < 2 ^ w → y < 2 ^ w → c ≡ count_leading_zeros w (bit_xor x y) → c < w → x / 2 ^ (w - 1 - c) % 2 ≡ y / 2 ^ (w - 1 - c) % 2 → ⊥
differ_of w c x y hx hy e lt same =
    let z = bit_xor x y in
    let some : 0 < z = not_zero w z (omega (arith, e)) in
    let top = leading_top w z some (xor_lt w x y hx hy) in
    let j : top.0 ≡ w - 1 - c = omega (arith, top.1, e) in
    let one : bit_at z top.0 ≡ 1 = ap (λ n. n % 2) (highest z top.0 top.2 top.3) in
    let sum : (bit_at x top.0 + bit_at y top.0) % 2 ≡ 1 = sym (bit_at_xor x y top.0) ∙ one in
    let both : bit_at x top.0 ≡ bit_at y top.0 = subst (λ n. bit_at x n ≡ bit_at y n) (sym j) same in
    omega arith

-- ---- what is cut off

pub cut_clear : (x m : ℕ) → 0 < m → (x - x % m) % m ≡ 0
cut_clear x m some =
    let e : x - x % m ≡ x / m * m + 0 = omega (arith, div-add-mod' x m) in
    rw e (mod-mul-add (x / m) m 0 some)

pub cut_agrees : (x m : ℕ) → 0 < m → (x - x % m) / m ≡ x / m
cut_agrees x m some =
    let e : x - x % m ≡ x / m * m + 0 = omega (arith, div-add-mod' x m) in
    rw e (div-mul-add (x / m) m 0 some)

both : (a b : Bool) → a ≡ true → b ≡ true → (a && b) ≡ true
both a b e f = ap (λ c. c && b) e ∙ f

within : (x y : ℕ) → y ≤ x → not (nat_lt x y) ≡ true
within x y h = grind (arith, nat_tests)

pub valid_of : (w : ℕ) (a : PlainBits) → a.number % 2 ^ (w - a.len) ≡ 0 → a.len ≤ w → bits_valid w a ≡ true
valid_of w a clear le = both _ _ (eq-eqb _ _ clear) (within w a.len le)
