-- What bytes come to, part by part.
use Rattle.std.proofs.Common.{◌≡◌, ℕ, ◌+◌, ◌*◌, ◌%◌, ◌^◌, List, [], ◌∷◌, ◌++◌, refl, sym, ap, ◌∙◌, arith}
use Rattle.std.specs.Prelude.{fold}
use Rattle.std.proofs.lemmas.List.Sums.{fold-append}
use Rattle.std.proofs.lemmas.Nat.{mul-mod, mul-mod_second}
use Rattle.std.proofs.Math.Nat.{add-mod, mod-add-mod, mul_comm}

abbrev pub step : ℕ → ℕ → ℕ
step mark byte = (31 * mark + byte) % 2 ^ 64

abbrev pub grow : ℕ → ℕ → ℕ
grow power byte = 31 * power % 2 ^ 64

-- the same without a modulus
abbrev raw : ℕ → List ℕ → ℕ
raw v [] = v
raw v (b ∷ bs) = raw (31 * v + b) bs

-- the power of 31 by the number of bytes
abbrev size : List ℕ → ℕ
size [] = 1
size (b ∷ bs) = 31 * size bs

step_mod : (m v b : ℕ) → (31 * (v % m) + b) % m ≡ (31 * v + b) % m
step_mod m v b =
    sym (mod-add-mod (31 * (v % m)) m b)
    ∙ (ap (λ x. (x + b) % m) (mul-mod_second 31 v m)
    ∙ mod-add-mod (31 * v) m b)

mark_mod : (v : ℕ) (bs : List ℕ) → fold step (v % 2 ^ 64) bs ≡ raw v bs % 2 ^ 64
mark_mod v [] = refl
mark_mod v (b ∷ bs) = ap (λ x. fold step x bs) (step_mod (2 ^ 64) v b) ∙ mark_mod (31 * v + b) bs

power_mod : (p : ℕ) (bs : List ℕ) → fold grow (p % 2 ^ 64) bs ≡ p * size bs % 2 ^ 64
power_mod p [] = ap (λ x. x % 2 ^ 64) (omega arith)
power_mod p (b ∷ bs) =
    ap (λ x. fold grow x bs) (mul-mod_second 31 p (2 ^ 64))
    ∙ (power_mod (31 * p) bs ∙ ap (λ x. x % 2 ^ 64) (omega arith))

raw_from : (v : ℕ) (bs : List ℕ) → raw v bs ≡ v * size bs + raw 0 bs
raw_from v [] = omega arith
raw_from v (b ∷ bs) = omega (arith, raw_from (31 * v + b) bs, raw_from (31 * 0 + b) bs)

mul_add_mod : (a p b m : ℕ) → (a % m * (p % m) % m + b % m) % m ≡ (a * p + b) % m
mul_add_mod a p b m =
    ap (λ x. (x + b % m) % m) (sym (mul-mod a p m)) ∙ sym (add-mod (a * p) b m)

-- the mark of two parts, by the marks of both and the power of the second
pub two_marks : (xs ys : List ℕ) → fold step 0 (xs ++ ys) ≡ (fold step 0 xs * fold grow 1 ys % 2 ^ 64 + fold step 0 ys) % 2 ^ 64
two_marks xs ys =
    let first = mark_mod 0 xs in
    let second = mark_mod 0 ys in
    let power = power_mod 1 ys in
    let one : 1 * size ys ≡ size ys = omega arith in
    fold-append step 0 xs ys
    ∙ (ap (λ x. fold step x ys) first
    ∙ (mark_mod (raw 0 xs) ys
    ∙ (ap (λ x. x % 2 ^ 64) (raw_from (raw 0 xs) ys)
    ∙ (sym (mul_add_mod (raw 0 xs) (size ys) (raw 0 ys) (2 ^ 64))
    ∙ (λ i. (sym first i * (sym (power ∙ ap (λ x. x % 2 ^ 64) one) i) % 2 ^ 64 + sym second i) % 2 ^ 64)))))

-- the power of two parts
pub two_powers : (xs ys : List ℕ) → fold grow 1 (xs ++ ys) ≡ fold grow 1 xs * fold grow 1 ys % 2 ^ 64
two_powers xs ys =
    let one : 1 * size xs ≡ size xs = omega arith in
    let one' : 1 * size ys ≡ size ys = omega arith in
    let first = power_mod 1 xs ∙ ap (λ x. x % 2 ^ 64) one in
    let second = power_mod 1 ys ∙ ap (λ x. x % 2 ^ 64) one' in
    fold-append grow 1 xs ys
    ∙ (ap (λ x. fold grow x ys) first
    ∙ (power_mod (size xs) ys
    ∙ (mul-mod (size xs) (size ys) (2 ^ 64)
    ∙ (λ i. sym first i * (sym second i) % 2 ^ 64))))

-- a byte more, as code computes it
pub wrapped : (mark byte : ℕ) → (mark * 31 % 2 ^ 64 + byte) % 2 ^ 64 ≡ (31 * mark + byte) % 2 ^ 64
wrapped mark byte = mod-add-mod (mark * 31) (2 ^ 64) byte ∙ ap (λ n. (n + byte) % 2 ^ 64) (mul_comm mark 31)

pub wrapped_power : (power : ℕ) → power * 31 % 2 ^ 64 ≡ 31 * power % 2 ^ 64
wrapped_power power = ap (λ n. n % 2 ^ 64) (mul_comm power 31)
