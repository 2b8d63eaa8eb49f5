-- The laws of strings of bits.
use Rattle.std.proofs.Common.{◌≡◌, ℕ, ◌+◌, ◌-◌, ◌*◌, ◌/◌, ◌%◌, ◌^◌, ◌<◌, ◌≤◌, ◌==◌, Bool, true, false, not, ◌&&◌, nat_lt, cond, ◌⊎◌, inl, inr, refl, sym, ap, ◌∙◌, subst, arith, eqb-true, eq-eqb, nat_cmp, is_eq}
use Rattle.std.proofs.lemmas.Bool.Decides.{nat_tests}
use Rattle.std.proofs.lemmas.Nat.{shr-shr, div-add-mod', le-div, pow_pos}
use Rattle.std.specs.Cmp.{IsTotalOrder, nat_cmp_total, on_total, then_total, unsigned_tied}
use Rattle.std.specs.Ordering.{ordering_then}
use Rattle.std.specs.declared.cmp.Ordering.{Ordering}
use Rattle.std.specs.declared.cmp.Ordering.TheVariants.{Less, Equal, Greater}
use Rattle.trie_keys.specs.Keys.{KeyLaws}
use Rattle.prefix_index.specs.Bits.{PlainBits, bits_order, bits_agree, bit_at_place, bits_valid, bits_keys}

order_total : IsTotalOrder bits_order
order_total = then_total (on_total (λ (a : PlainBits). a.number) nat_cmp_total) (on_total (λ (a : PlainBits). a.len) nat_cmp_total)

is_less : (x y : ℕ) → x < y → nat_lt x y ≡ true
is_less x y h = grind (arith, nat_tests)

pub less : (x y : ℕ) → x < y → nat_cmp x y ≡ Less
less x y h = ap (λ b. cond b Less (cond (x == y) Equal Greater)) (is_less x y h)

pub same_number : (x y : ℕ) → nat_cmp x y ≡ Equal → x ≡ y
same_number x y e = eqb-true x y (sym (unsigned_tied x y) ∙ ap is_eq e)

pub then_first : (r s : Ordering) → ordering_then r s ≡ Equal → r ≡ Equal
then_first Less s e = cc e
then_first Equal s e = refl
then_first Greater s e = cc e

pub then_second : (r s : Ordering) → ordering_then r s ≡ Equal → s ≡ Equal
then_second Less s e = cc e
then_second Equal s e = e
then_second Greater s e = cc e

both_same : (a b : PlainBits) → a.number ≡ b.number → a.len ≡ b.len → a ≡ b
both_same a b e f = λ i. record { number = e i; len = f i }

first_true : (a b : Bool) → (a && b) ≡ true → a ≡ true
first_true true b e = refl
first_true false b e = e

second_true : (a b : Bool) → (a && b) ≡ true → b ≡ true
second_true true b e = e
second_true false b e = cc e

not_less : (x y : ℕ) → not (nat_lt x y) ≡ true → y ≤ x
not_less x y e = grind (arith, nat_tests)

pub no_rest : (width : ℕ) (a : PlainBits) → bits_valid width a ≡ true → a.number % 2 ^ (width - a.len) ≡ 0
no_rest width a h = eqb-true _ _ (first_true _ _ h)

pub at_most : (width : ℕ) (a : PlainBits) → bits_valid width a ≡ true → a.len ≤ width
at_most width a h = not_less width a.len (second_true (a.number % 2 ^ (width - a.len) == 0) _ h)

-- the numbers by their first bits and the rest
whole_of : (x m : ℕ) → x % m ≡ 0 → x / m * m ≡ x
whole_of x m e = omega (arith, div-add-mod' x m)

at_least : (x m : ℕ) → x / m * m ≤ x
at_least x m = omega (arith, div-add-mod' x m)

less_by_rest : (m x y : ℕ) → 0 < m → x / m < y / m → x < y
less_by_rest m x y some lt =
    let k : y ≤ x → y / m ≤ x / m = λ le. le-div (y / m) x m some (omega (arith, at_least y m)) in
    grind (arith, k)

greater : (x y : ℕ) → nat_cmp x y ≡ Greater → x ≤ y → ⊥
greater x y e le = grind (arith, nat_tests)

by_test : (o : Ordering) (x y m n : ℕ) → nat_cmp x y ≡ o → x ≤ y → nat_cmp m n ≡ Less → ordering_then o (nat_cmp m n) ≡ Less
by_test Less x y m n e le h = refl
by_test Equal x y m n e le h = h
by_test Greater x y m n e le h = absurd (greater x y e le)

later_or_longer : (x y m n : ℕ) → x ≤ y → m < n → ordering_then (nat_cmp x y) (nat_cmp m n) ≡ Less
later_or_longer x y m n le lt = by_test (nat_cmp x y) x y m n refl le (less m n lt)

number_first : (a b : PlainBits) → a.number < b.number → bits_order a b ≡ Less
number_first a b lt = ap (λ o. ordering_then o (nat_cmp a.len b.len)) (less a.number b.number lt)

shorter : (width : ℕ) (a b : PlainBits) → bits_valid width a ≡ true → bits_agree width a.len a b ≡ true → a.len < b.len → bits_order a b ≡ Less
shorter width a b valid agree lt =
    let m = 2 ^ (width - a.len) in
    let same : a.number / m ≡ b.number / m = eqb-true _ _ agree in
    let e : a.number / m * m ≡ a.number = whole_of a.number m (no_rest width a valid) in
    let f : b.number / m * m ≤ b.number = at_least b.number m in
    let g : a.number / m * m ≡ b.number / m * m = ap (λ n. n * m) same in
    let le : a.number ≤ b.number = omega arith in
    later_or_longer a.number b.number a.len b.len le lt

whole : (width : ℕ) (a b : PlainBits) → bits_valid width a ≡ true → bits_valid width b ≡ true → a.len ≡ b.len → bits_agree width a.len a b ≡ true → a ≡ b
whole width a b va vb len agree =
    let m = 2 ^ (width - a.len) in
    let same : a.number / m ≡ b.number / m = eqb-true _ _ agree in
    let e : a.number / m * m ≡ a.number = whole_of a.number m (no_rest width a va) in
    let f : b.number / m * m ≡ b.number = whole_of b.number m (subst (λ n. b.number % 2 ^ (width - n) ≡ 0) (sym len) (no_rest width b vb)) in
    let g : a.number / m * m ≡ b.number / m * m = ap (λ n. n * m) same in
    both_same a b (omega arith) len

-- fewer bits are some of these
half : (x i j d : ℕ) → j ≡ i + d → x / 2 ^ j ≡ x / 2 ^ i / 2 ^ d
half x i j d e = ap (λ n. x / 2 ^ n) e ∙ sym (shr-shr x i d)

fewer : (width m n : ℕ) (a b : PlainBits) → m ≤ n → bits_agree width n a b ≡ true → bits_agree width m a b ≡ true
fewer width m n a b le agree =
    let i = width - n in
    let j = width - m in
    let d = j - i in
    let e : j ≡ i + d = omega arith in
    let same : a.number / 2 ^ i ≡ b.number / 2 ^ i = eqb-true _ _ agree in
    eq-eqb _ _ (half a.number i j d e ∙ ap (λ n. n / 2 ^ d) same ∙ sym (half b.number i j d e))

symbols_agree : (width n : ℕ) (a b : PlainBits) → bits_agree width (n + 1) a b ≡ true → bit_at_place width a n ≡ bit_at_place width b n
symbols_agree width n a b agree =
    let i : width - (n + 1) ≡ width - 1 - n = omega arith in
    let same : a.number / 2 ^ (width - (n + 1)) ≡ b.number / 2 ^ (width - (n + 1)) = eqb-true _ _ agree in
    ap (λ k. a.number / 2 ^ k % 2) (sym i) ∙ ap (λ x. x % 2) same ∙ ap (λ k. b.number / 2 ^ k % 2) i

-- of two numbers with the same first bits, the one with the greater next bit is greater
next_bit : (x y k i : ℕ) → k ≡ i + 1 → x / 2 ^ k ≡ y / 2 ^ k → x / 2 ^ i % 2 < y / 2 ^ i % 2 → x / 2 ^ i < y / 2 ^ i
next_bit x y k i e same lt =
    let p : x / 2 ^ k ≡ x / 2 ^ i / 2 = half x i k 1 e in
    let q : y / 2 ^ k ≡ y / 2 ^ i / 2 = half y i k 1 e in
    let halves : x / 2 ^ i / 2 ≡ y / 2 ^ i / 2 = sym p ∙ same ∙ q in
    omega (arith, div-add-mod' (x / 2 ^ i) 2, div-add-mod' (y / 2 ^ i) 2)

by_width : (k i x y : ℕ) → (k ≡ i + 1) ⊎ ((k ≡ 0) × (i ≡ 0)) → x / 2 ^ k ≡ y / 2 ^ k → x / 2 ^ i % 2 < y / 2 ^ i % 2 → x / 2 ^ i < y / 2 ^ i
by_width k i x y (inl e) same lt = next_bit x y k i e same lt
by_width k i x y (inr e) same lt =
    let here : x / 2 ^ i ≡ y / 2 ^ i = ap (λ n. x / 2 ^ n) (e.1 ∙ sym e.0) ∙ same ∙ ap (λ n. y / 2 ^ n) (e.0 ∙ sym e.1) in
    let bits : x / 2 ^ i % 2 ≡ y / 2 ^ i % 2 = ap (λ n. n % 2) here in
    absurd (omega arith)

some_width : (width n : ℕ) → (width - n ≡ (width - 1 - n) + 1) ⊎ ((width - n ≡ 0) × (width - 1 - n ≡ 0))
some_width width n = grind arith

rise : (width n : ℕ) (a b : PlainBits) → bits_agree width n a b ≡ true → bit_at_place width a n < bit_at_place width b n → bits_order a b ≡ Less
rise width n a b agree lt =
    let same : a.number / 2 ^ (width - n) ≡ b.number / 2 ^ (width - n) = eqb-true _ _ agree in
    let k = width - n in
    let i = width - 1 - n in
    number_first a b (less_by_rest (2 ^ i) a.number b.number (pow_pos i) (by_width k i a.number b.number (some_width width n) same lt))

pub bits_laws : (width : ℕ) → KeyLaws (bits_keys width)
bits_laws width = record {
  total = order_total;
  same = λ a b e. both_same a b (same_number a.number b.number (then_first _ _ e)) (same_number a.len b.len (then_second (nat_cmp a.number b.number) _ e));
  whole = whole width;
  shorter_first = shorter width;
  symbols_rise = rise width;
  itself = λ n a. eq-eqb _ _ refl;
  back = λ n a b h. eq-eqb _ _ (sym (eqb-true _ _ h));
  along = λ n a b c g h. eq-eqb _ _ (eqb-true _ _ g ∙ eqb-true _ _ h);
  fewer = fewer width;
  narrow = at_most width;
  symbols_agree = symbols_agree width;
}

pub bits_binary : (width : ℕ) (a : PlainBits) (place : ℕ) → bit_at_place width a place < 2
bits_binary width a place = omega arith
