-- What the tests of prefixes say, bit by bit.
use Rattle.std.proofs.Common.{◌≡◌, ℕ, zero, suc, ◌+◌, ◌-◌, ◌*◌, ◌/◌, ◌%◌, ◌^◌, ◌<◌, ◌≤◌, Bool, true, false, ◌==◌, ◌||◌, nat_lt, if◌then◌else◌, Ok, Err, Result, refl, sym, ◌∙◌, ap, arith, eqb-true, eq-eqb, ◌↔◌}
use Rattle.std.specs.Int.{bit_at}
use Rattle.std.proofs.Math.Nat.{div-div-eq-div-mul, mod-lt}
use Rattle.std.proofs.Math.Pow.{shr_mod}
use Rattle.std.proofs.lemmas.Bool.{lt-ltb, ltb-true}
use Rattle.std.proofs.lemmas.Bool.Decides.{nat_tests}
use Rattle.std.proofs.lemmas.Nat.{pow_pos, pow-add, mod-pow-add, div-add-mod'}
use Rattle.std.proofs.lemmas.Nat.Bits.{bit_at-lt, bit_at-suc, bit_at_lowest, bit_at-zero, same_from_bits_below, bit_at_cat_low, bit_at_cat_high}
use Rattle.ip_prefix.specs.declared.Addr.{Addr}
use Rattle.ip_prefix.specs.declared.Addr.TheVariants.{V4, V6}
use Rattle.ip_prefix.specs.declared.prefix.PrefixFault.{PrefixFault}
use Rattle.ip_prefix.specs.declared.prefix.PrefixFault.TheVariants.{Length, HostBits}
use Rattle.ip_prefix.specs.Bits.{IsAddr, BeginAlike, HasBitBehind, IsZeroBehind, IsPrefixOf}
use Rattle.ip_prefix.specs.Prefix.{PlainPrefix, width, number_of, bit_of, agree, contains, contains_addr, has_host_bits, truncated_addr, prefix_of}

-- the bits that a division keeps
shifted : (n k i : ℕ) → bit_at (n / 2 ^ k) i ≡ bit_at n (k + i)
shifted n k i = ap (λ (m : ℕ). m % 2) (div-div-eq-div-mul n (2 ^ k) (2 ^ i) ∙ ap (λ (d : ℕ). n / d) (sym (pow-add 2 k i)))

shifted_to : (n k i : ℕ) → k ≤ i → bit_at (n / 2 ^ k) (i - k) ≡ bit_at n i
shifted_to n k i h = let e : k + (i - k) ≡ i = omega arith in shifted n k (i - k) ∙ ap (bit_at n) e

-- numbers of one quotient have the same high bits
same_high : (a b m i : ℕ) → a / 2 ^ m ≡ b / 2 ^ m → m ≤ i → bit_at a i ≡ bit_at b i
same_high a b m i e h = sym (shifted_to a m i h) ∙ ap (λ (n : ℕ). bit_at n (i - m)) e ∙ shifted_to b m i h

high_below : (a l m : ℕ) → a < 2 ^ (l + m) → a / 2 ^ m < 2 ^ l
high_below a l m small =
    let e : a / 2 ^ m % 2 ^ l ≡ a / 2 ^ m = shr_mod l m small in
    let h : a / 2 ^ m % 2 ^ l < 2 ^ l = mod-lt (a / 2 ^ m) (pow_pos l) in
    rw e at h

-- numbers with the same high bits are of one quotient
same_quotient : (a b l m : ℕ) → a < 2 ^ (l + m) → b < 2 ^ (l + m) → ((i : ℕ) → m ≤ i → i < l + m → bit_at a i ≡ bit_at b i) → a / 2 ^ m ≡ b / 2 ^ m
same_quotient a b l m few less same =
    same_from_bits_below l (a / 2 ^ m) (b / 2 ^ m) (high_below a l m few) (high_below b l m less)
    (λ i h. shifted a m i ∙ same (m + i) (omega arith) (omega arith) ∙ sym (shifted b m i))

-- bits whose tests are the same
same_bit : (x y : ℕ) → x < 2 → y < 2 → (x == 1) ≡ (y == 1) → x ≡ y
same_bit zero zero few less e = refl
same_bit zero (suc zero) few less e = absurd cc
same_bit (suc zero) zero few less e = absurd cc
same_bit (suc zero) (suc zero) few less e = refl
same_bit x y few less e = absurd (omega arith)

-- the place of a bit, counted from the highest, and its exponent
turned : (w i : ℕ) → i < w → w - 1 - (w - 1 - i) ≡ i
turned w i h = omega arith

abbrev SameFirst : ℕ → ℕ → ℕ → ℕ → Type 0
SameFirst w length a b = (place : ℕ) → place < length → (bit_at a (w - 1 - place) == 1) ≡ (bit_at b (w - 1 - place) == 1)

first_agree : (w length a b : ℕ) → length ≤ w → agree w length a b ≡ true → SameFirst w length a b
first_agree w length a b within h place lt = ap (λ (n : ℕ). n == 1) (same_high a b (w - length) (w - 1 - place) (eqb-true _ _ h) (omega arith))

agree_by_first : (w length a b : ℕ) → length ≤ w → a < 2 ^ w → b < 2 ^ w → SameFirst w length a b → agree w length a b ≡ true
agree_by_first w length a b within few less same =
    let all : length + (w - length) ≡ w = omega arith in
    eq-eqb _ _ (same_quotient a b length (w - length) (rw all few) (rw all less)
    (λ i low high.
    let lt : i < w = omega arith in
    let bits : (bit_at a (w - 1 - (w - 1 - i)) == 1) ≡ (bit_at b (w - 1 - (w - 1 - i)) == 1) = same (w - 1 - i) (omega arith) in
    same_bit (bit_at a i) (bit_at b i) (bit_at-lt a i) (bit_at-lt b i) (rw (turned w i lt) at bits)))

pub contains_alike : (p : PlainPrefix) (a : Addr) → p.length ≤ width p.addr → IsAddr p.addr → IsAddr a → (contains p a ≡ true) ↔ BeginAlike p.length p.addr a
contains_alike p a within few less = addr_alike p.addr p.length a within few less
  where
    addr_alike : (of : Addr) (length : ℕ) (a : Addr) → length ≤ width of → IsAddr of → IsAddr a → (contains_addr of length a ≡ true) ↔ BeginAlike length of a
    addr_alike (V4 n) length (V4 m) within few less = (
      (λ h. record { same_family = refl; same_bits = first_agree 32 length n m within h }),
      (λ b. agree_by_first 32 length n m within few less b.same_bits),
    )
    addr_alike (V6 n) length (V6 m) within few less = (
      (λ h. record { same_family = refl; same_bits = first_agree 128 length n m within h }),
      (λ b. agree_by_first 128 length n m within few less b.same_bits),
    )
    addr_alike (V4 n) length (V6 m) within few less = ((λ h. absurd cc), (λ b. absurd (let e = b.same_family in cc)))
    addr_alike (V6 n) length (V4 m) within few less = ((λ h. absurd cc), (λ b. absurd (let e = b.same_family in cc)))

-- a rest that isn't 0 has a bit
record LowBit (m n : ℕ) : Type 0 where
  exponent : ℕ
  low : exponent < m
  is_set : bit_at n exponent ≡ 1

low_by : (m n : ℕ) → (0 < n / 2 % 2 ^ m → LowBit m (n / 2)) → n % 2 ^ suc m ≡ (n / 2 % 2 ^ m) * 2 + n % 2 → 0 < n % 2 ^ suc m → (last : ℕ) → n % 2 ≡ last → LowBit (suc m) n
low_by m n below split h zero e =
    let b = below (omega (arith, split, e, h)) in
    record { exponent = suc b.exponent; low = omega (arith, b.low); is_set = bit_at-suc n b.exponent ∙ b.is_set }
low_by m n below split h (suc zero) e = record { exponent = 0; low = omega arith; is_set = bit_at_lowest n ∙ e }
low_by m n below split h (suc (suc last)) e = absurd (omega (arith, e))

last_bit : (m n : ℕ) → n % 2 ^ suc m ≡ (n / 2 % 2 ^ m) * 2 + n % 2
last_bit m n = let e : m + 1 ≡ suc m = omega arith in sym (ap (λ (k : ℕ). n % 2 ^ k) e) ∙ mod-pow-add n m 1

low_bit : (m n : ℕ) → 0 < n % 2 ^ m → LowBit m n
low_bit zero n h = absurd (omega (arith, h))
low_bit (suc m) n h = low_by m n (low_bit m (n / 2)) (last_bit m n) h (n % 2) refl

-- the low bits are those of the rest
low_of_rest : (m n i : ℕ) → i < m → bit_at n i ≡ bit_at (n % 2 ^ m) i
low_of_rest m n i h =
    let e : n ≡ n / 2 ^ m * 2 ^ m + n % 2 ^ m = omega (arith, div-add-mod' n (2 ^ m)) in
    ap (λ (k : ℕ). bit_at k i) e ∙ bit_at_cat_low (n / 2 ^ m) m (n % 2 ^ m) i h

rest_of_bit : (m n i rest : ℕ) → n % 2 ^ m ≡ rest → i < m → bit_at n i ≡ 1 → 0 < rest
rest_of_bit m n i zero e h one = let z : bit_at n i ≡ 0 = low_of_rest m n i h ∙ ap (λ (k : ℕ). bit_at k i) e ∙ bit_at-zero i in absurd (omega (arith, z, one))
rest_of_bit m n i (suc rest) e h one = omega arith

pub host_bits : (a : Addr) (length : ℕ) → length ≤ width a → (has_host_bits a length ≡ true) ↔ HasBitBehind length a
host_bits a length within = (
  (λ h.
      let b = low_bit (width a - length) (number_of a) (ltb-true _ _ h) in
      let low : b.exponent < width a = omega (arith, b.low) in
      record {
        place = width a - 1 - b.exponent;
        behind = omega (arith, b.low, within);
        within = omega (arith, low);
        is_set = eq-eqb _ _ (rw (turned (width a) b.exponent low) b.is_set);
      }),
  (λ b. lt-ltb _ _ (rest_of_bit (width a - length) (number_of a) (width a - 1 - b.place) _ refl (omega (arith, b.behind, b.within, within)) (eqb-true _ _ b.is_set))),
)

-- the bits of a number whose low bits are cleared
cleared_is : (n m : ℕ) → n - n % 2 ^ m ≡ n / 2 ^ m * 2 ^ m + 0
cleared_is n m = omega (arith, div-add-mod' n (2 ^ m))

cleared_low : (n m i : ℕ) → i < m → bit_at (n - n % 2 ^ m) i ≡ 0
cleared_low n m i h = ap (λ (k : ℕ). bit_at k i) (cleared_is n m) ∙ bit_at_cat_low (n / 2 ^ m) m 0 i h ∙ bit_at-zero i

cleared_high : (n m i : ℕ) → m ≤ i → bit_at (n - n % 2 ^ m) i ≡ bit_at n i
cleared_high n m i h = ap (λ (k : ℕ). bit_at k i) (cleared_is n m) ∙ bit_at_cat_high (n / 2 ^ m) m 0 i (pow_pos m) h ∙ shifted_to n m i h

first_kept : (w length n : ℕ) → length ≤ w → SameFirst w length (n - n % 2 ^ (w - length)) n
first_kept w length n within place lt = ap (λ (k : ℕ). k == 1) (cleared_high n (w - length) (w - 1 - place) (omega arith))

pub begins_alike : (a : Addr) (length : ℕ) → length ≤ width a → BeginAlike length (truncated_addr a length) a
begins_alike (V4 n) length within = record { same_family = refl; same_bits = first_kept 32 length n within }
begins_alike (V6 n) length within = record { same_family = refl; same_bits = first_kept 128 length n within }

zero_behind : (w length n place : ℕ) → length ≤ place → place < w → (bit_at (n - n % 2 ^ (w - length)) (w - 1 - place) == 1) ≡ false
zero_behind w length n place behind within = ap (λ (k : ℕ). k == 1) (cleared_low n (w - length) (w - 1 - place) (omega arith))

pub zeros_behind : (a : Addr) (length : ℕ) → IsZeroBehind length (truncated_addr a length)
zeros_behind (V4 n) length place behind within = zero_behind 32 length n place behind within
zeros_behind (V6 n) length place behind within = zero_behind 128 length n place behind within

-- what makes a prefix
abbrev chosen : Bool → Bool → PlainPrefix → Result PlainPrefix PrefixFault
chosen is_long has_bits p = if is_long then Err Length else (if has_bits then Err HostBits else Ok p)

record Chosen (is_long has_bits : Bool) (q p : PlainPrefix) : Type 0 where
  short : is_long ≡ false
  clear : has_bits ≡ false
  same : p ≡ q

chosen_is : (is_long has_bits : Bool) (q p : PlainPrefix) → chosen is_long has_bits q ≡ Ok p → Chosen is_long has_bits q p
chosen_is true has_bits q p e = absurd cc
chosen_is false true q p e = absurd cc
chosen_is false false q p e = record { short = refl; clear = refl; same = cc }

chosen_by : (is_long has_bits : Bool) (q p : PlainPrefix) → is_long ≡ false → has_bits ≡ false → p ≡ q → chosen is_long has_bits q ≡ Ok p
chosen_by is_long has_bits q p short clear same = rw (short, clear, same) refl

in_bounds : (length bits : ℕ) → (length == 0 || nat_lt bits length) ≡ false → (1 ≤ length) × (length ≤ bits)
in_bounds length bits short = (grind (arith, nat_tests), grind (arith, nat_tests))

bounds_fit : (length bits : ℕ) → 1 ≤ length → length ≤ bits → (length == 0 || nat_lt bits length) ≡ false
bounds_fit length bits some within = grind (arith, nat_tests)

not_set : (b : Bool) → (b ≡ true → ⊥) → b ≡ false
not_set true h = absurd (h refl)
not_set false h = refl

pub made_of : (a : Addr) (length : ℕ) (p : PlainPrefix) → (prefix_of a length ≡ Ok p) ↔ IsPrefixOf a length p
made_of a length p = (
  (λ e.
      let c = chosen_is _ _ _ p e in
      let bounds = in_bounds length (width a) c.short in
      record {
        some = bounds.0;
        within = bounds.1;
        zeros = λ place behind within.
            not_set (bit_of a place) (λ is_set.
            let has : has_host_bits a length ≡ true = (host_bits a length bounds.1).1 (record { place = place; behind = behind; within = within; is_set = is_set }) in
            let clear = c.clear in
            cc);
        is_pair = c.same;
      }),
  (λ is. chosen_by _ _ _ p (bounds_fit length (width a) is.some is.within)
      (not_set (has_host_bits a length) (λ has.
      let b = (host_bits a length is.within).0 has in
      let clear : bit_of a b.place ≡ false = is.zeros b.place b.behind b.within in
      let is_set : bit_of a b.place ≡ true = b.is_set in
      cc))
      is.is_pair),
)
