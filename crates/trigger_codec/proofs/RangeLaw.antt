-- What is read from labels is in its range.
use Rattle.std.proofs.Common.{◌≡◌, ℕ, zero, suc, ◌-◌, ◌<◌, ◌≤◌, ◌^◌, List, [], ◌∷◌, ◌++◌, length, replicate, Bool, true, false, ◌&&◌, Option, Some, None, refl, ap, subst, ◌∙◌, arith, length-append}
use Rattle.std.specs.Prelude.{if◌then◌else◌, ◌==◌, nat_lt, nat_le}
use Rattle.std.specs.Char.{is_ascii_digit, is_ascii_hexdigit}
use Rattle.std.specs.List.{list_all, list_any, count_by, AllByRecursion}
use Rattle.std.specs.Str.Parse.{digits_value}
use Rattle.std.proofs.Math.Nat.{pow-le-pow_right}
use Rattle.std.proofs.lemmas.Bool.{and_parts, eqb-true}
use Rattle.std.proofs.lemmas.Bool.Decides.{nat_tests}
use Rattle.std.proofs.lemmas.List.{length-replicate}
use Rattle.ip_prefix.specs.declared.Addr.{Addr}
use Rattle.ip_prefix.specs.declared.Addr.TheVariants.{V4, V6}
use Rattle.trigger_codec.specs.Address.{digits_read, at_most_255, byte_read, word_read, is_zz, both, single, bytes_read, words_read, from_lowest, v4_of, v6_of, address_read}
use Rattle.trigger_codec.specs.Words.{word_count}
use Rattle.trigger_codec.proofs.AddressLaw.{from_lowest-lt}
use Rattle.trigger_codec.proofs.DigitLemmas.{word_below}
use Rattle.trigger_codec.proofs.ShortLemmas.{IsBelow, all-append}
use Rattle.trigger_codec.proofs.WordLemmas.{eight_words, count_is}

-- both lists are there
record Parts (x y : Option (List ℕ)) (whole : List ℕ) : Type 0 where
  front : List ℕ
  back : List ℕ
  first : x ≡ Some front
  second : y ≡ Some back
  is : front ++ back ≡ whole

parts_of : (x y : Option (List ℕ)) (whole : List ℕ) → both x y ≡ Some whole → Parts x y whole
parts_of (Some xs) (Some ys) whole h = record { front = xs; back = ys; first = refl; second = refl; is = cc }
parts_of (Some xs) None whole h = absurd cc
parts_of None y whole h = absurd cc

byte_case : (b : Bool) (value n : ℕ) → (b ≡ false → value ≤ 255) → (if b then None else Some value) ≡ Some n → n < 256
byte_case true value n f h = absurd cc
byte_case false value n f h = let e : value ≡ n = cc in omega (arith, f refl)

low_enough : (value : ℕ) → nat_lt 255 value ≡ false → value ≤ 255
low_enough value h = grind (arith, nat_tests)

byte_range : (o : Option ℕ) (n : ℕ) → at_most_255 o ≡ Some n → n < 256
byte_range None n h = absurd cc
byte_range (Some value) n h = byte_case (nat_lt 255 value) value n (low_enough value) h

word_case : (b : Bool) (value n : ℕ) → (b ≡ true → value < 65536) → (if b then Some value else None) ≡ Some n → n < 65536
word_case true value n f h = let e : value ≡ n = cc in omega (arith, f refl)
word_case false value n f h = absurd cc

at_most : (n m : ℕ) → nat_le n m ≡ true → n ≤ m
at_most n m h = grind (arith, nat_tests)

word_range : (label : List ℕ) (n : ℕ) → word_read label ≡ Some n → n < 65536
word_range label n h =
    word_case (nat_lt 0 (length label) && nat_le (length label) 4 && list_all is_ascii_hexdigit label) (digits_value 16 label) n
    (λ t. let p = and_parts _ _ t in let q = and_parts _ _ p.0 in word_below label p.1 (at_most (length label) 4 q.1)) h

-- what holds of one digit
one_digit : (base : ℕ) (o : Option ℕ) (front : List ℕ) → ((n : ℕ) → o ≡ Some n → n < base) → single o ≡ Some front → AllByRecursion (IsBelow base) front × (length front ≡ 1)
one_digit base None front f h = absurd cc
one_digit base (Some n) front f h = let e : n ∷ [] ≡ front = cc in subst (λ (ds : List ℕ). AllByRecursion (IsBelow base) ds × (length ds ≡ 1)) e ((f n refl, tt), refl)

zeros_below : (n : ℕ) → AllByRecursion (IsBelow 65536) (replicate n 0)
zeros_below zero = tt
zeros_below (suc n) = (omega arith, zeros_below n)

bytes_range : (labels : List (List ℕ)) (bytes : List ℕ) → bytes_read labels ≡ Some bytes → AllByRecursion (IsBelow 256) bytes × (length bytes ≡ length labels)
bytes_range [] bytes h = let e : [] ≡ bytes = cc in subst (λ (ds : List ℕ). AllByRecursion (IsBelow 256) ds × (length ds ≡ 0)) e (tt, refl)
bytes_range (label ∷ labels) bytes h =
    let p = parts_of (single (byte_read label)) (bytes_read labels) bytes h in
    let one = one_digit 256 (byte_read label) p.front (λ n e. byte_range (digits_read 3 10 is_ascii_digit label) n e) p.first in
    let rest = bytes_range labels p.back p.second in
    (subst (AllByRecursion (IsBelow 256)) p.is (all-append (IsBelow 256) p.front p.back one.0 rest.0), omega (arith, one.1, rest.1, ap length p.is, length-append p.front p.back))

label_case : (b : Bool) (missing : ℕ) (o : Option ℕ) (front : List ℕ) → ((n : ℕ) → o ≡ Some n → n < 65536) → (if b then Some (replicate missing 0) else single o) ≡ Some front → AllByRecursion (IsBelow 65536) front × (length front ≡ (if b then missing else 1))
label_case true missing o front f h = let e : replicate missing 0 ≡ front = cc in subst (λ (ds : List ℕ). AllByRecursion (IsBelow 65536) ds × (length ds ≡ missing)) e (zeros_below missing, length-replicate missing 0)
label_case false missing o front f h = one_digit 65536 o front f h

words_range : (missing : ℕ) (labels : List (List ℕ)) (words : List ℕ) → words_read missing labels ≡ Some words → AllByRecursion (IsBelow 65536) words × (length words ≡ word_count missing labels)
words_range missing [] words h = let e : [] ≡ words = cc in subst (λ (ds : List ℕ). AllByRecursion (IsBelow 65536) ds × (length ds ≡ 0)) e (tt, refl)
words_range missing (label ∷ labels) words h =
    let p = parts_of (if is_zz label then Some (replicate missing 0) else single (word_read label)) (words_read missing labels) words h in
    let one = label_case (is_zz label) missing (word_read label) p.front (word_range label) p.first in
    let rest = words_range missing labels p.back p.second in
    (subst (AllByRecursion (IsBelow 65536)) p.is (all-append (IsBelow 65536) p.front p.back one.0 rest.0), omega (arith, one.1, rest.1, ap length p.is, length-append p.front p.back))

-- the number of an address has its bits
abbrev pub HasWidth : Addr → Type 0
HasWidth (V4 number) = number < 2 ^ 32
HasWidth (V6 number) = number < 2 ^ 128

v4_range : (o : Option (List ℕ)) (addr : Addr) → ((bytes : List ℕ) → o ≡ Some bytes → from_lowest 256 bytes < 2 ^ 32) → v4_of o ≡ Some addr → HasWidth addr
v4_range None addr f h = absurd cc
v4_range (Some bytes) addr f h = let e : V4 (from_lowest 256 bytes) ≡ addr = cc in subst HasWidth e (f bytes refl)

v6_range : (o : Option (List ℕ)) (addr : Addr) → ((words : List ℕ) → o ≡ Some words → from_lowest 65536 words < 2 ^ 128) → v6_of o ≡ Some addr → HasWidth addr
v6_range None addr f h = absurd cc
v6_range (Some words) addr f h = let e : V6 (from_lowest 65536 words) ≡ addr = cc in subst HasWidth e (f words refl)

four_fit : (bytes : List ℕ) → AllByRecursion (IsBelow 256) bytes → length bytes ≡ 4 → from_lowest 256 bytes < 2 ^ 32
four_fit bytes h len =
    let e : 256 ^ length bytes ≡ 4294967296 = ap (λ (n : ℕ). 256 ^ n) len in
    omega (arith, e, from_lowest-lt 256 bytes (omega arith) h)

eight_fit : (words : List ℕ) → AllByRecursion (IsBelow 65536) words → length words ≤ 8 → from_lowest 65536 words < 2 ^ 128
eight_fit words h few =
    let some : 0 < 65536 = omega arith in
    let bound : 65536 ^ length words ≤ 65536 ^ 8 = pow-le-pow_right some few in
    omega (arith, bound, from_lowest-lt 65536 words some h)

address_case : (b1 b2 b3 b4 : Bool) (x y z : Option Addr) (addr : Addr) → (b2 ≡ true → x ≡ Some addr → HasWidth addr) → (b3 ≡ true → y ≡ Some addr → HasWidth addr) → (b4 ≡ true → z ≡ Some addr → HasWidth addr)
    → (if b1 then (if b2 then x else None) else (if b3 then y else (if b4 then z else None))) ≡ Some addr → HasWidth addr
address_case true true b3 b4 x y z addr f g k h = f refl h
address_case true false b3 b4 x y z addr f g k h = absurd cc
address_case false b2 true b4 x y z addr f g k h = g refl h
address_case false b2 false true x y z addr f g k h = k refl h
address_case false b2 false false x y z addr f g k h = absurd cc

with_zz : (labels : List (List ℕ)) (addr : Addr) → (count_by is_zz labels == 1 && nat_le (length labels) 8) ≡ true → v6_of (words_read (9 - length labels) labels) ≡ Some addr → HasWidth addr
with_zz labels addr t h =
    let p = and_parts _ _ t in
    let one : count_by is_zz labels ≡ 1 = eqb-true (count_by is_zz labels) 1 p.0 in
    let eight : word_count (9 - length labels) labels ≡ 8 = eight_words labels one (at_most (length labels) 8 p.1) in
    v6_range (words_read (9 - length labels) labels) addr (λ words e. let r = words_range (9 - length labels) labels words e in eight_fit words r.0 (omega (arith, r.1, eight))) h

four_labels : (labels : List (List ℕ)) (addr : Addr) → (length labels == 4) ≡ true → v4_of (bytes_read labels) ≡ Some addr → HasWidth addr
four_labels labels addr t h =
    let len : length labels ≡ 4 = eqb-true (length labels) 4 t in
    v4_range (bytes_read labels) addr (λ bytes e. let r = bytes_range labels bytes e in four_fit bytes r.0 (r.1 ∙ len)) h

eight_labels : (labels : List (List ℕ)) (addr : Addr) → (length labels == 8) ≡ true → v6_of (words_read 0 labels) ≡ Some addr → HasWidth addr
eight_labels labels addr t h =
    let len : length labels ≡ 8 = eqb-true (length labels) 8 t in
    v6_range (words_read 0 labels) addr (λ words e. let r = words_range 0 labels words e in eight_fit words r.0 (omega (arith, r.1, len, count_is 0 labels))) h

pub address_range : (labels : List (List ℕ)) (addr : Addr) → address_read labels ≡ Some addr → HasWidth addr
unfolding address_read
address_range labels addr h =
    address_case (list_any is_zz labels) (count_by is_zz labels == 1 && nat_le (length labels) 8) (length labels == 4) (length labels == 8) (v6_of (words_read (9 - length labels) labels)) (v4_of (bytes_read labels)) (v6_of (words_read 0 labels)) addr
    (with_zz labels addr) (four_labels labels addr) (eight_labels labels addr) h
