-- An address is read back from its labels.
use Rattle.std.proofs.Common.{◌≡◌, ℕ, zero, suc, ◌+◌, ◌-◌, ◌*◌, ◌/◌, ◌%◌, ◌<◌, ◌≤◌, ◌^◌, List, [], ◌∷◌, ◌++◌, length, take, drop, replicate, map, reverse, Bool, true, false, cond, eqb, Option, Some, refl, sym, ap, ◌∙◌, append_assoc, arith, length-append}
use Rattle.std.specs.Prelude.{codes, if◌then◌else◌, ◌==◌, nat_lt, nat_le}
use Rattle.std.specs.Char.{to_ascii_lowercase, is_ascii_digit, is_ascii_hexdigit}
use Rattle.std.specs.Fmt.{decimal}
use Rattle.std.specs.List.{list_all, list_any, count_by, AllByRecursion}
use Rattle.std.proofs.Math.Nat.{mul-le-mul_left, div-lt_iff_lt-mul, pow-suc, pow-succ', pow-zero}
use Rattle.std.proofs.lemmas.Bool.{and_parts, eqb-true}
use Rattle.std.proofs.lemmas.Bool.Decides.{nat_tests}
use Rattle.std.proofs.lemmas.List.{map-append, reverse-append, reverse-reverse, length-reverse, length-map, length-take, length-drop, take-append-drop, drop-drop, replicate_more}
use Rattle.trigger_codec.specs.Address.{digits_read, at_most_255, byte_read, word_read, is_zz, both, bytes_read, words_read, from_lowest, v4_of, v6_of, address_read}
use Rattle.trigger_codec.specs.Canonical.{Run, zeros_first, longest_run, lowest_digits, hexadecimal, word_labels}
use Rattle.trigger_codec.proofs.NumeralLemmas.{Writes, decimal_writes, hexadecimal_writes}
use Rattle.trigger_codec.proofs.ShortLemmas.{IsBelow, all-take, all-drop, all-reverse, digits_below, length-lowest}
use Rattle.trigger_codec.proofs.WordLemmas.{zz_address, count_by-cons}
use Rattle.trigger_codec.proofs.RunLemmas.{longest_within}
use Rattle.ip_prefix.specs.declared.Addr.{Addr}
use Rattle.ip_prefix.specs.declared.Addr.TheVariants.{V4, V6}

-- a label of digits is read
pub written_read : (most base : ℕ) (p : ℕ → Bool) (n : ℕ) (label : List ℕ) → Writes most base p n label → digits_read most base p label ≡ Some n
written_read most base p n label w =
    let some : nat_lt 0 (length label) ≡ true = (let h = w.some in grind (arith, nat_tests)) in
    let few : nat_le (length label) most ≡ true = (let h = w.few in grind (arith, nat_tests)) in
    rw (some, few, w.digits, w.value) refl

pub byte_back : (n : ℕ) → IsBelow 256 n → byte_read (decimal n) ≡ Some n
byte_back n h =
    let test : nat_lt 255 n ≡ false = grind (arith, nat_tests) in
    ap at_most_255 (written_read 3 10 is_ascii_digit n (decimal n) (decimal_writes n (omega arith))) ∙ rw test refl

pub word_back : (n : ℕ) → IsBelow 65536 n → word_read (hexadecimal n) ≡ Some n
word_back n h = written_read 4 16 is_ascii_hexdigit n (hexadecimal n) (hexadecimal_writes n h)

-- digits are no `zz`
no_z : (c : ℕ) → is_ascii_hexdigit c ≡ true → eqb (to_ascii_lowercase c) 122 ≡ false
no_z c h = grind (arith, nat_tests)

decimal_hex : (c : ℕ) → is_ascii_digit c ≡ true → is_ascii_hexdigit c ≡ true
decimal_hex c h = grind (arith, nat_tests)

begins_no_z : (c : ℕ) (cs : List ℕ) → eqb (to_ascii_lowercase c) 122 ≡ false → is_zz (c ∷ cs) ≡ false
begins_no_z c cs h = rw h refl

pub hex_no_zz : (label : List ℕ) → 1 ≤ length label → list_all is_ascii_hexdigit label ≡ true → is_zz label ≡ false
hex_no_zz [] some h = absurd (omega arith)
hex_no_zz (c ∷ cs) some h = begins_no_z c cs (no_z c (and_parts _ _ h).0)

decimal_no_zz : (label : List ℕ) → 1 ≤ length label → list_all is_ascii_digit label ≡ true → is_zz label ≡ false
decimal_no_zz [] some h = absurd (omega arith)
decimal_no_zz (c ∷ cs) some h = begins_no_z c cs (no_z c (decimal_hex c (and_parts _ _ h).0))

byte_no_zz : (n : ℕ) → IsBelow 256 n → is_zz (decimal n) ≡ false
byte_no_zz n h = let w = decimal_writes n (omega arith) in decimal_no_zz (decimal n) w.some w.digits

word_no_zz : (n : ℕ) → IsBelow 65536 n → is_zz (hexadecimal n) ≡ false
word_no_zz n h = let w = hexadecimal_writes n h in hex_no_zz (hexadecimal n) w.some w.digits

-- bytes and words as labels
bytes_back : (bytes : List ℕ) → AllByRecursion (IsBelow 256) bytes → bytes_read (map decimal bytes) ≡ Some bytes
bytes_back [] h = refl
bytes_back (n ∷ ns) h = rw (byte_back n h.0, bytes_back ns h.1) refl

no_bytes_zz : (bytes : List ℕ) → AllByRecursion (IsBelow 256) bytes → list_any is_zz (map decimal bytes) ≡ false
no_bytes_zz [] h = refl
no_bytes_zz (n ∷ ns) h = rw (byte_no_zz n h.0, no_bytes_zz ns h.1) refl

no_words_zz : (words : List ℕ) → AllByRecursion (IsBelow 65536) words → list_any is_zz (map hexadecimal words) ≡ false
no_words_zz [] h = refl
no_words_zz (n ∷ ns) h = rw (word_no_zz n h.0, no_words_zz ns h.1) refl

words_word : (missing n : ℕ) (rest : List (List ℕ)) → IsBelow 65536 n → words_read missing (hexadecimal n ∷ rest) ≡ both (Some (n ∷ [])) (words_read missing rest)
words_word missing n rest h = rw (word_no_zz n h, word_back n h) refl

words_back : (missing : ℕ) (words : List ℕ) → AllByRecursion (IsBelow 65536) words → words_read missing (map hexadecimal words) ≡ Some words
words_back missing [] h = refl
words_back missing (n ∷ ns) h = words_word missing n (map hexadecimal ns) h.0 ∙ ap (both (Some (n ∷ []))) (words_back missing ns h.1)

-- words, a `zz` and words
run_back : (missing : ℕ) (low high : List ℕ) → AllByRecursion (IsBelow 65536) low → AllByRecursion (IsBelow 65536) high → words_read missing (map hexadecimal low ++ codes "zz" ∷ map hexadecimal high) ≡ Some (low ++ (replicate missing 0 ++ high))
run_back missing [] high l h = ap (both (Some (replicate missing 0))) (words_back missing high h)
run_back missing (n ∷ ns) high l h = words_word missing n (map hexadecimal ns ++ codes "zz" ∷ map hexadecimal high) l.0 ∙ ap (both (Some (n ∷ []))) (run_back missing ns high l.1 h)

-- a number is read back from its digits
digit_step : (base count number rest : ℕ) → 0 < base → rest ≡ number / base → number % base + base * rest ≡ number
digit_step base count number rest some h = ap (λ (n : ℕ). number % base + base * n) h ∙ omega arith

quotient_below : (base count number : ℕ) → 0 < base → number < base ^ suc count → number / base < base ^ count
quotient_below base count number some h = (div-lt_iff_lt-mul some).1 (omega (arith, h, pow-suc base count))

pub number_back : (count base number : ℕ) → 0 < base → number < base ^ count → from_lowest base (lowest_digits count base number) ≡ number
number_back zero base number some h = omega (arith, h, pow-zero base)
number_back (suc count) base number some h = digit_step base count number (from_lowest base (lowest_digits count base (number / base))) some (number_back count base (number / base) some (quotient_below base count number some h))

pub from_lowest-lt : (base : ℕ) (digits : List ℕ) → 0 < base → AllByRecursion (IsBelow base) digits → from_lowest base digits < base ^ length digits
from_lowest-lt base [] some h = omega (arith, pow-zero base)
from_lowest-lt base (d ∷ ds) some h =
    let rest : from_lowest base ds + 1 ≤ base ^ length ds = omega (arith, from_lowest-lt base ds some h.1) in
    let product : base * (from_lowest base ds + 1) ≤ base * base ^ length ds = mul-le-mul_left base rest in
    omega (arith, h.0, product, pow-succ' base (length ds))

-- the run is of zeros
pub record IsRun (place : ℕ) (words : List ℕ) (run : Run) : Type 0 where
  pub from : place ≤ run.place
  pub zeros : take run.long (drop (run.place - place) words) ≡ replicate run.long 0

abbrev zeros : ℕ → List ℕ
zeros n = replicate n 0

zeros_case : (b : Bool) (word n : ℕ) (words : List ℕ) → (b ≡ true → word ≡ 0) → take n words ≡ replicate n 0 → take (if b then n + 1 else 0) (word ∷ words) ≡ replicate (if b then n + 1 else 0) 0
zeros_case true word n words h k =
    let e : n + 1 ≡ suc n = omega arith in
    ap (λ (m : ℕ). take m (word ∷ words)) e ∙ ap (λ (w : ℕ). w ∷ take n words) (h refl) ∙ ap (λ (ws : List ℕ). 0 ∷ ws) k ∙ sym (ap zeros e)
zeros_case false word n words h k = refl

zeros_are : (words : List ℕ) → take (zeros_first words) words ≡ replicate (zeros_first words) 0
zeros_are [] = refl
zeros_are (word ∷ words) = zeros_case (word == 0) word (zeros_first words) words (eqb-true word 0) (zeros_are words)

run_case : (b : Bool) (place : ℕ) (words : List ℕ) (first other : Run) → IsRun place words first → IsRun place words other → IsRun place words (if b then other else first)
run_case true place words first other f o = o
run_case false place words first other f o = f

run_later : (place word : ℕ) (words : List ℕ) (run : Run) → IsRun (place + 1) words run → IsRun place (word ∷ words) run
run_later place word words run r =
    let more : run.place - place ≡ suc (run.place - (place + 1)) = (let h = r.from in omega arith) in
    record { from = (let h = r.from in omega arith); zeros = ap (λ (n : ℕ). take run.long (drop n (word ∷ words))) more ∙ r.zeros }

run_first : (place : ℕ) (words : List ℕ) → IsRun place words (record { place = place; long = zeros_first words })
run_first place words =
    let none : place - place ≡ 0 = omega arith in
    record { from = omega arith; zeros = ap (λ (n : ℕ). take (zeros_first words) (drop n words)) none ∙ zeros_are words }

pub longest_zeros : (place : ℕ) (words : List ℕ) → IsRun place words (longest_run place words)
longest_zeros place [] = record { from = omega arith; zeros = refl }
longest_zeros place (word ∷ words) =
    let first : Run = record { place = place; long = zeros_first (word ∷ words) } in
    let other : Run = longest_run (place + 1) words in
    run_case (nat_lt first.long other.long) place (word ∷ words) first other (run_first place (word ∷ words)) (run_later place word words other (longest_zeros (place + 1) words))

reverse-zeros : (n : ℕ) → reverse (zeros n) ≡ zeros n
reverse-zeros zero = refl
reverse-zeros (suc n) =
    let e : n + 1 ≡ suc n = omega arith in
    reverse-append (0 ∷ []) (zeros n) ∙ ap (λ (ws : List ℕ). ws ++ 0 ∷ []) (reverse-zeros n) ∙ replicate_more n 0 ∙ ap zeros e

reverse-map : (words : List ℕ) → reverse (map hexadecimal words) ≡ map hexadecimal (reverse words)
reverse-map [] = refl
reverse-map (w ∷ ws) = reverse-append (hexadecimal w ∷ []) (map hexadecimal ws) ∙ ap (λ (ls : List (List ℕ)). ls ++ hexadecimal w ∷ []) (reverse-map ws) ∙ sym (map-append hexadecimal (reverse ws) (w ∷ [])) ∙ ap (map hexadecimal) (sym (reverse-append (w ∷ []) ws))

-- an address of IP version 4
pub v4_back : (number : ℕ) → number < 2 ^ 32 → address_read (map decimal (lowest_digits 4 256 number)) ≡ Some (V4 number)
unfolding address_read
v4_back number h =
    let bytes : List ℕ = lowest_digits 4 256 number in
    let below : AllByRecursion (IsBelow 256) bytes = digits_below 4 256 number (omega arith) in
    let back : from_lowest 256 bytes ≡ number = number_back 4 256 number (omega arith) (omega arith) in
    rw (no_bytes_zz bytes below) (ap v4_of (bytes_back bytes below) ∙ ap (λ (n : ℕ). Some (V4 n)) back)

-- words without a `zz`
plain_words : (words : List ℕ) → length words ≡ 8 → AllByRecursion (IsBelow 65536) words → address_read (map hexadecimal words) ≡ Some (V6 (from_lowest 65536 words))
unfolding address_read
plain_words words len below =
    let count : length (map hexadecimal words) ≡ 8 = length-map words hexadecimal ∙ len in
    rw (no_words_zz words below, count) (ap v6_of (words_back 0 words below))

abbrev as_number : Bool → ℕ
as_number b = cond b 1 0

-- words with one
no_count : (words : List ℕ) → AllByRecursion (IsBelow 65536) words → count_by is_zz (map hexadecimal words) ≡ 0
no_count [] h = refl
no_count (n ∷ ns) h = omega (arith, no_count ns h.1, count_by-cons (hexadecimal n) (map hexadecimal ns), ap as_number (word_no_zz n h.0))

one_count : (low high : List ℕ) → AllByRecursion (IsBelow 65536) low → AllByRecursion (IsBelow 65536) high → count_by is_zz (map hexadecimal low ++ codes "zz" ∷ map hexadecimal high) ≡ 1
one_count [] high l h = omega (arith, no_count high h, count_by-cons (codes "zz") (map hexadecimal high))
one_count (n ∷ ns) high l h = omega (arith, one_count ns high l.1 h, count_by-cons (hexadecimal n) (map hexadecimal ns ++ codes "zz" ∷ map hexadecimal high), ap as_number (word_no_zz n l.0))

zz_words : (low high : List ℕ) (long : ℕ) → length low + length high + long ≡ 8 → 2 ≤ long → AllByRecursion (IsBelow 65536) low → AllByRecursion (IsBelow 65536) high
    → address_read (map hexadecimal low ++ codes "zz" ∷ map hexadecimal high) ≡ Some (V6 (from_lowest 65536 (low ++ (zeros long ++ high))))
zz_words low high long len some l h =
    let labels : List (List ℕ) = map hexadecimal low ++ codes "zz" ∷ map hexadecimal high in
    let count : length labels ≡ length low + length high + 1 = omega (arith, length-append (map hexadecimal low) (codes "zz" ∷ map hexadecimal high), length-map low hexadecimal, length-map high hexadecimal) in
    let missing : 9 - length labels ≡ long = omega arith in
    zz_address labels (one_count low high l h) (omega arith)
    ∙ ap (λ (n : ℕ). v6_of (words_read n labels)) missing
    ∙ ap v6_of (run_back long low high l h)

-- the words around a run, and the run
around : (words : List ℕ) (run : Run) → IsRun 0 words run → words ≡ take run.place words ++ (zeros run.long ++ drop (run.place + run.long) words)
around words run r =
    let same : run.place - 0 ≡ run.place = omega arith in
    let run_is : take run.long (drop run.place words) ≡ zeros run.long = ap (λ (n : ℕ). take run.long (drop n words)) (sym same) ∙ r.zeros in
    let behind : drop run.long (drop run.place words) ≡ drop (run.place + run.long) words = drop-drop run.long run.place words in
    sym (take-append-drop run.place words)
    ∙ ap (λ (ws : List ℕ). take run.place words ++ ws) (sym (take-append-drop run.long (drop run.place words)) ∙ ap (λ (ws : List ℕ). ws ++ drop run.long (drop run.place words)) run_is ∙ ap (λ (ws : List ℕ). zeros run.long ++ ws) behind)

turned : (a z b : List ℕ) → reverse z ≡ z → reverse (a ++ (z ++ b)) ≡ reverse b ++ (z ++ reverse a)
turned a z b h =
    reverse-append a (z ++ b) ∙ ap (λ (ws : List ℕ). ws ++ reverse a) (reverse-append z b ∙ ap (λ (ws : List ℕ). reverse b ++ ws) h) ∙ append_assoc (reverse b) z (reverse a)

run_words : (words : List ℕ) (run : Run) → length words ≡ 8 → AllByRecursion (IsBelow 65536) words → IsRun 0 words run → run.place + run.long ≤ length words → 2 ≤ run.long
    → address_read (reverse (map hexadecimal (take run.place words) ++ codes "zz" ∷ map hexadecimal (drop (run.place + run.long) words))) ≡ Some (V6 (from_lowest 65536 (reverse words)))
run_words words run len below r within some =
    let a : List ℕ = take run.place words in
    let b : List ℕ = drop (run.place + run.long) words in
    let turn : reverse (map hexadecimal a ++ codes "zz" ∷ map hexadecimal b) ≡ map hexadecimal (reverse b) ++ codes "zz" ∷ map hexadecimal (reverse a) =
    reverse-append (map hexadecimal a) (codes "zz" ∷ map hexadecimal b)
    ∙ ap (λ (ls : List (List ℕ)). ls ++ reverse (map hexadecimal a)) (reverse-append (codes "zz" ∷ []) (map hexadecimal b))
    ∙ append_assoc (reverse (map hexadecimal b)) (codes "zz" ∷ []) (reverse (map hexadecimal a))
    ∙ ap (λ (ls : List (List ℕ)). ls ++ codes "zz" ∷ reverse (map hexadecimal a)) (reverse-map b)
    ∙ ap (λ (ls : List (List ℕ)). map hexadecimal (reverse b) ++ codes "zz" ∷ ls) (reverse-map a) in
    let count : length (reverse b) + length (reverse a) + run.long ≡ 8 = omega (arith, len, within, length-reverse a, length-reverse b, length-take run.place words, length-drop (run.place + run.long) words) in
    let back : reverse b ++ (zeros run.long ++ reverse a) ≡ reverse words = sym (turned a (zeros run.long) b (reverse-zeros run.long)) ∙ ap reverse (sym (around words run r)) in
    ap address_read turn
    ∙ zz_words (reverse b) (reverse a) run.long count some (all-reverse (IsBelow 65536) b (all-drop (IsBelow 65536) (run.place + run.long) words below)) (all-reverse (IsBelow 65536) a (all-take (IsBelow 65536) run.place words below))
    ∙ ap (λ (ws : List ℕ). Some (V6 (from_lowest 65536 ws))) back

case_back : (t : Bool) (whole short : List (List ℕ)) (addr : Option Addr) → (t ≡ true → address_read (reverse whole) ≡ addr) → (t ≡ false → address_read (reverse short) ≡ addr) → address_read (reverse (if t then whole else short)) ≡ addr
case_back true whole short addr w s = w refl
case_back false whole short addr w s = s refl

long_enough : (run : Run) → nat_lt run.long 2 ≡ false → 2 ≤ run.long
long_enough run t = grind (arith, nat_tests)

words_labels : (words : List ℕ) → length words ≡ 8 → AllByRecursion (IsBelow 65536) words → address_read (reverse (word_labels words)) ≡ Some (V6 (from_lowest 65536 (reverse words)))
words_labels words len below =
    let run : Run = longest_run 0 words in
    case_back (nat_lt run.long 2) (map hexadecimal words) (map hexadecimal (take run.place words) ++ codes "zz" ∷ map hexadecimal (drop (run.place + run.long) words)) (Some (V6 (from_lowest 65536 (reverse words))))
    (λ t. ap address_read (reverse-map words) ∙ plain_words (reverse words) (length-reverse words ∙ len) (all-reverse (IsBelow 65536) words below))
    (λ t. run_words words run len below (longest_zeros 0 words) (omega (arith, longest_within 0 words)) (long_enough run t))

pub v6_back : (number : ℕ) → number < 2 ^ 128 → address_read (reverse (word_labels (reverse (lowest_digits 8 65536 number)))) ≡ Some (V6 number)
v6_back number h =
    let words : List ℕ = lowest_digits 8 65536 number in
    let below : AllByRecursion (IsBelow 65536) words = digits_below 8 65536 number (omega arith) in
    words_labels (reverse words) (length-reverse words ∙ length-lowest 8 65536 number) (all-reverse (IsBelow 65536) words below)
    ∙ ap (λ (ws : List ℕ). Some (V6 (from_lowest 65536 ws))) (reverse-reverse words)
    ∙ ap (λ (n : ℕ). Some (V6 n)) (number_back 8 65536 number (omega arith) (omega arith))
