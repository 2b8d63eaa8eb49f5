-- The labels of a prefix are short, and make a name.
use Rattle.std.proofs.Common.{◌≡◌, ℕ, zero, suc, ◌+◌, ◌*◌, ◌/◌, ◌<◌, ◌≤◌, List, [], ◌∷◌, ◌++◌, length, take, drop, map, reverse, Bool, true, false, Result, Ok, Err, refl, ap, ◌∙◌, arith, length-append}
use Rattle.std.specs.Prelude.{codes, nat_lt, ◌==◌, ◌||◌, if◌then◌else◌}
use Rattle.std.specs.Char.{is_ascii_digit, is_ascii_hexdigit}
use Rattle.std.specs.Fmt.{decimal}
use Rattle.std.specs.List.{list_all, AllByRecursion, flat_map}
use Rattle.std.proofs.lemmas.Bool.{and_parts, and_from}
use Rattle.std.proofs.lemmas.Bool.Decides.{nat_tests}
use Rattle.std.proofs.lemmas.Grind.{flat_map-append}
use Rattle.std.proofs.lemmas.List.{reverse-append, length-reverse, length-map, length-take, length-drop}
use Rattle.std.proofs.lemmas.List.Folds.{list_all-append}
use Rattle.dns_name.specs.Labels.{IsLabel, IsName, label_octets}
use Rattle.dns_name.specs.Text.{is_label_byte, has_label_bytes}
use Rattle.ip_prefix.specs.declared.Addr.{Addr}
use Rattle.ip_prefix.specs.declared.Addr.TheVariants.{V4, V6}
use Rattle.ip_prefix.specs.declared.prefix.PrefixFault.{PrefixFault}
use Rattle.ip_prefix.specs.declared.prefix.PrefixFault.TheVariants.{Length}
use Rattle.ip_prefix.specs.Prefix.{PlainPrefix, IsPrefix, width}
use Rattle.trigger_codec.specs.Canonical.{Run, lowest_digits, hexadecimal, longest_run, word_labels, address_labels, prefix_labels}
use Rattle.trigger_codec.specs.Dotted.{IsShort}
use Rattle.trigger_codec.proofs.RunLemmas.{longest_within}
use Rattle.trigger_codec.proofs.NumeralLemmas.{decimal_writes, hexadecimal_writes}

-- what holds of each element
pub all-append : {X : Type 0} (P : X → Type 0) (xs ys : List X) → AllByRecursion P xs → AllByRecursion P ys → AllByRecursion P (xs ++ ys)
all-append P [] ys h k = k
all-append P (x ∷ xs) ys h k = (h.0, all-append P xs ys h.1 k)

pub all-take : {X : Type 0} (P : X → Type 0) (n : ℕ) (xs : List X) → AllByRecursion P xs → AllByRecursion P (take n xs)
all-take P zero xs h = tt
all-take P (suc n) [] h = tt
all-take P (suc n) (x ∷ xs) h = (h.0, all-take P n xs h.1)

pub all-drop : {X : Type 0} (P : X → Type 0) (n : ℕ) (xs : List X) → AllByRecursion P xs → AllByRecursion P (drop n xs)
all-drop P zero xs h = h
all-drop P (suc n) [] h = tt
all-drop P (suc n) (x ∷ xs) h = all-drop P n xs h.1

pub all-reverse : {X : Type 0} (P : X → Type 0) (xs : List X) → AllByRecursion P xs → AllByRecursion P (reverse xs)
all-reverse P [] h = tt
all-reverse P (x ∷ xs) h = rw (reverse-append (x ∷ []) xs) (all-append P (reverse xs) (x ∷ []) (all-reverse P xs h.1) (h.0, tt))

pub all-map : {X Y : Type 0} (P : X → Type 0) (Q : Y → Type 0) (f : X → Y) → ((x : X) → P x → Q (f x)) → (xs : List X) → AllByRecursion P xs → AllByRecursion Q (map f xs)
all-map P Q f each [] h = tt
all-map P Q f each (x ∷ xs) h = (each x h.0, all-map P Q f each xs h.1)

abbrev pub IsBelow : ℕ → ℕ → Type 0
IsBelow base digit = digit < base

pub digits_below : (count base number : ℕ) → 0 < base → AllByRecursion (IsBelow base) (lowest_digits count base number)
digits_below zero base number h = tt
digits_below (suc count) base number h = (omega arith, digits_below count base (number / base) h)

pub length-lowest : (count base number : ℕ) → length (lowest_digits count base number) ≡ count
length-lowest zero base number = refl
length-lowest (suc count) base number = ap (λ (n : ℕ). suc n) (length-lowest count base (number / base))

-- digits are bytes of labels
digit_is : (c : ℕ) → is_ascii_digit c ≡ true → is_label_byte c ≡ true
digit_is c h = grind (arith, nat_tests)

hex_is : (c : ℕ) → is_ascii_hexdigit c ≡ true → is_label_byte c ≡ true
hex_is c h = grind (arith, nat_tests)

all_bytes : (p : ℕ → Bool) → ((c : ℕ) → p c ≡ true → is_label_byte c ≡ true) → (label : List ℕ) → list_all p label ≡ true → list_all is_label_byte label ≡ true
all_bytes p each [] h = refl
all_bytes p each (c ∷ cs) h =
    let parts = and_parts _ _ h in
    and_from _ _ (each c parts.0) (all_bytes p each cs parts.1)

short_decimal : (n : ℕ) → IsBelow 1000 n → IsShort 4 (decimal n)
short_decimal n h =
    let w = decimal_writes n h in
    record { some = w.some; few = omega (arith, w.few); bytes = all_bytes is_ascii_digit digit_is (decimal n) w.digits }

byte_short : (n : ℕ) → IsBelow 256 n → IsShort 4 (decimal n)
byte_short n h = short_decimal n (omega arith)

short_hex : (n : ℕ) → IsBelow 65536 n → IsShort 4 (hexadecimal n)
short_hex n h =
    let w = hexadecimal_writes n h in
    record { some = w.some; few = w.few; bytes = all_bytes is_ascii_hexdigit hex_is (hexadecimal n) w.digits }

short_zz : IsShort 4 (codes "zz")
short_zz = record { some = omega arith; few = omega arith; bytes = refl }

-- labels that are short, and not many of them
pub record AreShort (most : ℕ) (labels : List (List ℕ)) : Type 0 where
  pub each : AllByRecursion (IsShort 4) labels
  pub few : length labels ≤ most

case_run : (b : Bool) (whole around : List (List ℕ)) → AreShort 8 whole → (b ≡ false → AreShort 8 around) → AreShort 8 (if b then whole else around)
case_run true whole around h k = h
case_run false whole around h k = k refl

run_short : (words : List ℕ) (run : Run) → length words ≡ 8 → run.place + run.long ≤ length words → AllByRecursion (IsBelow 65536) words → nat_lt run.long 2 ≡ false → AreShort 8 (map hexadecimal (take run.place words) ++ codes "zz" ∷ map hexadecimal (drop (run.place + run.long) words))
run_short words run len within below some =
    let long : 2 ≤ run.long = grind (arith, nat_tests) in
    let front : List ℕ = take run.place words in
    let back : List ℕ = drop (run.place + run.long) words in
    record {
      each = all-append (IsShort 4) (map hexadecimal front) (codes "zz" ∷ map hexadecimal back) (all-map (IsBelow 65536) (IsShort 4) hexadecimal short_hex front (all-take (IsBelow 65536) run.place words below)) (short_zz, all-map (IsBelow 65536) (IsShort 4) hexadecimal short_hex back (all-drop (IsBelow 65536) (run.place + run.long) words below));
      few = omega (arith, len, within, length-append (map hexadecimal front) (codes "zz" ∷ map hexadecimal back), length-map front hexadecimal, length-map back hexadecimal, length-take run.place words, length-drop (run.place + run.long) words);
    }

words_short : (words : List ℕ) → length words ≡ 8 → AllByRecursion (IsBelow 65536) words → AreShort 8 (word_labels words)
words_short words len below =
    let run = longest_run 0 words in
    case_run (nat_lt run.long 2) (map hexadecimal words) (map hexadecimal (take run.place words) ++ codes "zz" ∷ map hexadecimal (drop (run.place + run.long) words))
    (record { each = all-map (IsBelow 65536) (IsShort 4) hexadecimal short_hex words below; few = omega (arith, len, length-map words hexadecimal) })
    (run_short words run len (omega (arith, longest_within 0 words)) below)

reversed_short : (labels : List (List ℕ)) → AreShort 8 labels → AreShort 8 (reverse labels)
reversed_short labels h = record { each = all-reverse (IsShort 4) labels h.each; few = omega (arith, h.few, length-reverse labels) }

address_short : (addr : Addr) → AreShort 8 (address_labels addr)
unfolding address_labels
address_short (V4 number) = record { each = all-map (IsBelow 256) (IsShort 4) decimal byte_short (lowest_digits 4 256 number) (digits_below 4 256 number (omega arith)); few = omega arith }
address_short (V6 number) =
    let words : List ℕ = lowest_digits 8 65536 number in
    reversed_short (word_labels (reverse words)) (words_short (reverse words) (length-reverse words ∙ length-lowest 8 65536 number) (all-reverse (IsBelow 65536) words (digits_below 8 65536 number (omega arith))))

length_case : (b : Bool) (len most : ℕ) (other : Result PlainPrefix PrefixFault) (p : PlainPrefix) → (b ≡ false → len ≤ most) → (if b then Err Length else other) ≡ Ok p → len ≤ most
length_case true len most other p h e = absurd cc
length_case false len most other p h e = h refl

width-le : (addr : Addr) → width addr ≤ 128
width-le (V4 number) = omega arith
width-le (V6 number) = omega arith

pub prefix_len : (prefix : PlainPrefix) → IsPrefix prefix → prefix.length ≤ 128
prefix_len prefix h =
    length_case (prefix.length == 0 || nat_lt (width prefix.addr) prefix.length) prefix.length 128 _ prefix (λ e. let le = width-le prefix.addr in grind (arith, nat_tests)) h.made

pub prefix_short : (prefix : PlainPrefix) → IsPrefix prefix → AreShort 9 (prefix_labels prefix)
prefix_short prefix h =
    let address = address_short prefix.addr in
    let len = prefix_len prefix h in
    record { each = (short_decimal prefix.length (omega arith), address.each); few = omega (arith, address.few) }

short_octets : (labels : List (List ℕ)) → AllByRecursion (IsShort 4) labels → length (flat_map label_octets labels) ≤ 5 * length labels
short_octets [] h = omega arith
short_octets (l ∷ ls) h = omega (arith, h.0.few, short_octets ls h.1, length-append (label_octets l) (flat_map label_octets ls))

are_labels : (labels : List (List ℕ)) → AllByRecursion (IsShort 4) labels → AllByRecursion IsLabel labels
are_labels [] h = tt
are_labels (l ∷ ls) h = (record { not_empty = h.0.some; short = omega (arith, h.0.few) }, are_labels ls h.1)

-- short labels and one more make a name
pub short_name : (labels : List (List ℕ)) (marker : List ℕ) → AreShort 9 labels → IsShort 20 marker → IsName (labels ++ marker ∷ [])
short_name labels marker h m =
    let whole : List (List ℕ) = labels ++ marker ∷ [] in
    let parts : flat_map label_octets whole ≡ flat_map label_octets labels ++ flat_map label_octets (marker ∷ []) = flat_map-append label_octets labels (marker ∷ []) in
    record {
      labels = all-append IsLabel labels (marker ∷ []) (are_labels labels h.each) (record { not_empty = m.some; short = omega (arith, m.few) }, tt);
      short = omega (arith, h.few, m.few, short_octets labels h.each, ap length parts, length-append (flat_map label_octets labels) (flat_map label_octets (marker ∷ [])), length-append (label_octets marker) [], length-append (flat_map label_octets whole) (0 ∷ []));
    }

have_bytes : (labels : List (List ℕ)) → AllByRecursion (IsShort 4) labels → has_label_bytes labels ≡ true
have_bytes [] h = refl
have_bytes (l ∷ ls) h = and_from _ _ h.0.bytes (have_bytes ls h.1)

pub short_bytes : (labels : List (List ℕ)) (marker : List ℕ) → AreShort 9 labels → IsShort 20 marker → has_label_bytes (labels ++ marker ∷ []) ≡ true
short_bytes labels marker h m = list_all-append (λ label. list_all is_label_byte label) labels (marker ∷ []) ∙ and_from _ _ (have_bytes labels h.each) (and_from _ _ m.bytes refl)
