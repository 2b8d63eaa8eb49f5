-- Texts without a colon: groups and dotted decimals.
use Rattle.std.proofs.Common.{◌≡◌, ℕ, suc, ◌+◌, Bool, true, false, not, cond, if◌then◌else◌, List, [], ◌∷◌, ◌++◌, take, drop, Option, Some, None, refl, ap, ◌∙◌, subst, arith, one-add, eqb-true, ⊎_elim}
use Rattle.std.specs.Char.{is_ascii_digit, is_ascii_hexdigit}
use Rattle.std.specs.List.{AllByRecursion, list_all, list_any, slice_split, position_or_len, before_first, after_first}
use Rattle.std.proofs.lemmas.Bool.{and_parts, cases_Bool}
use Rattle.std.proofs.lemmas.Bool.Decides.{nat_tests}
use Rattle.std.proofs.lemmas.Option.{cond_some}
use Rattle.networks.specs.Decimal.{decimal_of, is_number, value_of}
use Rattle.networks.specs.Dotted.{is_octet_dot, has_leading_zero, octet_of, dotted_of, tail_of}
use Rattle.networks.specs.Optional.{◌>>=◌}
use Rattle.networks.specs.V6.{is_colon}

abbrev pub HasNoColon : List ℕ → Type 0
HasNoColon text = AllByRecursion (λ b. is_colon b ≡ false) text

-- such a text is one field
pub one_field : (text : List ℕ) → HasNoColon text → slice_split is_colon text ≡ text ∷ []
one_field [] h = refl
one_field (x ∷ xs) h = let first : is_colon x ≡ false = h.0 in rw (first, one_field xs h.1) refl

-- and the first field before a colon
pub first_field : (text rest : List ℕ) → HasNoColon text → slice_split is_colon (text ++ 58 ∷ rest) ≡ text ∷ slice_split is_colon rest
first_field [] rest h = refl
first_field (x ∷ xs) rest h = let first : is_colon x ≡ false = h.0 in rw (first, first_field xs rest h.1) refl

-- a value behind another
pub bind_some : {A B : Type 0} (o : Option A) (f : A → Option B) (y : B) → o >>= f ≡ Some y → (x : A) × (o ≡ Some x) × (f x ≡ Some y)
bind_some None f y e = absurd cc
bind_some (Some x) f y e = (x, refl, e)

-- hexadecimal digits
hex_no_colon : (b : ℕ) → is_ascii_hexdigit b ≡ true → is_colon b ≡ false
hex_no_colon b h = grind (arith, nat_tests)

hex_no_dot : (b : ℕ) → is_ascii_hexdigit b ≡ true → is_octet_dot b ≡ false
hex_no_dot b h = grind (arith, nat_tests)

pub digits_no_colon : (text : List ℕ) → list_all is_ascii_hexdigit text ≡ true → HasNoColon text
digits_no_colon [] h = tt
digits_no_colon (b ∷ bs) h = let both = and_parts (is_ascii_hexdigit b) (list_all is_ascii_hexdigit bs) h in (hex_no_colon b both.0, digits_no_colon bs both.1)

pub digits_no_dot : (text : List ℕ) → list_all is_ascii_hexdigit text ≡ true → list_any is_octet_dot text ≡ false
digits_no_dot [] h = refl
digits_no_dot (b ∷ bs) h = let both = and_parts (is_ascii_hexdigit b) (list_all is_ascii_hexdigit bs) h in rw (hex_no_dot b both.0) (digits_no_dot bs both.1)

-- decimal digits
decimal_no_colon : (b : ℕ) → is_ascii_digit b ≡ true → is_colon b ≡ false
decimal_no_colon b h = grind (arith, nat_tests)

decimals_no_colon : (text : List ℕ) → list_all is_ascii_digit text ≡ true → HasNoColon text
decimals_no_colon [] h = tt
decimals_no_colon (b ∷ bs) h = let both = and_parts (is_ascii_digit b) (list_all is_ascii_digit bs) h in (decimal_no_colon b both.0, decimals_no_colon bs both.1)

not_none : (b : Bool) (o : Option ℕ) (n : ℕ) → (if b then None else o) ≡ Some n → o ≡ Some n
not_none true o n e = absurd cc
not_none false o n e = e

octet_no_colon : (text : List ℕ) (n : ℕ) → octet_of true text ≡ Some n → HasNoColon text
octet_no_colon text n e =
    let number : decimal_of 3 256 text ≡ Some n = not_none (has_leading_zero text) (decimal_of 3 256 text) n e in
    let test = (cond_some (is_number 3 256 text) (value_of text) n number).0 in
    decimals_no_colon text (and_parts _ _ (and_parts _ _ test).0).1

place_first : (x : ℕ) (xs : List ℕ) → is_octet_dot x ≡ true → position_or_len is_octet_dot (x ∷ xs) ≡ 0
place_first x xs dot = ap (λ (b : Bool). cond (not b) (1 + position_or_len is_octet_dot xs) 0) dot

pub place_next : (x : ℕ) (xs : List ℕ) → is_octet_dot x ≡ false → position_or_len is_octet_dot (x ∷ xs) ≡ suc (position_or_len is_octet_dot xs)
place_next x xs other = ap (λ (b : Bool). cond (not b) (1 + position_or_len is_octet_dot xs) 0) other ∙ one-add (position_or_len is_octet_dot xs)

-- a text is what stands before its first dot, and behind it
around_dot : (text : List ℕ) → HasNoColon (before_first is_octet_dot text) → HasNoColon (after_first is_octet_dot text) → HasNoColon text
around_dot [] before after = tt
around_dot (x ∷ xs) before after =
    ⊎_elim
    (λ dot. let place : position_or_len is_octet_dot (x ∷ xs) ≡ 0 = place_first x xs dot in
    let behind : after_first is_octet_dot (x ∷ xs) ≡ xs = ap (λ (n : ℕ). drop (n + 1) (x ∷ xs)) place in
    let colon : is_colon x ≡ false = ap is_colon (eqb-true x 46 dot) in
    (colon, subst HasNoColon behind after))
    (λ other. let place : position_or_len is_octet_dot (x ∷ xs) ≡ suc (position_or_len is_octet_dot xs) = place_next x xs other in
    let front : before_first is_octet_dot (x ∷ xs) ≡ x ∷ before_first is_octet_dot xs = ap (λ (n : ℕ). take n (x ∷ xs)) place in
    let next : position_or_len is_octet_dot (x ∷ xs) + 1 ≡ suc (position_or_len is_octet_dot xs + 1) = omega (arith, place) in
    let behind : after_first is_octet_dot (x ∷ xs) ≡ after_first is_octet_dot xs = ap (λ (n : ℕ). drop n (x ∷ xs)) next in
    let whole : HasNoColon (x ∷ before_first is_octet_dot xs) = subst HasNoColon front before in
    (whole.0, around_dot xs whole.1 (subst HasNoColon behind after)))
    (cases_Bool (is_octet_dot x))

pub tail_no_colon : (text : List ℕ) (number : ℕ) → tail_of text ≡ Some number → HasNoColon text
unfolding dotted_of
tail_no_colon text number e =
    let rest : List ℕ = after_first is_octet_dot text in
    let last : List ℕ = after_first is_octet_dot rest in
    let a = bind_some (octet_of true (before_first is_octet_dot text)) _ number e in
    let b = bind_some (octet_of true (before_first is_octet_dot rest)) _ number a.2 in
    let c = bind_some (octet_of true (before_first is_octet_dot last)) _ number b.2 in
    let d = bind_some (octet_of true (after_first is_octet_dot last)) _ number c.2 in
    around_dot text (octet_no_colon (before_first is_octet_dot text) a.0 a.1)
    (around_dot rest (octet_no_colon (before_first is_octet_dot rest) b.0 b.1)
    (around_dot last (octet_no_colon (before_first is_octet_dot last) c.0 c.1) (octet_no_colon (after_first is_octet_dot last) d.0 d.1)))

-- four decimals have a dot
no_dot_behind : (text : List ℕ) → list_any is_octet_dot text ≡ false → after_first is_octet_dot text ≡ []
no_dot_behind [] h = refl
no_dot_behind (x ∷ xs) h =
    ⊎_elim
    (λ dot. absurd (let yes_dot : list_any is_octet_dot (x ∷ xs) ≡ true = rw dot refl in cc))
    (λ other. let place : position_or_len is_octet_dot (x ∷ xs) + 1 ≡ suc (position_or_len is_octet_dot xs + 1) = omega (arith, place_next x xs other) in
    let rest : list_any is_octet_dot xs ≡ false = rw other at h in
    ap (λ (n : ℕ). drop n (x ∷ xs)) place ∙ no_dot_behind xs rest)
    (cases_Bool (is_octet_dot x))

pub tail_has_dot : (text : List ℕ) (number : ℕ) → tail_of text ≡ Some number → list_any is_octet_dot text ≡ true
unfolding dotted_of
tail_has_dot text number e =
    ⊎_elim
    (λ dot. dot)
    (λ other.
    let a = bind_some (octet_of true (before_first is_octet_dot text)) _ number e in
    let b = bind_some (octet_of true (before_first is_octet_dot (after_first is_octet_dot text))) _ number a.2 in
    let nothing : octet_of true (before_first is_octet_dot (after_first is_octet_dot text)) ≡ None = ap (λ (rest : List ℕ). octet_of true (before_first is_octet_dot rest)) (no_dot_behind text other) in
    let some : octet_of true (before_first is_octet_dot (after_first is_octet_dot text)) ≡ Some b.0 = b.1 in
    absurd cc)
    (cases_Bool (list_any is_octet_dot text))
