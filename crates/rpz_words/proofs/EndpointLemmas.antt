-- Endpoints are read back from what is written of them.
use Rattle.std.proofs.Common.{◌≡◌, ℕ, suc, ◌+◌, ◌-◌, ◌*◌, ◌<◌, ◌≤◌, ◌^◌, Bool, true, false, not, nat_lt, cond, if◌then◌else◌, List, [], ◌∷◌, ◌++◌, length, take, drop, decimal, codes, Option, Some, None, Ok, refl, ap, subst, ◌∙◌, arith, one-add, lt-ltb, le-leb, eqb-true, append_assoc, inl, inr, ⊎_elim}
use Rattle.std.specs.Char.{digit_value, is_ascii_digit, is_ascii_hexdigit}
use Rattle.std.specs.List.{AllByRecursion, fold, list_all, list_any, position_or_len, before_first, after_first}
use Rattle.std.specs.Option.{option_map}
use Rattle.std.specs.Str.Parse.{AllDigits, digits_value_after}
use Rattle.std.proofs.lemmas.Bool.{and_from, and_parts, cases_Bool, or_parts}
use Rattle.std.proofs.lemmas.Bool.Decides.{nat_tests}
use Rattle.std.proofs.lemmas.Fmt.{decimal_is_IsNumeral, length-decimal-le}
use Rattle.std.proofs.lemmas.Option.{cond_some}
use Rattle.ip_prefix.specs.declared.Addr.{Addr}
use Rattle.ip_prefix.specs.declared.Addr.TheVariants.{V4, V6}
use Rattle.ip_prefix.specs.Bits.{IsAddr}
use Rattle.networks.specs.Decimal as decimal_form
use Rattle.networks.specs.Decimal.{decimal_of, is_number, value_of}
use Rattle.networks.specs.Dotted.{dotted_of, has_leading_zero, is_octet_dot, octet_of, tail_of, v4_number}
use Rattle.networks.specs.Grammar as grammar
use Rattle.networks.specs.Grammar.{IsGroup, AreGroups, AreLastGroups, IsV6Text, MayBe}
use Rattle.networks.specs.Mapped.{is_mapped_number}
use Rattle.networks.specs.NetworkText.{text_address}
use Rattle.networks.specs.V6.{is_colon, number_of_groups, v6_number}
use Rattle.networks.specs.Written.{addr_text}
use Rattle.edge_io.specs.declared.endpoint.Endpoint.{Endpoint}
use Rattle.script_codec.specs.Field.{number_field}
use Rattle.rpz_words.specs.declared.endpoint_text.TheConstants.{PORT_DIGITS, PORT_LIMIT}
use Rattle.rpz_words.specs.Endpoint.{IsWritable, endpoint_octets, endpoint_of, host_octets, is_bracket, is_end_bracket, is_mapped_addr, v4_endpoint, v6_endpoint}
use Rattle.rpz_words.specs.Values.{number_between, port_of}
use Rattle.rpz_words.proofs.OptionBinding.{bind_some}

-- texts without a byte

abbrev Lacks : (ℕ → Bool) → List ℕ → Type 0
Lacks p text = AllByRecursion (λ b. p b ≡ false) text

lacks_none : (p : ℕ → Bool) (text : List ℕ) → list_any p text ≡ false → Lacks p text
lacks_none p [] h = tt
lacks_none p (x ∷ xs) h = let tests = or_parts (p x) (list_any p xs) h in (tests.0, lacks_none p xs tests.1)

lacks_both : (p : ℕ → Bool) (xs ys : List ℕ) → Lacks p xs → Lacks p ys → Lacks p (xs ++ ys)
lacks_both p [] ys h k = k
lacks_both p (x ∷ xs) ys h k = (h.0, lacks_both p xs ys h.1 k)

place_first : (p : ℕ → Bool) (x : ℕ) (xs : List ℕ) → p x ≡ true → position_or_len p (x ∷ xs) ≡ 0
place_first p x xs passes = ap (λ (b : Bool). cond (not b) (1 + position_or_len p xs) 0) passes

place_next : (p : ℕ → Bool) (x : ℕ) (xs : List ℕ) → p x ≡ false → position_or_len p (x ∷ xs) ≡ suc (position_or_len p xs)
place_next p x xs other = ap (λ (b : Bool). cond (not b) (1 + position_or_len p xs) 0) other ∙ one-add (position_or_len p xs)

-- what stands before the first such byte, and behind it
before_mark : (p : ℕ → Bool) (text rest : List ℕ) (mark : ℕ) → Lacks p text → p mark ≡ true → before_first p (text ++ (mark ∷ rest)) ≡ text
before_mark p [] rest mark h m = ap (λ (n : ℕ). take n (mark ∷ rest)) (place_first p mark rest m)
before_mark p (x ∷ xs) rest mark h m = ap (λ (n : ℕ). take n (x ∷ (xs ++ (mark ∷ rest)))) (place_next p x (xs ++ (mark ∷ rest)) h.0) ∙ ap (λ (t : List ℕ). x ∷ t) (before_mark p xs rest mark h.1 m)

after_mark : (p : ℕ → Bool) (text rest : List ℕ) (mark : ℕ) → Lacks p text → p mark ≡ true → after_first p (text ++ (mark ∷ rest)) ≡ rest
after_mark p [] rest mark h m = ap (λ (n : ℕ). drop (n + 1) (mark ∷ rest)) (place_first p mark rest m)
after_mark p (x ∷ xs) rest mark h m =
    let next : position_or_len p (x ∷ (xs ++ (mark ∷ rest))) + 1 ≡ suc (position_or_len p (xs ++ (mark ∷ rest)) + 1) = omega (arith, place_next p x (xs ++ (mark ∷ rest)) h.0) in
    ap (λ (n : ℕ). drop n (x ∷ (xs ++ (mark ∷ rest)))) next ∙ after_mark p xs rest mark h.1 m

-- ports

digit_is : (c : ℕ) → digit_value c < 10 → is_ascii_digit c ≡ true
digit_is c h = grind (arith, nat_tests)

digit_worth : (c : ℕ) → digit_value c < 10 → c - 48 ≡ digit_value c
digit_worth c h = grind (arith, nat_tests)

all_decimal : (text : List ℕ) → AllDigits 10 text → list_all is_ascii_digit text ≡ true
all_decimal [] h = refl
all_decimal (c ∷ cs) h = and_from _ _ (digit_is c h.0) (all_decimal cs h.1)

value_behind : (n : ℕ) (text : List ℕ) → AllDigits 10 text → fold (λ value b. value * 10 + (b - 48)) n text ≡ digits_value_after 10 n text
value_behind n [] h = refl
value_behind n (c ∷ cs) h = value_behind (n * 10 + (c - 48)) cs h.1 ∙ ap (λ (d : ℕ). digits_value_after 10 (n * 10 + d) cs) (digit_worth c h.0)

not_less : (a b : ℕ) → b ≤ a → nat_lt a b ≡ false
not_less a b h = grind (arith, nat_tests)

port_by : (digits : List ℕ) (port : ℕ) → nat_lt PORT_DIGITS (length digits) ≡ false → is_number 10 (2 ^ 32) digits ≡ true → value_of digits ≡ port → nat_lt port 1 ≡ false → nat_lt PORT_LIMIT port ≡ false → port_of digits ≡ Some port
unfolding port_of number_between number_field
port_by digits port few number value some small = rw (few, number, value, some, small) refl

port_back : (port : ℕ) → 1 ≤ port → port ≤ PORT_LIMIT → port_of (decimal port) ≡ Some port
port_back port some small =
    let is = decimal_is_IsNumeral port (omega arith) in
    let value : value_of (decimal port) ≡ port = value_behind 0 (decimal port) is.0.1 ∙ is.1 in
    let short : length (decimal port) ≤ 5 = length-decimal-le 5 port (omega arith) (omega arith) (omega arith) in
    let number : is_number 10 (2 ^ 32) (decimal port) ≡ true = and_from _ _ (and_from _ _ (and_from _ _ (lt-ltb 0 (length (decimal port)) is.0.0) (le-leb (length (decimal port)) 10 (omega (arith, short)))) (all_decimal (decimal port) is.0.1)) (lt-ltb (value_of (decimal port)) (2 ^ 32) (omega (arith, value))) in
    port_by (decimal port) port (not_less PORT_DIGITS (length (decimal port)) short) number value (not_less port 1 some) (not_less PORT_LIMIT port small)

-- addresses of version 4

digit_no_bracket : (b : ℕ) → is_ascii_digit b ≡ true → is_bracket b ≡ false
digit_no_bracket b h = grind (arith, nat_tests)

-- such an address doesn't begin with a bracket
v4_first : (b : ℕ) (bs : List ℕ) (n : ℕ) → v4_number (b ∷ bs) ≡ Some n → is_bracket b ≡ false
unfolding dotted_of
v4_first b bs n e =
    let front : List ℕ = before_first is_octet_dot (b ∷ bs) in
    let a = bind_some (octet_of false front) _ n e in
    let test = (cond_some (decimal_form.is_number 3 256 front) (decimal_form.value_of front) a.0 a.1).0 in
    let digits : list_all is_ascii_digit front ≡ true = (and_parts _ _ (and_parts _ _ test).0).1 in
    ⊎_elim
    (λ dot. ap is_bracket (eqb-true b 46 dot))
    (λ other. let one : before_first is_octet_dot (b ∷ bs) ≡ b ∷ before_first is_octet_dot bs = ap (λ (k : ℕ). take k (b ∷ bs)) (place_next is_octet_dot b bs other) in
    let all : list_all is_ascii_digit (b ∷ before_first is_octet_dot bs) ≡ true = subst (λ (t : List ℕ). list_all is_ascii_digit t ≡ true) one digits in
    digit_no_bracket b (and_parts (is_ascii_digit b) (list_all is_ascii_digit (before_first is_octet_dot bs)) all).0)
    (cases_Bool (is_octet_dot b))

v4_is : (text digits : List ℕ) (n port : ℕ) → v4_number text ≡ Some n → Lacks is_colon text → port_of digits ≡ Some port → v4_endpoint (text ++ (58 ∷ digits)) ≡ Ok (record { addr = V4 n; port = port })
unfolding v4_endpoint
v4_is text digits n port e h p = rw (before_mark is_colon text digits 58 h refl, after_mark is_colon text digits 58 h refl, e, p) refl

v4_back : (text digits : List ℕ) (n port : ℕ) → v4_number text ≡ Some n → Lacks is_colon text → port_of digits ≡ Some port → endpoint_of (text ++ (58 ∷ digits)) ≡ Ok (record { addr = V4 n; port = port })
unfolding dotted_of
v4_back [] digits n port e h p = absurd cc
v4_back (b ∷ bs) digits n port e h p =
    ap (λ (t : Bool). if t then v6_endpoint (bs ++ (58 ∷ digits)) else v4_endpoint (b ∷ (bs ++ (58 ∷ digits)))) (v4_first b bs n e) ∙ v4_is (b ∷ bs) digits n port e h p

-- addresses of version 6

hex_no_bracket : (b : ℕ) → is_ascii_hexdigit b ≡ true → is_end_bracket b ≡ false
hex_no_bracket b h = grind (arith, nat_tests)

decimal_no_bracket : (b : ℕ) → is_ascii_digit b ≡ true → is_end_bracket b ≡ false
decimal_no_bracket b h = grind (arith, nat_tests)

hex_lacks : (text : List ℕ) → list_all is_ascii_hexdigit text ≡ true → Lacks is_end_bracket text
hex_lacks [] h = tt
hex_lacks (b ∷ bs) h = let both = and_parts (is_ascii_hexdigit b) (list_all is_ascii_hexdigit bs) h in (hex_no_bracket b both.0, hex_lacks bs both.1)

decimal_lacks : (text : List ℕ) → list_all is_ascii_digit text ≡ true → Lacks is_end_bracket text
decimal_lacks [] h = tt
decimal_lacks (b ∷ bs) h = let both = and_parts (is_ascii_digit b) (list_all is_ascii_digit bs) h in (decimal_no_bracket b both.0, decimal_lacks bs both.1)

not_none : (b : Bool) (o : Option ℕ) (n : ℕ) → (if b then None else o) ≡ Some n → o ≡ Some n
not_none true o n e = absurd cc
not_none false o n e = e

octet_lacks : (text : List ℕ) (n : ℕ) → octet_of true text ≡ Some n → Lacks is_end_bracket text
octet_lacks text n e =
    let number : decimal_of 3 256 text ≡ Some n = not_none (has_leading_zero text) (decimal_of 3 256 text) n e in
    let test = (cond_some (decimal_form.is_number 3 256 text) (decimal_form.value_of text) n number).0 in
    decimal_lacks text (and_parts _ _ (and_parts _ _ test).0).1

-- a text is what stands before its first dot, and behind it
around_dot : (text : List ℕ) → Lacks is_end_bracket (before_first is_octet_dot text) → Lacks is_end_bracket (after_first is_octet_dot text) → Lacks is_end_bracket text
around_dot [] before after = tt
around_dot (x ∷ xs) before after =
    ⊎_elim
    (λ dot. let behind : after_first is_octet_dot (x ∷ xs) ≡ xs = ap (λ (n : ℕ). drop (n + 1) (x ∷ xs)) (place_first is_octet_dot x xs dot) in
    let bracket : is_end_bracket x ≡ false = ap is_end_bracket (eqb-true x 46 dot) in
    (bracket, subst (Lacks is_end_bracket) behind after))
    (λ other. let place : position_or_len is_octet_dot (x ∷ xs) ≡ suc (position_or_len is_octet_dot xs) = place_next is_octet_dot x xs other in
    let front : before_first is_octet_dot (x ∷ xs) ≡ x ∷ before_first is_octet_dot xs = ap (λ (n : ℕ). take n (x ∷ xs)) place in
    let next : position_or_len is_octet_dot (x ∷ xs) + 1 ≡ suc (position_or_len is_octet_dot xs + 1) = omega (arith, place) in
    let behind : after_first is_octet_dot (x ∷ xs) ≡ after_first is_octet_dot xs = ap (λ (n : ℕ). drop n (x ∷ xs)) next in
    let whole : Lacks is_end_bracket (x ∷ before_first is_octet_dot xs) = subst (Lacks is_end_bracket) front before in
    (whole.0, around_dot xs whole.1 (subst (Lacks is_end_bracket) behind after)))
    (cases_Bool (is_octet_dot x))

tail_lacks : (text : List ℕ) (number : ℕ) → tail_of text ≡ Some number → Lacks is_end_bracket text
unfolding dotted_of
tail_lacks text number e =
    let rest : List ℕ = after_first is_octet_dot text in
    let last : List ℕ = after_first is_octet_dot rest in
    let a = bind_some (octet_of true (before_first is_octet_dot text)) _ number e in
    let b = bind_some (octet_of true (before_first is_octet_dot rest)) _ number a.2 in
    let c = bind_some (octet_of true (before_first is_octet_dot last)) _ number b.2 in
    let d = bind_some (octet_of true (after_first is_octet_dot last)) _ number c.2 in
    around_dot text (octet_lacks (before_first is_octet_dot text) a.0 a.1)
    (around_dot rest (octet_lacks (before_first is_octet_dot rest) b.0 b.1)
    (around_dot last (octet_lacks (before_first is_octet_dot last) c.0 c.1) (octet_lacks (after_first is_octet_dot last) d.0 d.1)))

groups_lack : (text groups : List ℕ) → AreGroups text groups → Lacks is_end_bracket text
groups_lack _ _ (grammar.one text group g) = hex_lacks text g.digits
groups_lack _ _ (grammar.more text rest group groups g others) = lacks_both is_end_bracket text (58 ∷ rest) (hex_lacks text g.digits) (refl, groups_lack rest groups others)

last_lacks : (text groups : List ℕ) → AreLastGroups text groups → Lacks is_end_bracket text
last_lacks _ _ (grammar.plain text groups are) = groups_lack text groups are
last_lacks _ _ (grammar.dotted text number e) = tail_lacks text number e
last_lacks _ _ (grammar.behind before text groups number are e) = lacks_both is_end_bracket before (58 ∷ text) (groups_lack before groups are) (refl, tail_lacks text number e)

none_lacks : (text : List ℕ) → text ≡ [] → Lacks is_end_bracket text
none_lacks [] e = tt
none_lacks (x ∷ xs) e = absurd cc

head_lacks : (text groups : List ℕ) → MayBe AreGroups text groups → Lacks is_end_bracket text
head_lacks text groups (inl none) = none_lacks text none.0
head_lacks text groups (inr are) = groups_lack text groups are

end_lacks : (text groups : List ℕ) → MayBe AreLastGroups text groups → Lacks is_end_bracket text
end_lacks text groups (inl none) = none_lacks text none.0
end_lacks text groups (inr are) = last_lacks text groups are

text_lacks : (text groups : List ℕ) → IsV6Text text groups → Lacks is_end_bracket text
text_lacks _ _ (grammar.whole text groups are eight) = last_lacks text groups are
text_lacks _ _ (grammar.elided head tail before after some others few) = lacks_both is_end_bracket head (58 ∷ (58 ∷ tail)) (head_lacks head before some) (refl, (refl, end_lacks tail after others))

v6_is : (text digits : List ℕ) (n port : ℕ) → v6_number text ≡ Some n → Lacks is_end_bracket text → is_mapped_number n ≡ false → port_of digits ≡ Some port → v6_endpoint (text ++ (93 ∷ (58 ∷ digits))) ≡ Ok (record { addr = V6 n; port = port })
unfolding v6_endpoint
v6_is text digits n port e h m p = rw (before_mark is_end_bracket text (58 ∷ digits) 93 h refl, after_mark is_end_bracket text (58 ∷ digits) 93 h refl, e, m, p) refl

-- both

abbrev IsReadBack : Type 0
IsReadBack = (addr : Addr) → IsAddr addr → text_address (addr_text addr) ≡ Some addr

abbrev HasCases : Type 0
HasCases = (text : List ℕ) (number : ℕ) → v6_number text ≡ Some number → (groups : List ℕ) × IsV6Text text groups × (number ≡ number_of_groups groups)

of_v4 : (colon : Bool) (six four : Option ℕ) (n : ℕ) → (if colon then option_map V6 six else option_map V4 four) ≡ Some (V4 n) → (colon ≡ false) × (four ≡ Some n)
of_v4 true None four n e = absurd cc
of_v4 true (Some m) four n e = absurd cc
of_v4 false six None n e = absurd cc
of_v4 false six (Some m) n e = (refl, cc)

of_v6 : (colon : Bool) (six four : Option ℕ) (n : ℕ) → (if colon then option_map V6 six else option_map V4 four) ≡ Some (V6 n) → six ≡ Some n
of_v6 true None four n e = absurd cc
of_v6 true (Some m) four n e = cc
of_v6 false six None n e = absurd cc
of_v6 false six (Some m) n e = absurd cc

back_at : IsReadBack → HasCases → (addr : Addr) (port : ℕ) → IsAddr addr → 1 ≤ port → port ≤ PORT_LIMIT → is_mapped_addr addr ≡ false → endpoint_of (host_octets addr ++ (codes ":" ++ decimal port)) ≡ Ok (record { addr = addr; port = port })
back_at back cases (V4 n) port is some small mapped =
    let text : List ℕ = addr_text (V4 n) in
    let read = of_v4 (list_any is_colon text) (v6_number text) (v4_number text) n (back (V4 n) is) in
    v4_back text (decimal port) n port read.1 (lacks_none is_colon text read.0) (port_back port some small)
back_at back cases (V6 n) port is some small mapped =
    let text : List ℕ = addr_text (V6 n) in
    let read : v6_number text ≡ Some n = of_v6 (list_any is_colon text) (v6_number text) (v4_number text) n (back (V6 n) is) in
    let by = cases text n read in
    ap v6_endpoint (append_assoc text (93 ∷ []) (58 ∷ decimal port)) ∙ v6_is text (decimal port) n port read (text_lacks text by.0 by.1) mapped (port_back port some small)

pub endpoint_back : IsReadBack → HasCases → (endpoint : Endpoint) → IsWritable endpoint → endpoint_of (endpoint_octets endpoint) ≡ Ok endpoint
endpoint_back back cases endpoint is = back_at back cases endpoint.addr endpoint.port is.is_addr is.some_port is.small_port is.is_no_other
