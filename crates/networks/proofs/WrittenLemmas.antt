-- Addresses are read back from their texts.
use Rattle.std.proofs.Common.{◌≡◌, ℕ, zero, suc, ◌+◌, ◌*◌, ◌/◌, ◌%◌, ◌<◌, ◌^◌, Bool, true, false, ◌||◌, if◌then◌else◌, List, [], ◌∷◌, ◌++◌, length, Option, Some, refl, ap, ◌∙◌, arith}
use Rattle.std.specs.List.{AllByRecursion, list_any}
use Rattle.std.specs.Option.{option_map}
use Rattle.std.specs.Net.Text.{ipv6_text, dotted_text}
use Rattle.std.proofs.Math.Nat.{pow-suc}
use Rattle.std.proofs.NetLemmas.Texts.{AllSegments, IsColonHex-ipv6_text}
use Rattle.std.proofs.lemmas.List.Sums.{fold_push}
use Rattle.ip_prefix.specs.declared.Addr.{Addr}
use Rattle.ip_prefix.specs.declared.Addr.TheVariants.{V4, V6}
use Rattle.ip_prefix.specs.Bits.{IsAddr}
use Rattle.networks.specs.Dotted.{dotted_of, v4_number}
use Rattle.networks.specs.Grammar as grammar
use Rattle.networks.specs.Grammar.{AreGroups, AreLastGroups, IsV6Text, halves}
use Rattle.networks.specs.NetworkText.{text_address}
use Rattle.networks.specs.V6.{is_colon, number_of_groups, v6_number}
use Rattle.networks.specs.Written.{last_digits, eight_groups, addr_text}
use Rattle.networks.proofs.ColonLemmas.{HasNoColon, tail_no_colon}
use Rattle.networks.proofs.DecimalLemmas.{dotted_read}
use Rattle.networks.proofs.ReadLemmas.{text_read}
use Rattle.networks.proofs.StdLemmas.{library_text}

-- the number of its digits
groups_back : (count number : ℕ) → number < 65536 ^ count → number_of_groups (last_digits 65536 count number) ≡ number
groups_back zero number few = omega arith
groups_back (suc count) number few =
    let all : 65536 ^ suc count ≡ 65536 ^ count * 65536 = pow-suc 65536 count in
    let rest : number / 65536 < 65536 ^ count = omega (arith, all) in
    let ind : number_of_groups (last_digits 65536 count (number / 65536)) ≡ number / 65536 = groups_back count (number / 65536) rest in
    fold_push (λ n group. n * 65536 + group) 0 (last_digits 65536 count (number / 65536)) (number % 65536) ∙ omega (arith, ind)

segments_by : (xs : List ℕ) → AllByRecursion (λ x. x < 2 ^ 16) xs → AllSegments xs
segments_by [] h k = omega arith
segments_by (x ∷ xs) h zero = h.0
segments_by (x ∷ xs) h (suc k) = segments_by xs h.1 k

below : (number : ℕ) → number % 65536 < 2 ^ 16
below number = omega arith

segments_of_number : (number : ℕ) → AllSegments (eight_groups number)
segments_of_number number = segments_by (eight_groups number) (below _, (below _, (below _, (below _, (below _, (below _, (below _, (below number, tt))))))))

-- a text of version 6 has a colon
or_true : (b : Bool) → (b || true) ≡ true
or_true true = refl
or_true false = refl

any_behind : (xs ys : List ℕ) → list_any is_colon (xs ++ (58 ∷ ys)) ≡ true
any_behind [] ys = refl
any_behind (x ∷ xs) ys = ap (λ (b : Bool). is_colon x || b) (any_behind xs ys) ∙ or_true (is_colon x)

groups_colon : (text groups : List ℕ) → AreGroups text groups → length groups ≡ 8 → list_any is_colon text ≡ true
groups_colon _ _ (grammar.one text group g) eight = absurd cc
groups_colon _ _ (grammar.more text rest group groups g others) eight = any_behind text rest

last_colon : (text groups : List ℕ) → AreLastGroups text groups → length groups ≡ 8 → list_any is_colon text ≡ true
last_colon _ _ (grammar.plain text groups are) eight = groups_colon text groups are eight
last_colon _ _ (grammar.dotted text number e) eight = absurd cc
last_colon _ _ (grammar.behind before text groups number are e) eight = any_behind before text

text_colon : (text groups : List ℕ) → IsV6Text text groups → list_any is_colon text ≡ true
text_colon _ _ (grammar.whole text groups are eight) = last_colon text groups are eight
text_colon _ _ (grammar.elided head tail before after some others few) = any_behind head (58 ∷ tail)

v6_back : (number : ℕ) → number < 2 ^ 128 → text_address (addr_text (V6 number)) ≡ Some (V6 number)
v6_back number few =
    let groups : List ℕ = eight_groups number in
    let text : List ℕ = ipv6_text groups in
    let is : IsV6Text text groups = library_text text groups (IsColonHex-ipv6_text groups refl (segments_of_number number)) in
    let same : number_of_groups groups ≡ number = groups_back 8 number few in
    ap (λ (b : Bool). if b then option_map V6 (v6_number text) else option_map V4 (v4_number text)) (text_colon text groups is)
    ∙ ap (option_map V6) (text_read text groups is) ∙ ap (λ (n : ℕ). let o : Option Addr = Some (V6 n) in o) same

-- and one of version 4 has none
none_any : (text : List ℕ) → HasNoColon text → list_any is_colon text ≡ false
none_any [] h = refl
none_any (x ∷ xs) h = ap (λ (b : Bool). b || list_any is_colon xs) h.0 ∙ none_any xs h.1

octets_back : (number : ℕ) → number < 2 ^ 32 → ((number / 256 / 256 / 256 % 256 * 256 + number / 256 / 256 % 256) * 256 + number / 256 % 256) * 256 + number % 256 ≡ number
octets_back number few = omega arith

v4_back : (number : ℕ) → number < 2 ^ 32 → text_address (addr_text (V4 number)) ≡ Some (V4 number)
v4_back number few =
    let a : ℕ = number / 256 / 256 / 256 % 256 in
    let b : ℕ = number / 256 / 256 % 256 in
    let c : ℕ = number / 256 % 256 in
    let d : ℕ = number % 256 in
    let text : List ℕ = dotted_text a b c d in
    let read : (strict : Bool) → dotted_of strict text ≡ Some (((a * 256 + b) * 256 + c) * 256 + d) = λ strict. dotted_read strict a b c d (omega arith) (omega arith) (omega arith) (omega arith) in
    let colon : list_any is_colon text ≡ false = none_any text (tail_no_colon text (((a * 256 + b) * 256 + c) * 256 + d) (read true)) in
    ap (λ (t : Bool). if t then option_map V6 (v6_number text) else option_map V4 (v4_number text)) colon
    ∙ ap (option_map V4) (read false) ∙ ap (λ (n : ℕ). let o : Option Addr = Some (V4 n) in o) (octets_back number few)

pub read_back : (addr : Addr) → IsAddr addr → text_address (addr_text addr) ≡ Some addr
read_back (V4 number) few = v4_back number few
read_back (V6 number) few = v6_back number few
