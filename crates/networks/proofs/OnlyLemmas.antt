-- What is read is one of the grammar's texts.
use Rattle.std.proofs.Common.{◌≡◌, ℕ, ◌+◌, ◌<◌, ◌≤◌, Bool, true, false, not, ◌&&◌, ◌==◌, nat_lt, nat_le, List, [], ◌∷◌, ◌++◌, length, Option, Some, None, refl, sym, ap, subst, arith, append_assoc, inl, inr, eqb-true, ⊎_elim}
use Rattle.std.specs.Char.{is_ascii_hexdigit}
use Rattle.std.specs.List.{list_all, list_any, slice_split, join_with_byte}
use Rattle.std.specs.Option.{option_map}
use Rattle.std.specs.Str.Parse.{digits_value}
use Rattle.std.proofs.lemmas.Bool.{and_parts, cases_Bool, leb-true, ltb-true, ltb-false, not-false}
use Rattle.std.proofs.lemmas.List.Splits.{join_with_byte-slice_split}
use Rattle.std.proofs.lemmas.Option.{cond_some}
use Rattle.networks.specs.Dotted.{is_octet_dot, tail_of}
use Rattle.networks.specs.Grammar as grammar
use Rattle.networks.specs.Grammar.{IsGroup, AreGroups, AreLastGroups, MayBe, IsV6Text, halves}
use Rattle.networks.specs.Optional.{none_if}
use Rattle.networks.specs.V6.{at_elision, elided_of, filled, group_of, groups_of, is_colon, number_of_groups, one_group, one_or_two_groups, side_groups, text_groups, v6_at, v6_number, whole_of, with_first}
use Rattle.networks.proofs.ColonLemmas.{bind_some}
use Rattle.networks.proofs.FieldLemmas.{some_fields}

same_some : {A : Type 0} (x y : A) → (let o : Option A = Some x in o ≡ Some y) → x ≡ y
same_some x y e = cc

map_some : {A B : Type 0} (f : A → B) (o : Option A) (y : B) → option_map f o ≡ Some y → (x : A) × (o ≡ Some x) × (f x ≡ y)
map_some f None y e = absurd cc
map_some f (Some x) y e = (x, refl, same_some (f x) y e)

not_refused : (test : Bool) (u : Unit {0}) → none_if test ≡ Some u → test ≡ false
not_refused true u e = absurd cc
not_refused false u e = refl

group_is : (text : List ℕ) (group : ℕ) → group_of text ≡ Some group → IsGroup text group
group_is text group e =
    let parts = cond_some (nat_lt 0 (length text) && nat_le (length text) 4 && list_all is_ascii_hexdigit text) (digits_value 16 text) group e in
    let both = and_parts (nat_lt 0 (length text) && nat_le (length text) 4) (list_all is_ascii_hexdigit text) parts.0 in
    let lengths = and_parts (nat_lt 0 (length text)) (nat_le (length text) 4) both.0 in
    record { some = omega (arith, ltb-true 0 (length text) lengths.0); few = leb-true (length text) 4 lengths.1; digits = both.1; value = parts.1 }

one_only : (text groups : List ℕ) → one_group text ≡ Some groups → AreGroups text groups
one_only text groups e =
    let a = bind_some (group_of text) (λ n. Some (n ∷ [])) groups e in
    subst (AreGroups text) (same_some (a.0 ∷ []) groups a.2) (grammar.one text a.0 (group_is text a.0 a.1))

plain_only : (fields : List (List ℕ)) (groups : List ℕ) → 0 < length fields → groups_of one_group fields ≡ Some groups → AreGroups (join_with_byte 58 fields) groups
plain_only [] groups some e = absurd (omega arith)
plain_only (last ∷ []) groups some e = one_only last groups e
plain_only (field ∷ next ∷ fields) groups some e =
    let a = bind_some (group_of field) _ groups e in
    let b = bind_some (groups_of one_group (next ∷ fields)) (λ ns. Some (a.0 ∷ ns)) groups a.2 in
    subst (AreGroups (field ++ (58 ∷ join_with_byte 58 (next ∷ fields)))) (same_some (a.0 ∷ b.0) groups b.2)
    (grammar.more field (join_with_byte 58 (next ∷ fields)) a.0 b.0 (group_is field a.0 a.1) (plain_only (next ∷ fields) b.0 (omega arith) b.1))

-- a group before others
pub before_last : (field : List ℕ) (group : ℕ) → IsGroup field group → (text groups : List ℕ) → AreLastGroups text groups → AreLastGroups (field ++ (58 ∷ text)) (group ∷ groups)
before_last field group g _ _ (grammar.plain text groups are) = grammar.plain (field ++ (58 ∷ text)) (group ∷ groups) (grammar.more field text group groups g are)
before_last field group g _ _ (grammar.dotted text number e) = grammar.behind field text (group ∷ []) number (grammar.one field group g) e
before_last field group g _ _ (grammar.behind before text groups number are e) =
    subst (λ (t : List ℕ). AreLastGroups t (group ∷ (groups ++ halves number))) (append_assoc field (58 ∷ before) (58 ∷ text))
    (grammar.behind (field ++ (58 ∷ before)) text (group ∷ groups) number (grammar.more field before group groups g are) e)

end_only : (text groups : List ℕ) → one_or_two_groups text ≡ Some groups → AreLastGroups text groups
end_only text groups e =
    ⊎_elim
    (λ dot.
    let read : option_map halves (tail_of text) ≡ Some groups = rw dot at e in
    let a = map_some halves (tail_of text) groups read in
    subst (AreLastGroups text) a.2 (grammar.dotted text a.0 a.1))
    (λ other. let read : one_group text ≡ Some groups = rw other at e in grammar.plain text groups (one_only text groups read))
    (cases_Bool (list_any is_octet_dot text))

last_only : (fields : List (List ℕ)) (groups : List ℕ) → 0 < length fields → groups_of one_or_two_groups fields ≡ Some groups → AreLastGroups (join_with_byte 58 fields) groups
last_only [] groups some e = absurd (omega arith)
last_only (last ∷ []) groups some e = end_only last groups e
last_only (field ∷ next ∷ fields) groups some e =
    let a = bind_some (group_of field) _ groups e in
    let b = bind_some (groups_of one_or_two_groups (next ∷ fields)) (λ ns. Some (a.0 ∷ ns)) groups a.2 in
    subst (AreLastGroups (field ++ (58 ∷ join_with_byte 58 (next ∷ fields)))) (same_some (a.0 ∷ b.0) groups b.2)
    (before_last field a.0 (group_is field a.0 a.1) (join_with_byte 58 (next ∷ fields)) b.0 (last_only (next ∷ fields) b.0 (omega arith) b.1))

joined : (text : List ℕ) → join_with_byte 58 (slice_split is_colon text) ≡ text
joined text = join_with_byte-slice_split 58 text

text_plain : (text groups : List ℕ) → text_groups one_group text ≡ Some groups → AreGroups text groups
text_plain text groups e = subst (λ (t : List ℕ). AreGroups t groups) (joined text) (plain_only (slice_split is_colon text) groups (some_fields text) e)

text_last : (text groups : List ℕ) → text_groups one_or_two_groups text ≡ Some groups → AreLastGroups text groups
text_last text groups e = subst (λ (t : List ℕ). AreLastGroups t groups) (joined text) (last_only (slice_split is_colon text) groups (some_fields text) e)

before_only : (text groups : List ℕ) → side_groups one_group text ≡ Some groups → MayBe AreGroups text groups
before_only [] groups e = inl (refl, sym (same_some [] groups e))
before_only (b ∷ bs) groups e = inr (text_plain (b ∷ bs) groups e)

after_only : (text groups : List ℕ) → side_groups one_or_two_groups text ≡ Some groups → MayBe AreLastGroups text groups
after_only [] groups e = inl (refl, sym (same_some [] groups e))
after_only (b ∷ bs) groups e = inr (text_last (b ∷ bs) groups e)

-- what stands on both sides of `::`
sides_are : (text : List ℕ) (sides : List ℕ × List ℕ) → at_elision text ≡ Some sides → sides.0 ++ (58 ∷ 58 ∷ sides.1) ≡ text
sides_are [] sides e = absurd cc
sides_are (b ∷ []) sides e = absurd cc
sides_are (b ∷ c ∷ rest) sides e =
    ⊎_elim
    (λ here.
    let both = and_parts (is_colon b) (is_colon c) here in
    let found : (let s : Option (List ℕ × List ℕ) = Some ([], rest) in s ≡ Some sides) = rw here at e in
    let same = same_some ([], rest) sides found in
    let first : b ≡ 58 = eqb-true b 58 both.0 in
    let second : c ≡ 58 = eqb-true c 58 both.1 in
    rw (← same, first, second) refl)
    (λ other.
    let found : option_map (with_first b) (at_elision (c ∷ rest)) ≡ Some sides = rw other at e in
    let a = map_some (with_first b) (at_elision (c ∷ rest)) sides found in
    rw (← a.2) (ap (λ (t : List ℕ). b ∷ t) (sides_are (c ∷ rest) a.0 a.1)))
    (cases_Bool (is_colon b && is_colon c))

-- a text that is read, by its groups
abbrev pub Writes : List ℕ → ℕ → Type 0
Writes text number = (groups : List ℕ) × IsV6Text text groups × (number ≡ number_of_groups groups)

whole_only : (text : List ℕ) (number : ℕ) → whole_of text ≡ Some number → Writes text number
whole_only text number e =
    let a = bind_some (text_groups one_or_two_groups text) _ number e in
    let b = bind_some (none_if (not (length a.0 == 8))) _ number a.2 in
    (a.0, grammar.whole text a.0 (text_last text a.0 a.1) (eqb-true (length a.0) 8 (not-false _ (not_refused _ b.0 b.1))), sym (same_some (number_of_groups a.0) number b.2))

elided_only : (head tail : List ℕ) (number : ℕ) → elided_of head tail ≡ Some number → Writes (head ++ (58 ∷ 58 ∷ tail)) number
elided_only head tail number e =
    let a = bind_some (side_groups one_group head) _ number e in
    let b = bind_some (side_groups one_or_two_groups tail) _ number a.2 in
    let c = bind_some (none_if (nat_lt 7 (length a.0 + length b.0))) _ number b.2 in
    let few : length a.0 + length b.0 ≤ 7 = ltb-false 7 (length a.0 + length b.0) (not_refused _ c.0 c.1) in
    (filled a.0 b.0, grammar.elided head tail a.0 b.0 (before_only head a.0 a.1) (after_only tail b.0 b.1) few, sym (same_some (number_of_groups (filled a.0 b.0)) number c.2))

only_by : (text : List ℕ) (sides : Option (List ℕ × List ℕ)) (number : ℕ) → at_elision text ≡ sides → v6_at text sides ≡ Some number → Writes text number
only_by text None number at e = whole_only text number e
only_by text (Some sides) number at e = subst (λ (t : List ℕ). Writes t number) (sides_are text sides at) (elided_only sides.0 sides.1 number e)

pub text_only : (text : List ℕ) (number : ℕ) → v6_number text ≡ Some number → Writes text number
unfolding v6_number
text_only text number e = only_by text (at_elision text) number refl e
