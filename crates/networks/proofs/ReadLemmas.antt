-- The grammar's texts are read.
use Rattle.std.proofs.Common.{◌≡◌, ℕ, ◌+◌, ◌≤◌, Bool, true, false, not, ◌&&◌, ◌==◌, nat_lt, nat_le, if◌then◌else◌, List, [], ◌∷◌, ◌++◌, length, Option, Some, None, refl, sym, ap, ◌∙◌, arith, append_assoc, inl, inr, le-leb, lt-ltb, le-ltb, eq-eqb}
use Rattle.std.specs.Char.{is_ascii_hexdigit}
use Rattle.std.specs.List.{list_all, slice_split}
use Rattle.std.specs.Option.{option_map}
use Rattle.std.specs.Str.Parse.{digits_value}
use Rattle.std.proofs.lemmas.Bool.{and_from}
use Rattle.std.proofs.lemmas.List.{append-nil}
use Rattle.networks.specs.Dotted.{tail_of}
use Rattle.networks.specs.Grammar as grammar
use Rattle.networks.specs.Grammar.{IsGroup, AreGroups, AreLastGroups, MayBe, IsV6Text, halves}
use Rattle.networks.specs.Optional.{◌>>=◌, none_if}
use Rattle.networks.specs.V6.{at_elision, elided_of, filled, group_of, groups_of, is_colon, number_of_groups, one_group, one_or_two_groups, side_groups, text_groups, v6_at, v6_number, whole_of, with_first}
use Rattle.networks.proofs.ColonLemmas.{HasNoColon, one_field, first_field, digits_no_colon, digits_no_dot, tail_no_colon, tail_has_dot}
use Rattle.networks.proofs.FieldLemmas.{groups_first, some_fields}
use Rattle.networks.proofs.ElisionLemmas.{with_front}

-- no `::` within a text without a colon

no_front : (o : Option (List ℕ × List ℕ)) → o ≡ option_map (with_front []) o
no_front None = refl
no_front (Some sides) = refl

first_front : (x : ℕ) (xs : List ℕ) (o : Option (List ℕ × List ℕ)) → option_map (with_first x) (option_map (with_front xs) o) ≡ option_map (with_front (x ∷ xs)) o
first_front x xs None = refl
first_front x xs (Some sides) = refl

past_byte : (x : ℕ) (xs : List ℕ) → is_colon x ≡ false → at_elision (x ∷ xs) ≡ option_map (with_first x) (at_elision xs)
past_byte x [] h = refl
past_byte x (y ∷ ys) h = rw h refl

past_field : (text rest : List ℕ) → HasNoColon text → at_elision (text ++ rest) ≡ option_map (with_front text) (at_elision rest)
past_field [] rest h = no_front (at_elision rest)
past_field (x ∷ xs) rest h = past_byte x (xs ++ rest) h.0 ∙ ap (option_map (with_first x)) (past_field xs rest h.1) ∙ first_front x xs (at_elision rest)

-- and none where one colon stands between such texts
past_colon : (y : ℕ) (rest : List ℕ) → is_colon y ≡ false → at_elision (58 ∷ y ∷ rest) ≡ option_map (with_first 58) (at_elision (y ∷ rest))
past_colon y rest h = rw h refl

record BeginsWithout (text : List ℕ) : Type 0 where
  first : ℕ
  rest : List ℕ
  is : text ≡ first ∷ rest
  other : is_colon first ≡ false

begins_without : (text : List ℕ) → 1 ≤ length text → HasNoColon text → BeginsWithout text
begins_without [] some h = absurd (omega arith)
begins_without (x ∷ xs) some h = record { first = x; rest = xs; is = refl; other = h.0 }

group_begins : (text : List ℕ) (group : ℕ) → IsGroup text group → BeginsWithout text
group_begins text group g = begins_without text g.some (digits_no_colon text g.digits)

groups_begin : (text groups : List ℕ) → AreGroups text groups → BeginsWithout text
groups_begin _ _ (grammar.one text group g) = group_begins text group g
groups_begin _ _ (grammar.more text rest group groups g others) =
    let b = group_begins text group g in
    record { first = b.first; rest = b.rest ++ (58 ∷ rest); is = ap (λ (t : List ℕ). t ++ (58 ∷ rest)) b.is; other = b.other }

past_colon_text : (text rest : List ℕ) → BeginsWithout text → at_elision (58 ∷ (text ++ rest)) ≡ option_map (with_first 58) (at_elision (text ++ rest))
past_colon_text text rest b = rw b.is (past_colon b.first (b.rest ++ rest) b.other)

three_fronts : (text rest : List ℕ) (o : Option (List ℕ × List ℕ)) → option_map (with_front text) (option_map (with_first 58) (option_map (with_front rest) o)) ≡ option_map (with_front (text ++ (58 ∷ rest))) o
three_fronts text rest None = refl
three_fronts text rest (Some sides) = ap (λ (front : List ℕ). let s : Option (List ℕ × List ℕ) = Some (front, sides.1) in s) (sym (append_assoc text (58 ∷ rest) sides.0))

past_groups : (text groups : List ℕ) → AreGroups text groups → (behind : List ℕ) → at_elision (text ++ behind) ≡ option_map (with_front text) (at_elision behind)
past_groups _ _ (grammar.one text group g) behind = past_field text behind (digits_no_colon text g.digits)
past_groups _ _ (grammar.more text rest group groups g others) behind =
    ap at_elision (append_assoc text (58 ∷ rest) behind)
    ∙ past_field text (58 ∷ (rest ++ behind)) (digits_no_colon text g.digits)
    ∙ ap (option_map (with_front text)) (past_colon_text rest behind (groups_begin rest groups others) ∙ ap (option_map (with_first 58)) (past_groups rest groups others behind))
    ∙ three_fronts text rest (at_elision behind)

alone : (text : List ℕ) → HasNoColon text → at_elision text ≡ None
alone text h = ap at_elision (sym (append-nil text)) ∙ past_field text [] h

behind_colon : (text : List ℕ) → HasNoColon text → at_elision (58 ∷ text) ≡ None
behind_colon [] h = refl
behind_colon (x ∷ xs) h = past_colon x xs h.0 ∙ ap (option_map (with_first 58)) (alone (x ∷ xs) h)

no_elision : (text groups : List ℕ) → AreLastGroups text groups → at_elision text ≡ None
no_elision _ _ (grammar.plain text groups are) = ap at_elision (sym (append-nil text)) ∙ past_groups text groups are []
no_elision _ _ (grammar.dotted text number e) = alone text (tail_no_colon text number e)
no_elision _ _ (grammar.behind before text groups number are e) = past_groups before groups are (58 ∷ text) ∙ ap (option_map (with_front before)) (behind_colon text (tail_no_colon text number e))

-- groups are read

pub group_read : (text : List ℕ) (group : ℕ) → IsGroup text group → group_of text ≡ Some group
group_read text group g =
    let test : (nat_lt 0 (length text) && nat_le (length text) 4 && list_all is_ascii_hexdigit text) ≡ true = and_from _ _ (and_from _ _ (lt-ltb 0 (length text) (omega (arith, g.some))) (le-leb (length text) 4 g.few)) g.digits in
    ap (λ (b : Bool). if b then Some (digits_value 16 text) else None) test ∙ ap (λ (n : ℕ). let o : Option ℕ = Some n in o) g.value

abbrev ReadsGroup : (List ℕ → Option (List ℕ)) → Type 0
ReadsGroup last = (text : List ℕ) (group : ℕ) → IsGroup text group → last text ≡ Some (group ∷ [])

one_read : ReadsGroup one_group
one_read text group g = ap (λ (o : Option ℕ). o >>= (λ n. Some (n ∷ []))) (group_read text group g)

one_or_two_read : ReadsGroup one_or_two_groups
one_or_two_read text group g = ap (λ (b : Bool). if b then option_map halves (tail_of text) else one_group text) (digits_no_dot text g.digits) ∙ one_read text group g

-- a group, a colon and what is read behind it
more_read : (last : List ℕ → Option (List ℕ)) (text rest : List ℕ) (group : ℕ) (groups : List ℕ) → IsGroup text group → text_groups last rest ≡ Some groups → text_groups last (text ++ (58 ∷ rest)) ≡ Some (group ∷ groups)
more_read last text rest group groups g others =
    ap (groups_of last) (first_field text rest (digits_no_colon text g.digits))
    ∙ groups_first last text (slice_split is_colon rest) (some_fields rest)
    ∙ ap (λ (o : Option ℕ). o >>= (λ n. text_groups last rest >>= (λ ns. Some (n ∷ ns)))) (group_read text group g)
    ∙ ap (λ (o : Option (List ℕ)). o >>= (λ ns. Some (group ∷ ns))) others

groups_read : (last : List ℕ → Option (List ℕ)) → ReadsGroup last → (text groups : List ℕ) → AreGroups text groups → text_groups last text ≡ Some groups
groups_read last reads _ _ (grammar.one text group g) = ap (groups_of last) (one_field text (digits_no_colon text g.digits)) ∙ reads text group g
groups_read last reads _ _ (grammar.more text rest group groups g others) = more_read last text rest group groups g (groups_read last reads rest groups others)

tail_read : (text : List ℕ) (number : ℕ) → tail_of text ≡ Some number → text_groups one_or_two_groups text ≡ Some (halves number)
tail_read text number e =
    ap (groups_of one_or_two_groups) (one_field text (tail_no_colon text number e))
    ∙ ap (λ (b : Bool). if b then option_map halves (tail_of text) else one_group text) (tail_has_dot text number e)
    ∙ ap (option_map halves) e

behind_read : (before groups : List ℕ) → AreGroups before groups → (text : List ℕ) (number : ℕ) → tail_of text ≡ Some number → text_groups one_or_two_groups (before ++ (58 ∷ text)) ≡ Some (groups ++ halves number)
behind_read _ _ (grammar.one before group g) text number e = more_read one_or_two_groups before text group (halves number) g (tail_read text number e)
behind_read _ _ (grammar.more before rest group groups g others) text number e =
    ap (text_groups one_or_two_groups) (append_assoc before (58 ∷ rest) (58 ∷ text))
    ∙ more_read one_or_two_groups before (rest ++ (58 ∷ text)) group (groups ++ halves number) g (behind_read rest groups others text number e)

last_read : (text groups : List ℕ) → AreLastGroups text groups → text_groups one_or_two_groups text ≡ Some groups
last_read _ _ (grammar.plain text groups are) = groups_read one_or_two_groups one_or_two_read text groups are
last_read _ _ (grammar.dotted text number e) = tail_read text number e
last_read _ _ (grammar.behind before text groups number are e) = behind_read before groups are text number e

side_by : (last : List ℕ → Option (List ℕ)) (text groups : List ℕ) → last [] ≡ None → text_groups last text ≡ Some groups → side_groups last text ≡ Some groups
side_by last [] groups none e = absurd (let same : last [] ≡ Some groups = e in cc)
side_by last (b ∷ bs) groups none e = e

nothing_read : (last : List ℕ → Option (List ℕ)) (text groups : List ℕ) → text ≡ [] → groups ≡ [] → side_groups last text ≡ Some groups
nothing_read last text groups e f = rw (e, f) refl

before_read : (text groups : List ℕ) → MayBe AreGroups text groups → side_groups one_group text ≡ Some groups
before_read text groups (inl none) = nothing_read one_group text groups none.0 none.1
before_read text groups (inr are) = side_by one_group text groups refl (groups_read one_group one_read text groups are)

after_read : (text groups : List ℕ) → MayBe AreLastGroups text groups → side_groups one_or_two_groups text ≡ Some groups
after_read text groups (inl none) = nothing_read one_or_two_groups text groups none.0 none.1
after_read text groups (inr are) = side_by one_or_two_groups text groups refl (last_read text groups are)

at_sides : (head tail before : List ℕ) → MayBe AreGroups head before → at_elision (head ++ (58 ∷ 58 ∷ tail)) ≡ Some (head, tail)
at_sides head tail before (inl none) = rw none.0 refl
at_sides head tail before (inr are) = past_groups head before are (58 ∷ 58 ∷ tail) ∙ ap (λ (front : List ℕ). let s : Option (List ℕ × List ℕ) = Some (front, tail) in s) (append-nil head)

whole_read : (text groups : List ℕ) → AreLastGroups text groups → length groups ≡ 8 → whole_of text ≡ Some (number_of_groups groups)
whole_read text groups are eight =
    ap (λ (o : Option (List ℕ)). o >>= (λ ns. none_if (not (length ns == 8)) >>= (λ u. Some (number_of_groups ns)))) (last_read text groups are)
    ∙ ap (λ (b : Bool). none_if (not b) >>= (λ u. Some (number_of_groups groups))) (eq-eqb (length groups) 8 eight)

sides_read : (head tail before after : List ℕ) → MayBe AreGroups head before → MayBe AreLastGroups tail after → length before + length after ≤ 7 → elided_of head tail ≡ Some (number_of_groups (filled before after))
sides_read head tail before after some others few =
    ap (λ (o : Option (List ℕ)). o >>= (λ ns. side_groups one_or_two_groups tail >>= (λ ms. none_if (nat_lt 7 (length ns + length ms)) >>= (λ u. Some (number_of_groups (filled ns ms)))))) (before_read head before some)
    ∙ ap (λ (o : Option (List ℕ)). o >>= (λ ms. none_if (nat_lt 7 (length before + length ms)) >>= (λ u. Some (number_of_groups (filled before ms))))) (after_read tail after others)
    ∙ ap (λ (b : Bool). none_if b >>= (λ u. Some (number_of_groups (filled before after)))) (le-ltb 7 (length before + length after) few)

pub text_read : (text groups : List ℕ) → IsV6Text text groups → v6_number text ≡ Some (number_of_groups groups)
unfolding v6_number
text_read _ _ (grammar.whole text groups are eight) = ap (v6_at text) (no_elision text groups are) ∙ whole_read text groups are eight
text_read _ _ (grammar.elided head tail before after some others few) = ap (v6_at (head ++ (58 ∷ 58 ∷ tail))) (at_sides head tail before some) ∙ sides_read head tail before after some others few
