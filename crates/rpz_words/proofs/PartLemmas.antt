-- The parts of a list between commas.
use Rattle.std.proofs.Common.{◌≡◌, ℕ, ◌+◌, ◌<◌, Bool, true, false, cond, List, [], ◌∷◌, ◌++◌, length, map, Bor, refl, sym, ap, ap₂, ◌∙◌, arith, length-drop, ⊎_elim}
use Rattle.std.specs.List.{list_any, position_or_len, slice_split, before_first, after_first, onto_first}
use Rattle.std.proofs.lemmas.Bool.{cases_Bool, or_parts}
use Rattle.std.proofs.lemmas.List.Splits.{slice_split_first}
use Rattle.rpz_words.specs.Lists.{comma_parts, is_comma}

-- the place of the first that passes is in the list
place_within : (p : ℕ → Bool) (xs : List ℕ) → list_any p xs ≡ true → position_or_len p xs < length xs
place_within p [] h = absurd cc
place_within p (x ∷ xs) h =
    ⊎_elim
    (λ passes. let first : position_or_len p (x ∷ xs) ≡ 0 = rw passes refl in omega arith)
    (λ other. let first : position_or_len p (x ∷ xs) ≡ 1 + position_or_len p xs = rw other refl in let rest : list_any p xs ≡ true = rw other at h in omega (arith, place_within p xs rest))
    (cases_Bool (p x))

-- a list with a comma is its first part, and those of what stands behind
pub first_part : (text : List ℕ) → list_any is_comma text ≡ true → comma_parts text ≡ before_first is_comma text ∷ comma_parts (after_first is_comma text)
first_part text h = slice_split_first is_comma text 0 (place_within is_comma text h)

-- which is shorter
pub shorter : (text : List ℕ) → list_any is_comma text ≡ true → length (after_first is_comma text) < length text
shorter text h = omega (arith, place_within is_comma text h, length-drop (position_or_len is_comma text + 1) text)

uncut_by : (b : Bool) (x : ℕ) (xs : List ℕ) (parts : List (List ℕ)) → b ≡ false → parts ≡ xs ∷ [] → cond b ([] ∷ parts) (onto_first x parts) ≡ (x ∷ xs) ∷ []
uncut_by b x xs parts other one = rw (other, one) refl

-- without such a byte there is one part
uncut : (p : ℕ → Bool) (text : List ℕ) → list_any p text ≡ false → slice_split p text ≡ text ∷ []
uncut p [] h = refl
uncut p (x ∷ xs) h =
    let tests = or_parts (p x) (list_any p xs) h in
    uncut_by (p x) x xs (slice_split p xs) tests.0 (uncut p xs tests.1)

one_part : (text : List ℕ) → list_any is_comma text ≡ false → comma_parts text ≡ text ∷ []
one_part text h = uncut is_comma text h

abbrev pub texts_of : List (Bor (List ℕ)) → List (List ℕ)
texts_of = map (λ part. part.now)

moved : (parts : List (Bor (List ℕ))) (part : Bor (List ℕ)) (more : List (List ℕ)) → texts_of (parts ++ part ∷ []) ++ more ≡ texts_of parts ++ (part.now ∷ more)
moved [] part more = refl
moved (p ∷ ps) part more = ap (λ (l : List (List ℕ)). p.now ∷ l) (moved ps part more)

moved_end : (parts : List (Bor (List ℕ))) (part : Bor (List ℕ)) → texts_of (parts ++ part ∷ []) ≡ texts_of parts ++ (part.now ∷ [])
moved_end [] part = refl
moved_end (p ∷ ps) part = ap (λ (l : List (List ℕ)). p.now ∷ l) (moved_end ps part)

-- one part more
pub part_next : (parts next : List (Bor (List ℕ))) (part behind : Bor (List ℕ)) (rest text : List ℕ) → list_any is_comma rest ≡ true → part.now ≡ before_first is_comma rest → behind.now ≡ after_first is_comma rest → next ≡ parts ++ part ∷ [] → texts_of parts ++ comma_parts rest ≡ comma_parts text
    → texts_of next ++ comma_parts behind.now ≡ comma_parts text
part_next parts next part behind rest text some before after e so_far =
    let cut : part.now ∷ comma_parts behind.now ≡ comma_parts rest = ap₂ (λ (b : List ℕ) (a : List ℕ). b ∷ comma_parts a) before after ∙ sym (first_part rest some) in
    ap (λ (l : List (Bor (List ℕ))). texts_of l ++ comma_parts behind.now) e ∙ moved parts part (comma_parts behind.now) ∙ ap (λ (l : List (List ℕ)). texts_of parts ++ l) cut ∙ so_far

-- the last part
pub part_last : (parts next : List (Bor (List ℕ))) (part : Bor (List ℕ)) (text : List ℕ) → list_any is_comma part.now ≡ false → next ≡ parts ++ part ∷ [] → texts_of parts ++ comma_parts part.now ≡ comma_parts text → texts_of next ≡ comma_parts text
part_last parts next part text none e so_far =
    ap texts_of e ∙ moved_end parts part ∙ ap (λ (l : List (List ℕ)). texts_of parts ++ l) (sym (one_part part.now none)) ∙ so_far
