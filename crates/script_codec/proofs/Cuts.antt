-- How a text is cut at its spaces.
use Rattle.std.proofs.Common.{◌≡◌, ℕ, ◌+◌, ◌-◌, ◌<◌, ◌≤◌, List, [], ◌∷◌, length, take, drop, cond, Some, None, Err, nat_lt, refl, ◌∙◌, arith, length-drop, ⊎_elim}
use Rattle.std.specs.List.{position, position_or_len, onto_first}
use Rattle.std.proofs.lemmas.Bool.{cases_Bool}
use Rattle.std.proofs.lemmas.List.{take_all}
use Rattle.std.proofs.lemmas.List.Splits.{slice_split_first}
use Rattle.script_codec.specs.declared.line_fault.LineFault.TheVariants as why
use Rattle.script_codec.specs.Fields.{is_space, fields_of, no_more_fields}
use Rattle.script_codec.specs.Overriding.{override_text, worded_override}

-- a text without a space is one field
whole : (text : List ℕ) → length text ≤ position_or_len is_space text → fields_of text ≡ text ∷ []
whole [] h = refl
whole (x ∷ xs) h =
    ⊎_elim
    (λ yes. let first : position_or_len is_space (x ∷ xs) ≡ 0 = rw yes refl in absurd (omega arith))
    (λ no. let first : position_or_len is_space (x ∷ xs) ≡ 1 + position_or_len is_space xs = rw no refl in rw (no, whole xs (omega arith)) refl)
    (cases_Bool (is_space x))

pub fields_whole : (text : List ℕ) → None ≡ position is_space text → fields_of text ≡ text ∷ []
fields_whole text h = whole text (grind (arith))

-- the place that `position` gives
place : (n len at : ℕ) → Some at ≡ cond (nat_lt n len) (Some n) None → at ≡ n
place n len at h =
    ⊎_elim
    (λ yes. let e : cond (nat_lt n len) (Some n) None ≡ Some n = rw yes refl in let both : Some at ≡ Some n = h ∙ e in cc)
    (λ no. let e : cond (nat_lt n len) (Some n) None ≡ None = rw no refl in let both : Some at ≡ None = h ∙ e in absurd cc)
    (cases_Bool (nat_lt n len))

-- a text with a space is a field, and the fields behind the space
pub fields_cut : (text : List ℕ) (at : ℕ) → Some at ≡ position is_space text → at < length text
    → fields_of text ≡ take at text ∷ fields_of (take (length text - (at + 1)) (drop (at + 1) text))
fields_cut text at h lt =
    let same : at ≡ position_or_len is_space text = place _ _ at h in
    let all : take (length text - (at + 1)) (drop (at + 1) text) ≡ drop (at + 1) text = take_all (length text - (at + 1)) (drop (at + 1) text) (omega (arith, length-drop (at + 1) text)) in
    let cut : fields_of text ≡ take (position_or_len is_space text) text ∷ fields_of (drop (position_or_len is_space text + 1) text) = slice_split_first is_space text 0 (omega arith) in
    rw (all, same) cut

onto_ended : (x : ℕ) (parts : List (List ℕ)) → no_more_fields (onto_first x parts) ≡ Err why.Fields
onto_ended x [] = refl
onto_ended x (part ∷ parts) = refl

-- what stands behind a space has a field
pub never_ended : (text : List ℕ) → no_more_fields (fields_of text) ≡ Err why.Fields
never_ended [] = refl
never_ended (x ∷ xs) = ⊎_elim (λ yes. rw yes refl) (λ no. rw no (onto_ended x (fields_of xs))) (cases_Bool (is_space x))

some_override : (fields : List (List ℕ)) → no_more_fields fields ≡ Err why.Fields → override_text fields ≡ worded_override fields
some_override [] e = absurd cc
some_override (field ∷ fields) e = refl

-- so that an override stands there
pub stands_there : (text : List ℕ) → override_text (fields_of text) ≡ worded_override (fields_of text)
stands_there text = some_override (fields_of text) (never_ended text)
