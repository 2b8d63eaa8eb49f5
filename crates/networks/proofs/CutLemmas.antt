-- Texts, cut at the first of some byte.
use Rattle.std.proofs.Common.{◌≡◌, ℕ, ◌+◌, ◌-◌, ◌<◌, ◌≤◌, Bool, false, ◌==◌, List, [], ◌∷◌, length, take, drop, cond, Some, None, nat_lt, refl, sym, ap, ◌∙◌, arith, length-drop, ⊎_elim}
use Rattle.std.specs.List.{list_any, position, position_or_len, slice_split}
use Rattle.std.proofs.lemmas.Bool.{cases_Bool}
use Rattle.std.proofs.lemmas.List.{drop_all, take_all}
use Rattle.std.proofs.lemmas.List.Folds.{list_any_at}
use Rattle.std.proofs.lemmas.List.Splits.{slice_split_first}
use Rattle.std.proofs.lemmas.List.Sums.{passes_at_first}
use Rattle.networks.specs.Split.{IsCut, IsUncut}

-- no element passes where the first that does is behind the list
none_passes : (p : ℕ → Bool) (text : List ℕ) → length text ≤ position_or_len p text → list_any p text ≡ false
none_passes p [] h = refl
none_passes p (x ∷ xs) h =
    ⊎_elim
    (λ passes. let first : position_or_len p (x ∷ xs) ≡ 0 = rw passes refl in absurd (omega arith))
    (λ other. let first : position_or_len p (x ∷ xs) ≡ 1 + position_or_len p xs = rw other refl in rw (other, none_passes p xs (omega arith)) refl)
    (cases_Bool (p x))

-- and it is one field
one_field : (p : ℕ → Bool) (text : List ℕ) → length text ≤ position_or_len p text → slice_split p text ≡ text ∷ []
one_field p [] h = refl
one_field p (x ∷ xs) h =
    ⊎_elim
    (λ passes. let first : position_or_len p (x ∷ xs) ≡ 0 = rw passes refl in absurd (omega arith))
    (λ other. let first : position_or_len p (x ∷ xs) ≡ 1 + position_or_len p xs = rw other refl in rw (other, one_field p xs (omega arith)) refl)
    (cases_Bool (p x))

no_place : (n len : ℕ) → None ≡ cond (nat_lt n len) (Some n) None → len ≤ n
no_place n len h = grind (arith)

-- the place that `position` gives
place : (n len at : ℕ) → Some at ≡ cond (nat_lt n len) (Some n) None → at ≡ n
place n len at h =
    ⊎_elim
    (λ less. let e : cond (nat_lt n len) (Some n) None ≡ Some n = rw less refl in let both : Some at ≡ Some n = h ∙ e in cc)
    (λ other. let e : cond (nat_lt n len) (Some n) None ≡ None = rw other refl in let both : Some at ≡ None = h ∙ e in absurd cc)
    (cases_Bool (nat_lt n len))

pub uncut : (byte : ℕ) (text : List ℕ) → None ≡ position (λ b. b == byte) text → IsUncut byte text
uncut byte text h =
    let far : length text ≤ position_or_len (λ b. b == byte) text = no_place _ _ h in
    record {
      none = none_passes (λ b. b == byte) text far;
      before_is = sym (take_all (position_or_len (λ b. b == byte) text) text far);
      behind_is = sym (drop_all (position_or_len (λ b. b == byte) text + 1) text (omega arith));
      fields = one_field (λ b. b == byte) text far;
    }

pub cut : (byte : ℕ) (text : List ℕ) (at : ℕ) → Some at ≡ position (λ b. b == byte) text → at < length text → IsCut byte text (take at text) (take (length text - (at + 1)) (drop (at + 1) text))
cut byte text at h lt =
    let same : at ≡ position_or_len (λ b. b == byte) text = place _ _ at h in
    let inside : position_or_len (λ b. b == byte) text < length text = omega arith in
    let all : take (length text - (at + 1)) (drop (at + 1) text) ≡ drop (at + 1) text = take_all (length text - (at + 1)) (drop (at + 1) text) (omega (arith, length-drop (at + 1) text)) in
    let parts : slice_split (λ b. b == byte) text ≡ take (position_or_len (λ b. b == byte) text) text ∷ slice_split (λ b. b == byte) (drop (position_or_len (λ b. b == byte) text + 1) text) = slice_split_first (λ b. b == byte) text 0 inside in
    record {
      some = list_any_at (λ b. b == byte) text (position_or_len (λ b. b == byte) text) 0 inside (passes_at_first (λ b. b == byte) text 0 inside);
      before_is = ap (λ (n : ℕ). take n text) same;
      behind_is = all ∙ ap (λ (n : ℕ). drop (n + 1) text) same;
      fields = rw (all, same) parts;
      shorter = rw all (omega (arith, length-drop (at + 1) text));
    }
