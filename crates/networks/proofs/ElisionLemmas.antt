-- Texts, and what stands before and behind their `::`.
use Rattle.std.proofs.Common.{◌≡◌, ℕ, zero, suc, ◌+◌, ◌-◌, ◌<◌, ◌≤◌, true, false, ◌&&◌, List, [], ◌∷◌, ◌++◌, length, get_or, take, drop, Option, Some, None, refl, sym, ap, ◌∙◌, subst, arith, append_assoc, length-drop}
use Rattle.std.proofs.lemmas.List.{append-nil, take_all, take_more}
use Rattle.std.specs.Option.{option_map}
use Rattle.networks.specs.V6.{at_elision, is_colon, with_first}

-- bytes before both sides
abbrev pub with_front : List ℕ → List ℕ × List ℕ → List ℕ × List ℕ
with_front front sides = (front ++ sides.0, sides.1)

front_more : (front : List ℕ) (x : ℕ) (o : Option (List ℕ × List ℕ)) → option_map (with_front front) (option_map (with_first x) o) ≡ option_map (with_front (front ++ x ∷ [])) o
front_more front x None = refl
front_more front x (Some sides) = ap (λ (l : List ℕ). let s : Option (List ℕ × List ℕ) = Some (l, sides.1) in s) (sym (append_assoc front (x ∷ []) sides.0))

no_front : (o : Option (List ℕ × List ℕ)) → o ≡ option_map (with_front []) o
no_front None = refl
no_front (Some sides) = refl

-- where `::` doesn't stand at a place, it stands behind it or nowhere
later : (text : List ℕ) (at next : ℕ) → next ≡ suc at → next < length text → (is_colon (get_or text at 0) && is_colon (get_or text next 0)) ≡ false
    → at_elision (drop at text) ≡ option_map (with_first (get_or text at 0)) (at_elision (drop next text))
later text at next e lt other = later_by text at (subst (λ (n : ℕ). n < length text) e lt) (subst (λ (n : ℕ). (is_colon (get_or text at 0) && is_colon (get_or text n 0)) ≡ false) e other) ∙ ap (λ (n : ℕ). option_map (with_first (get_or text at 0)) (at_elision (drop n text))) (sym e)
  where
    later_by : (text : List ℕ) (at : ℕ) → suc at < length text → (is_colon (get_or text at 0) && is_colon (get_or text (suc at) 0)) ≡ false
        → at_elision (drop at text) ≡ option_map (with_first (get_or text at 0)) (at_elision (drop (suc at) text))
    later_by [] at lt other = absurd (omega arith)
    later_by (x ∷ []) at lt other = absurd (omega arith)
    later_by (x ∷ y ∷ rest) zero lt other = rw other refl
    later_by (x ∷ y ∷ rest) (suc at) lt other = later_by (y ∷ rest) at (omega arith) other

pub elision_starts : (text : List ℕ) → at_elision text ≡ option_map (with_front (take 0 text)) (at_elision (drop 0 text))
elision_starts text = no_front (at_elision text)

pub elision_later : (text : List ℕ) (at : ℕ) → at + 1 < length text → (is_colon (get_or text at 0) && is_colon (get_or text (at + 1) 0)) ≡ false
    → at_elision text ≡ option_map (with_front (take at text)) (at_elision (drop at text))
    → at_elision text ≡ option_map (with_front (take (at + 1) text)) (at_elision (drop (at + 1) text))
elision_later text at lt other so_far =
    so_far ∙ ap (option_map (with_front (take at text))) (later text at (at + 1) (omega arith) lt other)
    ∙ front_more (take at text) (get_or text at 0) (at_elision (drop (at + 1) text))
    ∙ ap (λ (front : List ℕ). option_map (with_front front) (at_elision (drop (at + 1) text))) (sym (take_more text at 0 (omega arith)))

here_by : (text : List ℕ) (at : ℕ) → suc at < length text → (is_colon (get_or text at 0) && is_colon (get_or text (suc at) 0)) ≡ true → at_elision (drop at text) ≡ Some ([], drop (suc (suc at)) text)
here_by [] at lt both = absurd (omega arith)
here_by (x ∷ []) at lt both = absurd (omega arith)
here_by (x ∷ y ∷ rest) zero lt both = rw both refl
here_by (x ∷ y ∷ rest) (suc at) lt both = here_by (y ∷ rest) at (omega arith) both

here : (text : List ℕ) (at next behind : ℕ) → next ≡ suc at → behind ≡ suc (suc at) → next < length text → (is_colon (get_or text at 0) && is_colon (get_or text next 0)) ≡ true → at_elision (drop at text) ≡ Some ([], drop behind text)
here text at next behind e f lt both = rw f (here_by text at (subst (λ (n : ℕ). n < length text) e lt) (subst (λ (n : ℕ). (is_colon (get_or text at 0) && is_colon (get_or text n 0)) ≡ true) e both))

pub elision_here : (text : List ℕ) (at : ℕ) → at + 1 < length text → (is_colon (get_or text at 0) && is_colon (get_or text (at + 1) 0)) ≡ true
    → at_elision text ≡ option_map (with_front (take at text)) (at_elision (drop at text))
    → Some (take at text, take (length text - (at + 2)) (drop (at + 2) text)) ≡ at_elision text
elision_here text at lt both so_far =
    let all : take (length text - (at + 2)) (drop (at + 2) text) ≡ drop (at + 2) text = take_all (length text - (at + 2)) (drop (at + 2) text) (omega (arith, length-drop (at + 2) text)) in
    let found : at_elision (drop at text) ≡ Some ([], drop (at + 2) text) = here text at (at + 1) (at + 2) (omega arith) (omega arith) lt both in
    sym (so_far ∙ ap (option_map (with_front (take at text))) found
    ∙ ap (λ (front : List ℕ). let s : Option (List ℕ × List ℕ) = Some (front, drop (at + 2) text) in s) (append-nil (take at text))
    ∙ ap (λ (behind : List ℕ). let s : Option (List ℕ × List ℕ) = Some (take at text, behind) in s) (sym all))

ended : (text : List ℕ) (at : ℕ) → length text ≤ suc at → at_elision (drop at text) ≡ None
ended [] zero le = refl
ended [] (suc at) le = refl
ended (x ∷ []) zero le = refl
ended (x ∷ y ∷ rest) zero le = absurd (omega arith)
ended (x ∷ xs) (suc at) le = ended xs at (omega arith)

pub elision_nowhere : (text : List ℕ) (at : ℕ) → length text ≤ at + 1 → at_elision text ≡ option_map (with_front (take at text)) (at_elision (drop at text)) → None ≡ at_elision text
elision_nowhere text at le so_far = sym (so_far ∙ ap (option_map (with_front (take at text))) (ended text at (omega arith)))
