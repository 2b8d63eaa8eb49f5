-- Names compared label by label, from the first on; a later label decides before an earlier one.
use Rattle.std.proofs.Common.{◌≡◌, ℕ, ◌+◌, ◌-◌, ◌⊎◌, inl, inr, List, [], ◌∷◌, ◌++◌, length, take, drop, reverse, refl, sym, ap, ◌∙◌, arith, length-drop}
use Rattle.std.specs.Cmp.{nat_cmp_is}
use Rattle.std.specs.Cmp.Lexicographic.{slice_cmp}
use Rattle.std.specs.Ordering.{nat_cmp, ordering_then}
use Rattle.std.specs.declared.cmp.Ordering.{Ordering}
use Rattle.std.specs.declared.cmp.Ordering.TheVariants.{Less, Equal, Greater}
use Rattle.std.proofs.lemmas.Bool.{cases_lt}
use Rattle.std.proofs.lemmas.List.{length-reverse, length-take, reverse-append, take-append-drop}
use Rattle.std.proofs.lemmas.Bool.Decides.{nat_tests}
use Rattle.dns_name.specs.Order.{label_order, canonical_order}

then-then : (a b c : Ordering) → ordering_then (ordering_then a b) c ≡ ordering_then a (ordering_then b c)
then-then Less b c = refl
then-then Equal b c = refl
then-then Greater b c = refl

slice_cmp-append : (xs ys us vs : List (List ℕ)) → length xs ≡ length ys → slice_cmp label_order (xs ++ us) (ys ++ vs) ≡ ordering_then (slice_cmp label_order xs ys) (slice_cmp label_order us vs)
slice_cmp-append [] [] us vs e = refl
slice_cmp-append [] (y ∷ ys) us vs e = absurd (omega arith)
slice_cmp-append (x ∷ xs) [] us vs e = absurd (omega arith)
slice_cmp-append (x ∷ xs) (y ∷ ys) us vs e =
    ap (ordering_then (label_order x y)) (slice_cmp-append xs ys us vs (omega arith))
    ∙ sym (then-then (label_order x y) (slice_cmp label_order xs ys) (slice_cmp label_order us vs))

-- the order of names with as many labels, and then another
abbrev pub order_then : List (List ℕ) → List (List ℕ) → Ordering → Ordering
order_then a b o = ordering_then (slice_cmp label_order (reverse a) (reverse b)) o

pub order_then-more : (a b : List ℕ) (xs ys : List (List ℕ)) (o : Ordering) → length xs ≡ length ys → order_then xs ys (ordering_then (label_order a b) o) ≡ order_then (a ∷ xs) (b ∷ ys) o
order_then-more a b xs ys o e =
    let rest = slice_cmp label_order (reverse xs) (reverse ys) in
    let whole : slice_cmp label_order (reverse (a ∷ xs)) (reverse (b ∷ ys)) ≡ ordering_then rest (ordering_then (label_order a b) Equal) =
    ap (λ (zs : List (List ℕ)). slice_cmp label_order zs (reverse (b ∷ ys))) (reverse-append (a ∷ []) xs)
    ∙ ap (slice_cmp label_order (reverse xs ++ a ∷ [])) (reverse-append (b ∷ []) ys)
    ∙ slice_cmp-append (reverse xs) (reverse ys) (a ∷ []) (b ∷ []) (length-reverse xs ∙ e ∙ sym (length-reverse ys)) in
    sym (ap (λ x. ordering_then x o) whole ∙ then-then rest (ordering_then (label_order a b) Equal) o ∙ ap (ordering_then rest) (then-then (label_order a b) Equal o))

ended : (xs ys : List (List ℕ)) → (length xs ≡ 0) ⊎ (length ys ≡ 0) → nat_cmp (length xs) (length ys) ≡ slice_cmp label_order xs ys
ended [] [] h = refl
ended [] (y ∷ ys) h = sym (nat_cmp_is (length {A = List ℕ} []) (length (y ∷ ys)) Less (omega arith))
ended (x ∷ xs) [] h = sym (nat_cmp_is (length (x ∷ xs)) (length {A = List ℕ} []) Greater (omega arith))
ended (x ∷ xs) (y ∷ ys) (inl h) = absurd (omega (arith, h))
ended (x ∷ xs) (y ∷ ys) (inr h) = absurd (omega (arith, h))

nat_cmp-add : (i m n : ℕ) → nat_cmp (i + m) (i + n) ≡ nat_cmp m n
nat_cmp-add i m n = grind (arith, nat_tests)

one_none : (m n x y : ℕ) → x ≡ m - n → y ≡ n - m → (x ≡ 0) ⊎ (y ≡ 0)
one_none m n x y ex ey = elim (cases_lt m n) [ inl lt ↦ inl (omega arith) | inr le ↦ inr (omega arith) ]

cut : (a : List (List ℕ)) (k : ℕ) → reverse a ≡ reverse (drop k a) ++ reverse (take k a)
cut a k = ap reverse (sym (take-append-drop k a)) ∙ reverse-append (take k a) (drop k a)

-- the labels that the longer name has more decide last
pub order_then-start : (a b : List (List ℕ)) (k j : ℕ) → k ≡ length a - length b → j ≡ length b - length a → order_then (drop k a) (drop j b) (nat_cmp (length a) (length b)) ≡ canonical_order a b
order_then-start a b k j ek ej =
    let us = reverse (take k a) in
    let vs = reverse (take j b) in
    let m = length (drop k a) in
    let lu : length us ≡ k = omega (arith, length-reverse (take k a), length-take k a) in
    let lv : length vs ≡ j = omega (arith, length-reverse (take j b), length-take j b) in
    let same : length (drop k a) ≡ length (drop j b) = omega (arith, length-drop k a, length-drop j b) in
    let na : length a ≡ m + length us = omega (arith, length-drop k a) in
    let nb : length b ≡ m + length vs = omega (arith, length-drop j b, length-drop k a) in
    let none : (length us ≡ 0) ⊎ (length vs ≡ 0) = one_none (length a) (length b) (length us) (length vs) (lu ∙ ek) (lv ∙ ej) in
    let last : nat_cmp (length a) (length b) ≡ slice_cmp label_order us vs =
    ap (λ (n : ℕ). nat_cmp n (length b)) na ∙ ap (nat_cmp (m + length us)) nb ∙ nat_cmp-add m (length us) (length vs) ∙ ended us vs none in
    ap (order_then (drop k a) (drop j b)) last
    ∙ sym (ap (λ (xs : List (List ℕ)). slice_cmp label_order xs (reverse b)) (cut a k)
    ∙ ap (slice_cmp label_order (reverse (drop k a) ++ us)) (cut b j)
    ∙ slice_cmp-append (reverse (drop k a)) (reverse (drop j b)) us vs (length-reverse (drop k a) ∙ same ∙ sym (length-reverse (drop j b))))
