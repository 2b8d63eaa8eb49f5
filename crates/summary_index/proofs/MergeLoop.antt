-- The loops that make one list of two.
use Rattle.std.proofs.Common.{◌≡◌, ℕ, suc, ◌+◌, ◌-◌, ◌<◌, ◌≤◌, ◌⊎◌, inl, inr, List, [], ◌∷◌, ◌++◌, length, map, take, drop, get_or, refl, sym, ap, ◌∙◌, arith, append_assoc, append-nil, length-drop}
use Rattle.std.proofs.Math.Seq.{drop-cons}
use Rattle.std.proofs.lemmas.List.{drop_all, map-append, take_all, take_more}
use Rattle.std.proofs.lemmas.Simd.{map-map}
use Rattle.std.specs.List.{flat_map}
use Rattle.std.specs.Ordering.{match_ordering}
use Rattle.std.specs.declared.cmp.Ordering.{Ordering}
use Rattle.std.specs.declared.cmp.Ordering.TheVariants.{Less, Equal, Greater}
use Rattle.summary_index.specs.Merged.{merged, merged_with, next_of}

-- one more entry at the end
pub one_more : {X E : Type 0} (f : X → E) (es : List X) (i : ℕ) (x : X) (before out new : List E) → i < length es → x ≡ get_or es i x
    → out ≡ before ++ map f (take i es) → new ≡ out ++ f x ∷ [] → new ≡ before ++ map f (take (i + 1) es)
one_more f es i x before out new h is e step =
    let more : take (i + 1) es ≡ take i es ++ x ∷ [] = take_more es i x h ∙ ap (λ y. take i es ++ y ∷ []) (sym is) in
    step
    ∙ ap (λ xs. xs ++ f x ∷ []) e
    ∙ append_assoc before (map f (take i es)) (f x ∷ [])
    ∙ ap (λ xs. before ++ xs) (sym (map-append f (take i es) (x ∷ [])) ∙ ap (map f) (sym more))

-- all entries are gone through
pub all_mapped : {X D E : Type 0} (f : D → E) (g : X → D) (es : List X) (i : ℕ) (out : List E) → length es ≤ i → out ≡ map (λ e. f (g e)) (take i es) → out ≡ map f (map g es)
all_mapped f g es i out h e = e ∙ ap (map (λ e. f (g e))) (take_all i es h) ∙ sym (map-map f g es)

flat_map-map : {X D E : Type 0} (f : D → List E) (g : X → D) (es : List X) → flat_map f (map g es) ≡ flat_map (λ e. f (g e)) es
flat_map-map f g [] = refl
flat_map-map f g (e ∷ es) = ap (λ xs. f (g e) ++ xs) (flat_map-map f g es)

pub all_left : {X D E : Type 0} (f : D → List E) (g : X → D) (es : List X) (i : ℕ) (out : List E) → length es ≤ i → out ≡ flat_map (λ e. f (g e)) (take i es) → out ≡ flat_map f (map g es)
all_left f g es i out h e = e ∙ ap (flat_map (λ e. f (g e))) (take_all i es h) ∙ sym (flat_map-map f g es)

module _ {X K V : Type 0} (R : K → K → Ordering) (both : V → V → V) (f : X → K × V) where
  -- so far have the lists been gone through, and what was put so far with what is left is the whole
  pub record IsMerging (first second : List X) (out : List (K × V)) (i j : ℕ) : Type 0 where
    pub first_within : i ≤ length first
    pub second_within : j ≤ length second
    pub rest : out ++ merged R both (map f (drop i first)) (map f (drop j second)) ≡ merged R both (map f first) (map f second)

  heads : (out : List (K × V)) (x y : X) (xs ys : List X) (o : Ordering) → o ≡ R (f x).0 (f y).0
      → out ++ merged R both (map f (x ∷ xs)) (map f (y ∷ ys))
      ≡ (out ++ next_of both o (f x) (f y) ∷ []) ++ match_ordering o (merged R both (map f xs) (map f (y ∷ ys))) (merged R both (map f xs) (map f ys)) (merged R both (map f (x ∷ xs)) (map f ys))
  heads out x y xs ys o e =
      ap (λ r. out ++ match_ordering r (f x ∷ merged R both (map f xs) (map f (y ∷ ys))) (((f x).0, both (f x).1 (f y).1) ∷ merged R both (map f xs) (map f ys)) (f y ∷ merged_with R both (f x) (merged R both (map f xs)) (map f ys))) (sym e)
      ∙ by_order o where
        by_order : (r : Ordering) → out ++ match_ordering r (f x ∷ merged R both (map f xs) (map f (y ∷ ys))) (((f x).0, both (f x).1 (f y).1) ∷ merged R both (map f xs) (map f ys)) (f y ∷ merged_with R both (f x) (merged R both (map f xs)) (map f ys))
            ≡ (out ++ next_of both r (f x) (f y) ∷ []) ++ match_ordering r (merged R both (map f xs) (map f (y ∷ ys))) (merged R both (map f xs) (map f ys)) (merged R both (map f (x ∷ xs)) (map f ys))
        by_order Less = sym (append_assoc out (f x ∷ []) (merged R both (map f xs) (map f (y ∷ ys))))
        by_order Equal = sym (append_assoc out (((f x).0, both (f x).1 (f y).1) ∷ []) (merged R both (map f xs) (map f ys)))
        by_order Greater = sym (append_assoc out (f y ∷ []) (merged R both (map f (x ∷ xs)) (map f ys)))

  -- what is left behind the next entry
  left : (first second : List X) (x y : X) (i j : ℕ) (o : Ordering) → drop i first ≡ x ∷ drop (i + 1) first → drop j second ≡ y ∷ drop (j + 1) second
      → match_ordering o (merged R both (map f (drop (i + 1) first)) (map f (y ∷ drop (j + 1) second))) (merged R both (map f (drop (i + 1) first)) (map f (drop (j + 1) second))) (merged R both (map f (x ∷ drop (i + 1) first)) (map f (drop (j + 1) second)))
      ≡ merged R both (map f (drop (i + match_ordering o 1 1 0) first)) (map f (drop (j + match_ordering o 0 1 1) second))
  left first second x y i j Less e d =
      let same : j ≡ j + 0 = omega arith in
      ap (λ ys. merged R both (map f (drop (i + 1) first)) (map f ys)) (sym d ∙ ap (λ n. drop n second) same)
  left first second x y i j Equal e d = refl
  left first second x y i j Greater e d =
      let same : i ≡ i + 0 = omega arith in
      ap (λ xs. merged R both (map f xs) (map f (drop (j + 1) second))) (sym e ∙ ap (λ n. drop n first) same)

  opened : (es : List X) (i : ℕ) (x : X) → i < length es → x ≡ get_or es i x → drop i es ≡ x ∷ drop (i + 1) es
  opened es i x h is =
      let next : suc i ≡ i + 1 = omega arith in
      drop-cons es i x h ∙ (λ k. sym is k ∷ drop (next k) es)

  -- the next entry is put at the end
  pub goes_on : (first second : List X) (x y : X) (out new : List (K × V)) (i j m n : ℕ) (o : Ordering) → IsMerging first second out i j → i < length first → j < length second
      → x ≡ get_or first i x → y ≡ get_or second j y → o ≡ R (f x).0 (f y).0 → new ≡ out ++ next_of both o (f x) (f y) ∷ []
      → m ≡ match_ordering o 1 1 0 → n ≡ match_ordering o 0 1 1 → m ≤ 1 → n ≤ 1 → IsMerging first second new (i + m) (j + n)
  goes_on first second x y out new i j m n o is hi hj ex ey eo en em ek lm ln =
      let e : drop i first ≡ x ∷ drop (i + 1) first = opened first i x hi ex in
      let d : drop j second ≡ y ∷ drop (j + 1) second = opened second j y hj ey in
      record {
        first_within = omega (arith, hi, lm);
        second_within = omega (arith, hj, ln);
        rest =
            (λ k. en k ++ merged R both (map f (drop (i + em k) first)) (map f (drop (j + ek k) second)))
            ∙ ap (λ xs. (out ++ next_of both o (f x) (f y) ∷ []) ++ xs) (sym (left first second x y i j o e d))
            ∙ sym (heads out x y (drop (i + 1) first) (drop (j + 1) second) o eo)
            ∙ (λ k. out ++ merged R both (map f (sym e k)) (map f (sym d k)))
            ∙ is.rest;
      }

  pub at_first : (first second : List X) (out : List (K × V)) → out ≡ [] → IsMerging first second out 0 0
  at_first first second out e = record {
    first_within = omega arith;
    second_within = omega arith;
    rest = ap (λ xs. xs ++ merged R both (map f first) (map f second)) e;
  }

  with_none : (xs : List (K × V)) → merged R both xs [] ≡ xs
  with_none [] = refl
  with_none (x ∷ xs) = ap (λ ys. x ∷ ys) (with_none xs)

  one_left : (first second : List X) (i j : ℕ) → (length first ≤ i) ⊎ (length second ≤ j)
      → map f (drop i first) ++ map f (drop j second) ≡ merged R both (map f (drop i first)) (map f (drop j second))
  one_left first second i j (inl h) =
      let e : drop i first ≡ [] = drop_all i first h in
      ap (λ xs. map f xs ++ map f (drop j second)) e ∙ ap (λ xs. merged R both (map f xs) (map f (drop j second))) (sym e)
  one_left first second i j (inr h) =
      let e : drop j second ≡ [] = drop_all j second h in
      ap (λ ys. map f (drop i first) ++ map f ys) e
      ∙ append-nil (map f (drop i first))
      ∙ sym (with_none (map f (drop i first)))
      ∙ ap (λ ys. merged R both (map f (drop i first)) (map f ys)) (sym e)

  part : (es : List X) (i : ℕ) → take (length es - i) (drop i es) ≡ drop i es
  part es i = take_all (length es - i) (drop i es) (omega (arith, length-drop i es))

  -- what is left of both is put at the end
  pub ends : (first second : List X) (out then all : List (K × V)) (i j : ℕ) → IsMerging first second out i j → (length first ≤ i) ⊎ (length second ≤ j)
      → then ≡ out ++ map f (take (length first - i) (drop i first)) → all ≡ then ++ map f (take (length second - j) (drop j second))
      → all ≡ merged R both (map f first) (map f second)
  ends first second out then all i j is last e d =
      d
      ∙ (λ k. e k ++ map f (part second j k))
      ∙ ap (λ xs. (out ++ map f xs) ++ map f (drop j second)) (part first i)
      ∙ append_assoc out (map f (drop i first)) (map f (drop j second))
      ∙ ap (λ xs. out ++ xs) (one_left first second i j last)
      ∙ is.rest

-- entries as they are
abbrev pub itself : {E : Type 0} → E → E
itself e = e

module _ {K V : Type 0} (R : K → K → Ordering) (both : V → V → V) where
  as_it_is : (es : List (K × V)) → map itself es ≡ es
  as_it_is [] = refl
  as_it_is (e ∷ es) = ap (λ xs. e ∷ xs) (as_it_is es)

  pub ends_as_they_are : (first second out then all : List (K × V)) (i j : ℕ) → IsMerging R both itself first second out i j → (length first ≤ i) ⊎ (length second ≤ j)
      → then ≡ out ++ take (length first - i) (drop i first) → all ≡ then ++ take (length second - j) (drop j second) → all ≡ merged R both first second
  ends_as_they_are first second out then all i j is last e d =
      ends R both itself first second out then all i j is last
      (e ∙ ap (λ xs. out ++ xs) (sym (as_it_is (take (length first - i) (drop i first)))))
      (d ∙ ap (λ xs. then ++ xs) (sym (as_it_is (take (length second - j) (drop j second)))))
      ∙ (λ k. merged R both (as_it_is first k) (as_it_is second k))

-- what is left of both becomes less
pub some_done : (o : Ordering) (m n : ℕ) → m ≡ match_ordering o 1 1 0 → n ≡ match_ordering o 0 1 1 → 1 ≤ m + n
some_done Less m n e d = omega (arith, e, d)
some_done Equal m n e d = omega (arith, e, d)
some_done Greater m n e d = omega (arith, e, d)
