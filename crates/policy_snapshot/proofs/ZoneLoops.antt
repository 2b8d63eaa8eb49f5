-- Loops over zones: a list that is made one by one, and what is left of the list that a loop goes over.
use Rattle.std.proofs.Common.{◌≡◌, ℕ, suc, ◌+◌, ◌<◌, ◌≤◌, List, [], ◌∷◌, ◌++◌, map, take, drop, length, get_or, sym, ap, ◌∙◌, arith, drop-cons}
use Rattle.std.specs.Prelude.{slice_set}
use Rattle.std.proofs.lemmas.List.{length-map, get_or-map, drop_all, map-append, map-set, take_all, take_more}

-- ---- a list that is made one by one

module _ {X Y Z : Type 0} (f : X → Z) (g : Y → Z) where
  pub one_more : (xs : List X) (made longer : List Y) (k : ℕ) (x : X) (y : Y) → k < length xs → x ≡ get_or xs k x → g y ≡ f x → map g made ≡ map f (take k xs) → longer ≡ made ++ y ∷ [] → map g longer ≡ map f (take (k + 1) xs)
  one_more xs made longer k x y lt is same before e =
      ap (map g) e ∙ map-append g made (y ∷ []) ∙ (λ i. before i ++ same i ∷ [])
      ∙ ap (λ (z : X). map f (take k xs) ++ f z ∷ []) is
      ∙ sym (map-append f (take k xs) (get_or xs k x ∷ []))
      ∙ ap (map f) (sym (take_more xs k x lt))

  pub all_made : (xs : List X) (made : List Y) (k : ℕ) → length xs ≤ k → map g made ≡ map f (take k xs) → map g made ≡ map f xs
  all_made xs made k le e = e ∙ ap (map f) (take_all k xs le)

  pub same_length : (xs : List X) (made : List Y) → map g made ≡ map f xs → length made ≡ length xs
  same_length xs made e = sym (length-map made g) ∙ ap length e ∙ length-map xs f

module _ {Y Z : Type 0} (g : Y → Z) where
  -- an element that is set, as its value is set
  pub value_set : (xs ys : List Y) (k : ℕ) (y : Y) (z : Z) → map g ys ≡ map g xs → g y ≡ z → map g (slice_set ys k y) ≡ slice_set (map g xs) k z
  value_set xs ys k y z e same = map-set g ys k y ∙ (λ i. slice_set (e i) k (same i))

  -- what is left from an index on begins with the element there
  pub left_at : (ys : List Y) (k : ℕ) (y : Y) → k < length ys → y ≡ get_or ys k y → drop k (map g ys) ≡ g y ∷ drop (k + 1) (map g ys)
  left_at ys k y lt is =
      let on : suc k ≡ k + 1 = omega arith in
      drop-cons (map g ys) k (g y) (omega (arith, lt, length-map ys g))
      ∙ ap (λ (z : Z). z ∷ drop (suc k) (map g ys)) (get_or-map g ys k y (g y) lt ∙ ap g (sym is))
      ∙ ap (λ (n : ℕ). g y ∷ drop n (map g ys)) on

pub nothing_of : {Y Z : Type 0} (g : Y → Z) (ys : List Y) (k : ℕ) → length ys ≤ k → drop k (map g ys) ≡ []
nothing_of g ys k le = drop_all k (map g ys) (omega (arith, length-map ys g, le))
