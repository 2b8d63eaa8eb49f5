-- Stretches of lists.
use Rattle.std.proofs.Common.{◌≡◌, ℕ, suc, ◌+◌, ◌-◌, ◌<◌, ◌≤◌, List, [], ◌∷◌, ◌++◌, length, take, drop, get_or, map, refl, sym, ap, ◌∙◌, arith, append_assoc, length-drop}
use Rattle.std.proofs.lemmas.List.{take_all, take-take, drop-take, drop_at, take-append-le, drop-append-le, take-append-drop, drop_more, take_more, get_or-take, get_or-drop, length-take-le, drop-drop}
use Rattle.std.specs.List.{flat_map}

module _ {X : Type 0} where
  -- what comes behind changes no stretch
  pub stretch_kept : (xs more : List X) (from n : ℕ) → from + n ≤ length xs → take n (drop from (xs ++ more)) ≡ take n (drop from xs)
  stretch_kept xs more from n h =
      ap (take n) (drop-append-le from xs more (omega arith))
      ∙ take-append-le n (drop from xs) more (omega (arith, length-drop from xs))

  pub stretch_new : (xs ys : List X) → take (length ys) (drop (length xs) (xs ++ ys)) ≡ ys
  stretch_new xs ys = ap (take (length ys)) (drop_at xs ys (length xs) refl) ∙ take_all (length ys) ys (omega arith)

  pub length_stretch : (xs : List X) (from n : ℕ) → from + n ≤ length xs → length (take n (drop from xs)) ≡ n
  length_stretch xs from n h = length-take-le n (drop from xs) (omega (arith, length-drop from xs))

  -- a list, taken apart at a place
  pub parted : (xs : List X) (place : ℕ) (d : X) → place < length xs → xs ≡ take place xs ++ (get_or xs place d ∷ drop (place + 1) xs)
  parted xs place d h = sym (take-append-drop place xs) ∙ ap (λ ys. take place xs ++ ys) (drop_more xs place d h)

  -- an item of a stretch
  pub stretch_at : (xs : List X) (from n place : ℕ) (d : X) → place < n → get_or (take n (drop from xs)) place d ≡ get_or xs (from + place) d
  stretch_at xs from n place d h = get_or-take n (drop from xs) place d h ∙ get_or-drop from xs place d

  -- one item more of a stretch
  pub stretch_more : (xs : List X) (from n : ℕ) (d : X) → from + n < length xs → take (n + 1) (drop from xs) ≡ take n (drop from xs) ++ get_or xs (from + n) d ∷ []
  stretch_more xs from n d h =
      take_more (drop from xs) n d (omega (arith, length-drop from xs))
      ∙ ap (λ y. take n (drop from xs) ++ y ∷ []) (get_or-drop from xs n d)

  -- the begin and the end of a stretch
  pub stretch_front : (xs : List X) (from n m : ℕ) → m ≤ n → take m (take n (drop from xs)) ≡ take m (drop from xs)
  stretch_front xs from n m h = take-take m n (drop from xs) h

  pub stretch_rest : (xs : List X) (from n m : ℕ) → m ≤ n → take (n - m) (drop (from + m) xs) ≡ drop m (take n (drop from xs))
  stretch_rest xs from n m h =
      let whole : m + (n - m) ≡ n = omega arith in
      ap (take (n - m)) (sym (drop-drop m from xs))
      ∙ sym (drop-take m (n - m) (drop from xs))
      ∙ ap (λ k. drop m (take k (drop from xs))) whole

module _ {X A : Type 0} (f : X → List A) where
  pub flat_append : (xs ys : List X) → flat_map f (xs ++ ys) ≡ flat_map f xs ++ flat_map f ys
  flat_append [] ys = refl
  flat_append (x ∷ xs) ys = ap (λ zs. f x ++ zs) (flat_append xs ys) ∙ sym (append_assoc (f x) (flat_map f xs) (flat_map f ys))

module _ {X Y : Type 0} (f : X → Y) where
  pub map_length : (xs : List X) → length (map f xs) ≡ length xs
  map_length [] = refl
  map_length (x ∷ xs) = ap suc (map_length xs)
