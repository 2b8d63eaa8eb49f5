-- Lists in blocks of equal length.
use Rattle.std.proofs.Common.{take, drop, slice_range, ◌≤◌, ◌≡◌, ℕ, zero, suc, ◌+◌, ◌-◌, ◌*◌, ◌<◌, Some, List, [], ◌∷◌, ◌++◌, length, map, refl, sym, ap, ◌∙◌, arith, slice_get, slice_index_or, length-append, append_assoc, append-nil}
use Rattle.std.proofs.lemmas.Option.{slice_get-get_or}
use Rattle.std.proofs.Math.ListN.{set}
use Rattle.std.proofs.lemmas.List.{set-append_left, set-append_right, take-append-le, drop-append-le, length-drop}
use Rattle.std.proofs.Math.Seq.{drop-append-add}
use Rattle.std.specs.List.{AllByRecursion, flat_map}

module _ {T : Type 0} where
  pub get_left : (xs ys : List T) (i : ℕ) → i < length xs → slice_get (xs ++ ys) i ≡ slice_get xs i
  get_left [] ys i h = absurd (omega arith)
  get_left (x ∷ xs) ys zero h = refl
  get_left (x ∷ xs) ys (suc i) h = get_left xs ys i (omega arith)

  pub get_right : (xs ys : List T) (i j : ℕ) → i ≡ length xs + j → slice_get (xs ++ ys) i ≡ slice_get ys j
  get_right [] ys i j e = ap (slice_get ys) (omega arith)
  get_right (x ∷ xs) ys zero j e = absurd (omega arith)
  get_right (x ∷ xs) ys (suc i) j e = get_right xs ys i j (omega arith)

  pub got : (xs : List T) (i : ℕ) (x : T) → i < length xs → x ≡ slice_index_or xs i x → slice_get xs i ≡ Some x
  got xs i x h e = slice_get-get_or xs i x h ∙ ap Some (sym e)

  pub range_left : (xs ys : List T) (a b : ℕ) → a ≤ b → b ≤ length xs → slice_range (xs ++ ys) a b ≡ slice_range xs a b
  range_left xs ys a b h k =
      ap (take (b - a)) (drop-append-le a xs ys (omega arith)) ∙ take-append-le (b - a) (drop a xs) ys (omega (arith, length-drop a xs))

  pub range_right : (xs ys : List T) (a b i j : ℕ) → a ≡ length xs + i → b ≡ length xs + j → slice_range (xs ++ ys) a b ≡ slice_range ys i j
  range_right xs ys a b i j e f =
      let n : b - a ≡ j - i = omega arith in
      ap (λ m. take (b - a) (drop m (xs ++ ys))) e ∙ ap (take (b - a)) (drop-append-add xs ys i) ∙ ap (λ m. take m (drop i ys)) n

  some_same : (x y : T) → Some x ≡ Some y → x ≡ y
  some_same x y e = cc e

module _ {B T : Type 0} (size : ℕ) (f : B → List T) where
  abbrev pub Full : List B → Type 0
  Full bs = AllByRecursion (λ b. length (f b) ≡ size) bs

  pub length_full : (bs : List B) → Full bs → length (flat_map f bs) ≡ length bs * size
  length_full [] all = omega arith
  length_full (b ∷ bs) all = omega (arith, length-append (f b) (flat_map f bs), length_full bs all.1, all.0)

  pub length_all : (bs : List B) (rest : List T) → Full bs → length (flat_map f bs ++ rest) ≡ length bs * size + length rest
  length_all bs rest all = omega (arith, length-append (flat_map f bs) rest, length_full bs all)

  pub block_is_full : (bs : List B) (k : ℕ) (b : B) → Full bs → slice_get bs k ≡ Some b → length (f b) ≡ size
  block_is_full [] k b all e = cc e
  block_is_full (x ∷ bs) zero b all e = ap (λ y. length (f y)) (sym (some_same x b e)) ∙ all.0
  block_is_full (x ∷ bs) (suc k) b all e = block_is_full bs k b all.1 e

  -- an item of a full block
  pub get_full : (bs : List B) (rest : List T) (k j i : ℕ) (b : B) → Full bs → j < size → i ≡ k * size + j → slice_get bs k ≡ Some b → slice_get (flat_map f bs ++ rest) i ≡ slice_get (f b) j
  get_full [] rest k j i b all h s e = cc e
  get_full (x ∷ bs) rest zero j i b all h s e =
      rw append_assoc (
      let le : i < length (f x) = omega (arith, all.0) in
      let same : i ≡ j = omega arith in
      get_left (f x) (flat_map f bs ++ rest) i le ∙ ap (slice_get (f x)) same ∙ ap (λ y. slice_get (f y) j) (some_same x b e))
  get_full (x ∷ bs) rest (suc k) j i b all h s e =
      rw append_assoc (
      get_right (f x) (flat_map f bs ++ rest) i (k * size + j) (omega (arith, all.0)) ∙ get_full bs rest k j (k * size + j) b all.1 h refl e)

  -- an item behind the full blocks
  pub get_rest : (bs : List B) (rest : List T) (i j : ℕ) → Full bs → i ≡ length bs * size + j → slice_get (flat_map f bs ++ rest) i ≡ slice_get rest j
  get_rest bs rest i j all s = get_right (flat_map f bs) rest i j (omega (arith, length_full bs all))

  -- a part of a full block
  pub range_full : (bs : List B) (rest : List T) (k j count i : ℕ) (b : B) → Full bs → j + count ≤ size → i ≡ k * size + j → slice_get bs k ≡ Some b → slice_range (flat_map f bs ++ rest) i (i + count) ≡ slice_range (f b) j (j + count)
  range_full [] rest k j count i b all h s e = cc e
  range_full (x ∷ bs) rest zero j count i b all h s e =
      let le : i + count ≤ length (f x) = omega (arith, all.0) in
      let same : i ≡ j = omega arith in
      ap (λ l. slice_range l i (i + count)) (append_assoc (f x) (flat_map f bs) rest)
      ∙ range_left (f x) (flat_map f bs ++ rest) i (i + count) (omega arith) le
      ∙ ap (λ m. slice_range (f x) m (m + count)) same ∙ ap (λ y. slice_range (f y) j (j + count)) (some_same x b e)
  range_full (x ∷ bs) rest (suc k) j count i b all h s e =
      ap (λ l. slice_range l i (i + count)) (append_assoc (f x) (flat_map f bs) rest)
      ∙ range_right (f x) (flat_map f bs ++ rest) i (i + count) (k * size + j) (k * size + j + count) (omega (arith, all.0)) (omega (arith, all.0))
      ∙ range_full bs rest k j count (k * size + j) b all.1 h refl e

  -- a part behind the full blocks
  pub range_rest : (bs : List B) (rest : List T) (i j count : ℕ) → Full bs → i ≡ length bs * size + j → slice_range (flat_map f bs ++ rest) i (i + count) ≡ slice_range rest j (j + count)
  range_rest bs rest i j count all s = range_right (flat_map f bs) rest i (i + count) j (j + count) (omega (arith, length_full bs all)) (omega (arith, length_full bs all))

  -- an item of a full block is replaced
  pub set_full : (bs : List B) (rest : List T) (k j i : ℕ) (b new : B) (x : T) → Full bs → j < size → i ≡ k * size + j → slice_get bs k ≡ Some b → f new ≡ set (f b) j x
      → flat_map f (set bs k new) ++ rest ≡ set (flat_map f bs ++ rest) i x
  set_full [] rest k j i b new x all h s e g = cc e
  set_full (y ∷ bs) rest zero j i b new x all h s e g =
      let le : i < length (f y) = omega (arith, all.0) in
      let same : i ≡ j = omega arith in
      append_assoc (f new) (flat_map f bs) rest ∙ ap (λ l. l ++ (flat_map f bs ++ rest)) (g ∙ ap (λ z. set (f z) j x) (sym (some_same y b e)) ∙ ap (λ m. set (f y) m x) (sym same))
      ∙ sym (set-append_left (f y) (flat_map f bs ++ rest) i x le) ∙ ap (λ l. set l i x) (sym (append_assoc (f y) (flat_map f bs) rest))
  set_full (y ∷ bs) rest (suc k) j i b new x all h s e g =
      let there : i - size ≡ k * size + j = omega arith in
      append_assoc (f y) (flat_map f (set bs k new)) rest ∙ ap (λ l. f y ++ l) (set_full bs rest k j (i - size) b new x all.1 h there e g)
      ∙ sym (set-append_right (f y) (flat_map f bs ++ rest) size i x all.0 (omega arith)) ∙ ap (λ l. set l i x) (sym (append_assoc (f y) (flat_map f bs) rest))

  pub full_set : (bs : List B) (k : ℕ) (new : B) → Full bs → length (f new) ≡ size → Full (set bs k new)
  full_set [] k new all e = all
  full_set (y ∷ bs) zero new all e = (e, all.1)
  full_set (y ∷ bs) (suc k) new all e = (all.0, full_set bs k new all.1 e)

  pub set_rest : (bs : List B) (rest : List T) (i j : ℕ) (x : T) → Full bs → i ≡ length bs * size + j → flat_map f bs ++ set rest j x ≡ set (flat_map f bs ++ rest) i x
  set_rest bs rest i j x all s =
      let there : j ≡ i - length bs * size = omega arith in
      ap (λ m. flat_map f bs ++ set rest m x) there ∙ sym (set-append_right (flat_map f bs) rest (length bs * size) i x (length_full bs all) (omega arith))

pub as_many : {A B : Type 0} (f : A → B) (xs : List A) → length (map f xs) ≡ length xs
as_many f [] = refl
as_many f (x ∷ xs) = omega (arith, as_many f xs)

flat_one : {B T : Type 0} (f : B → List T) (bs : List B) (b : B) → flat_map f (bs ++ b ∷ []) ≡ flat_map f bs ++ f b
flat_one f [] b = append-nil (f b)
flat_one f (x ∷ bs) b = ap (λ l. f x ++ l) (flat_one f bs b) ∙ sym (append_assoc (f x) (flat_map f bs) (f b))

-- a block that the rest begins came behind the others, and then a new rest
pub block_came : {B T : Type 0} (f : B → List T) (bs : List B) (b : B) (rest fill new : List T) → f b ≡ rest ++ fill
    → flat_map f (bs ++ b ∷ []) ++ new ≡ (flat_map f bs ++ rest) ++ (fill ++ new)
block_came f bs b rest fill new e =
    ap (λ l. l ++ new) (flat_one f bs b ∙ ap (λ l. flat_map f bs ++ l) e ∙ sym (append_assoc (flat_map f bs) rest fill))
    ∙ append_assoc (flat_map f bs ++ rest) fill new
