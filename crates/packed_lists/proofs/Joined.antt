-- Rows in blocks, one behind another.
use Rattle.std.proofs.Common.{◌≡◌, ℕ, zero, suc, ◌+◌, ◌-◌, ◌≤◌, ◌<◌, ◌^◌, Bool, true, false, cond, not, Option, Some, None, List, [], ◌∷◌, ◌++◌, length, map, get_or, slice_get, take, drop, refl, ap, sym, ◌∙◌, subst, arith, length-append, append_assoc, ◌⊎◌, inl, inr}
use Rattle.std.proofs.Math.ListN.{set}
use Rattle.std.proofs.lemmas.Bool.{ne_eqb}
use Rattle.std.proofs.lemmas.List.{append-nil, take_more}
use Rattle.std.proofs.lemmas.Option.{slice_get_within, get_or_from_slice_get}
use Rattle.std.proofs.lemmas.List.Elements.{filter-append}
use Rattle.packed_lists.specs.Stored.{PlainStored, NumbersRise, row_of_number, has_number, without_number}
use Rattle.packed_lists.specs.Blocks.{PlainRowList, IsIndexed, joined, starts_of, head_or, AreKeyed}

some_same : {X : Type 0} (a b : X) → Some a ≡ Some b → a ≡ b
some_same a b e = cc e

-- lists

module _ {T : Type 0} where
  pub get_left : (xs ys : List T) (i : ℕ) → i < length xs → slice_get (xs ++ ys) i ≡ slice_get xs i
  get_left [] ys i h = absurd (omega arith)
  get_left (x ∷ xs) ys zero h = refl
  get_left (x ∷ xs) ys (suc i) h = get_left xs ys i (omega arith)

  pub get_right : (xs ys : List T) (i j : ℕ) → i ≡ length xs + j → slice_get (xs ++ ys) i ≡ slice_get ys j
  get_right [] ys i j e = ap (slice_get ys) (omega arith)
  get_right (x ∷ xs) ys zero j e = absurd (omega arith)
  get_right (x ∷ xs) ys (suc i) j e = get_right xs ys i j (omega arith)

  pub got_within : (xs : List T) (i : ℕ) (x : T) → slice_get xs i ≡ Some x → i < length xs
  got_within [] i x e = cc e
  got_within (y ∷ ys) zero x e = omega arith
  got_within (y ∷ ys) (suc i) x e = omega (arith, got_within ys i x e)

pub get_or_seam : (xs : List ℕ) (y n : ℕ) → n ≡ length xs → get_or (xs ++ y ∷ []) n 0 ≡ y
get_or_seam [] y zero e = refl
get_or_seam [] y (suc n) e = absurd (omega arith)
get_or_seam (x ∷ xs) y zero e = absurd (omega arith)
get_or_seam (x ∷ xs) y (suc n) e = get_or_seam xs y n (omega arith)

-- rows with rising numbers

pub rise_le : (low high : ℕ) (rows : List PlainStored) → NumbersRise low rows high → low ≤ high
rise_le low high [] rise = rise
rise_le low high (r ∷ rows) rise = omega (arith, rise.0, rise_le (r.number + 1) high rows rise.1)

pub rise_long : (low high : ℕ) (rows : List PlainStored) → NumbersRise low rows high → low + length rows ≤ high
rise_long low high [] rise = omega (arith, rise)
rise_long low high (r ∷ rows) rise = omega (arith, rise.0, rise_long (r.number + 1) high rows rise.1)

pub rise_low : (lower low high : ℕ) (rows : List PlainStored) → lower ≤ low → NumbersRise low rows high → NumbersRise lower rows high
rise_low lower low high [] h rise = omega (arith, rise)
rise_low lower low high (r ∷ rows) h rise = (omega (arith, rise.0), rise.1)

pub rise_high : (low high higher : ℕ) (rows : List PlainStored) → high ≤ higher → NumbersRise low rows high → NumbersRise low rows higher
rise_high low high higher [] h rise = omega (arith, rise)
rise_high low high higher (r ∷ rows) h rise = (rise.0, rise_high (r.number + 1) high higher rows h rise.1)

pub rise_append : (low middle high : ℕ) (xs ys : List PlainStored) → NumbersRise low xs middle → NumbersRise middle ys high → NumbersRise low (xs ++ ys) high
rise_append low middle high [] ys a b = rise_low low middle high ys a b
rise_append low middle high (r ∷ xs) ys a b = (a.0, rise_append (r.number + 1) middle high xs ys a.1 b)

pub rise_more : (low high : ℕ) (xs : List PlainStored) (row : PlainStored) → NumbersRise low xs high → high ≤ row.number → NumbersRise low (xs ++ row ∷ []) (row.number + 1)
rise_more low high xs row rise h = rise_append low high (row.number + 1) xs (row ∷ []) rise (h, omega arith)

keeps : (n : ℕ) (r : PlainStored) (rows kept : List PlainStored) → (r.number ≡ n → ⊥) → without_number n rows ≡ kept → without_number n (r ∷ rows) ≡ r ∷ kept
keeps n r rows kept ne e = ap (λ b. cond (not b) (r ∷ without_number n rows) (without_number n rows)) (ne_eqb r.number n ne) ∙ ap (λ l. r ∷ l) e

skips : (n : ℕ) (r : PlainStored) (rows : List PlainStored) (found : Option PlainStored) → (r.number ≡ n → ⊥) → row_of_number n rows ≡ found → row_of_number n (r ∷ rows) ≡ found
skips n r rows found ne e = ap (λ b. cond b (Some r) (row_of_number n rows)) (ne_eqb r.number n ne) ∙ e

pub below_none : (n low high : ℕ) (rows : List PlainStored) → NumbersRise low rows high → n < low → row_of_number n rows ≡ None
below_none n low high [] rise h = refl
below_none n low high (r ∷ rows) rise h = skips n r rows None (λ e. omega (arith, rise.0)) (below_none n (r.number + 1) high rows rise.1 (omega (arith, rise.0)))

pub above_none : (n low high : ℕ) (rows : List PlainStored) → NumbersRise low rows high → high ≤ n → row_of_number n rows ≡ None
above_none n low high [] rise h = refl
above_none n low high (r ∷ rows) rise h =
    skips n r rows None (λ e. omega (arith, rise_le (r.number + 1) high rows rise.1)) (above_none n (r.number + 1) high rows rise.1 h)

pub below_kept : (n low high : ℕ) (rows : List PlainStored) → NumbersRise low rows high → n < low → without_number n rows ≡ rows
below_kept n low high [] rise h = refl
below_kept n low high (r ∷ rows) rise h = keeps n r rows rows (λ e. omega (arith, rise.0)) (below_kept n (r.number + 1) high rows rise.1 (omega (arith, rise.0)))

pub above_kept : (n low high : ℕ) (rows : List PlainStored) → NumbersRise low rows high → high ≤ n → without_number n rows ≡ rows
above_kept n low high [] rise h = refl
above_kept n low high (r ∷ rows) rise h =
    keeps n r rows rows (λ e. omega (arith, rise_le (r.number + 1) high rows rise.1)) (above_kept n (r.number + 1) high rows rise.1 h)

-- what a test lets through is no longer, and its numbers rise
rise_without_by : (b : Bool) (n low high : ℕ) (r : PlainStored) (rows : List PlainStored) → low ≤ r.number → NumbersRise (r.number + 1) (without_number n rows) high
    → NumbersRise low (cond (not b) (r ∷ without_number n rows) (without_number n rows)) high
rise_without_by true n low high r rows h rise = rise_low low (r.number + 1) high (without_number n rows) (omega arith) rise
rise_without_by false n low high r rows h rise = (h, rise)

pub rise_without : (n low high : ℕ) (rows : List PlainStored) → NumbersRise low rows high → NumbersRise low (without_number n rows) high
rise_without n low high [] rise = rise
rise_without n low high (r ∷ rows) rise = rise_without_by (has_number n r) n low high r rows rise.0 (rise_without n (r.number + 1) high rows rise.1)

fewer_by : (b : Bool) (r : PlainStored) (kept rows : List PlainStored) → length kept ≤ length rows → length (cond (not b) (r ∷ kept) kept) ≤ length (r ∷ rows)
fewer_by true r kept rows h = omega (arith, h)
fewer_by false r kept rows h = omega (arith, h)

pub fewer : (n : ℕ) (rows : List PlainStored) → length (without_number n rows) ≤ length rows
fewer n [] = omega arith
fewer n (r ∷ rows) = fewer_by (has_number n r) r (without_number n rows) rows (fewer n rows)

-- look-ups in two lists
found_left_by : (b : Bool) (n : ℕ) (r : PlainStored) (xs ys : List PlainStored) → row_of_number n (xs ++ ys) ≡ row_of_number n xs → cond b (Some r) (row_of_number n (xs ++ ys)) ≡ cond b (Some r) (row_of_number n xs)
found_left_by b n r xs ys e = ap (cond b (Some r)) e

pub found_left : (n : ℕ) (xs ys : List PlainStored) → row_of_number n ys ≡ None → row_of_number n (xs ++ ys) ≡ row_of_number n xs
found_left n [] ys e = e
found_left n (r ∷ xs) ys e = ap (cond (has_number n r) (Some r)) (found_left n xs ys e)

found_right_by : (b : Bool) (r : PlainStored) (x y z : Option PlainStored) → cond b (Some r) x ≡ None → (x ≡ None → y ≡ z) → cond b (Some r) y ≡ z
found_right_by true r x y z e f = cc e
found_right_by false r x y z e f = f e

pub found_right : (n : ℕ) (xs ys : List PlainStored) → row_of_number n xs ≡ None → row_of_number n (xs ++ ys) ≡ row_of_number n ys
found_right n [] ys e = refl
found_right n (r ∷ xs) ys e = found_right_by (has_number n r) r (row_of_number n xs) (row_of_number n (xs ++ ys)) (row_of_number n ys) e (found_right n xs ys)

-- blocks

pub rise_joined : (high : ℕ) (fs : List ℕ) (bs : List (List PlainStored)) → AreKeyed fs bs high → NumbersRise (head_or fs high) (joined bs) high
rise_joined high [] [] keyed = omega arith
rise_joined high [] (b ∷ bs) keyed = absurd keyed
rise_joined high (f ∷ fs) [] keyed = absurd keyed
rise_joined high (f ∷ fs) (b ∷ bs) keyed = rise_append f (head_or fs high) high b (joined bs) keyed.0 (rise_joined high fs bs keyed.1)

pub as_many_keys : (high : ℕ) (fs : List ℕ) (bs : List (List PlainStored)) → AreKeyed fs bs high → length fs ≡ length bs
as_many_keys high [] [] keyed = refl
as_many_keys high [] (b ∷ bs) keyed = absurd keyed
as_many_keys high (f ∷ fs) [] keyed = absurd keyed
as_many_keys high (f ∷ fs) (b ∷ bs) keyed = omega (arith, as_many_keys high fs bs keyed.1)

pub as_many_starts : (n : ℕ) (bs : List (List PlainStored)) → length (starts_of n bs) ≡ length bs
as_many_starts n [] = refl
as_many_starts n (b ∷ bs) = omega (arith, as_many_starts (n + length b) bs)

pub block_rises : (high k : ℕ) (fs : List ℕ) (bs : List (List PlainStored)) (b : List PlainStored) → AreKeyed fs bs high → slice_get bs k ≡ Some b → NumbersRise (get_or fs k 0) b high
block_rises high k [] [] b keyed e = cc e
block_rises high k [] (x ∷ bs) b keyed e = absurd keyed
block_rises high k (f ∷ fs) [] b keyed e = cc e
block_rises high zero (f ∷ fs) (x ∷ bs) b keyed e =
    subst (λ rows. NumbersRise f rows high) (some_same x b e) (rise_high f (head_or fs high) high x (rise_le (head_or fs high) high (joined bs) (rise_joined high fs bs keyed.1)) keyed.0)
block_rises high (suc k) (f ∷ fs) (x ∷ bs) b keyed e = block_rises high k fs bs b keyed.1 e

pub head_below : (high k : ℕ) (fs : List ℕ) (bs : List (List PlainStored)) → AreKeyed fs bs high → k < length bs → head_or fs high ≤ get_or fs k 0
head_below high k [] [] keyed h = absurd (omega arith)
head_below high k [] (x ∷ bs) keyed h = absurd keyed
head_below high k (f ∷ fs) [] keyed h = absurd keyed
head_below high zero (f ∷ fs) (x ∷ bs) keyed h = omega arith
head_below high (suc k) (f ∷ fs) (x ∷ bs) keyed h = omega (arith, head_below high k fs bs keyed.1 (omega arith), rise_le f (head_or fs high) x keyed.0)

-- the place of the block whose numbers a number is among: what a search by the firsts says
pub record IsPlaceOf (n k : ℕ) (fs : List ℕ) (bs : List (List PlainStored)) (b : List PlainStored) : Type 0 where
  pub got : slice_get bs k ≡ Some b
  pub low : get_or fs k 0 ≤ n
  pub high : k + 1 < length fs → n < get_or fs (k + 1) 0

next_suc : (k : ℕ) → suc k + 1 ≡ suc (k + 1)
next_suc k = omega arith

next_place : (n k f : ℕ) (fs : List ℕ) (x : List PlainStored) (bs : List (List PlainStored)) (b : List PlainStored) → IsPlaceOf n (suc k) (f ∷ fs) (x ∷ bs) b → IsPlaceOf n k fs bs b
next_place n k f fs x bs b p = record {
  got = p.got;
  low = p.low;
  high = λ lt. subst (λ m. n < get_or (f ∷ fs) m 0) (next_suc k) (p.high (omega arith));
}

rest_above : (n high f : ℕ) (fs : List ℕ) (x : List PlainStored) (bs : List (List PlainStored)) (b : List PlainStored) → AreKeyed fs bs high → IsPlaceOf n 0 (f ∷ fs) (x ∷ bs) b
    → (joined bs ≡ []) ⊎ (n < head_or fs high)
rest_above n high f [] x [] b keyed p = inl refl
rest_above n high f [] x (y ∷ bs) b keyed p = absurd keyed
rest_above n high f (g ∷ fs) x bs b keyed p = inr (p.high (omega arith))

none_in_rest : (n high : ℕ) (fs : List ℕ) (bs : List (List PlainStored)) → AreKeyed fs bs high → (joined bs ≡ []) ⊎ (n < head_or fs high) → row_of_number n (joined bs) ≡ None
none_in_rest n high fs bs keyed (inl e) = ap (row_of_number n) e
none_in_rest n high fs bs keyed (inr h) = below_none n (head_or fs high) high (joined bs) (rise_joined high fs bs keyed) h

rest_kept : (n high : ℕ) (fs : List ℕ) (bs : List (List PlainStored)) → AreKeyed fs bs high → (joined bs ≡ []) ⊎ (n < head_or fs high) → without_number n (joined bs) ≡ joined bs
rest_kept n high fs bs keyed (inl e) = ap (without_number n) e ∙ sym e
rest_kept n high fs bs keyed (inr h) = below_kept n (head_or fs high) high (joined bs) (rise_joined high fs bs keyed) h

head_reached : (n high k : ℕ) (fs : List ℕ) (bs : List (List PlainStored)) (b : List PlainStored) → AreKeyed fs bs high → IsPlaceOf n k fs bs b → head_or fs high ≤ n
head_reached n high k fs bs b keyed p = omega (arith, head_below high k fs bs keyed (got_within bs k b p.got), p.low)

-- a look-up in all blocks is one in the block of the place
pub found_in_block : (n high k : ℕ) (fs : List ℕ) (bs : List (List PlainStored)) (b : List PlainStored) → AreKeyed fs bs high → IsPlaceOf n k fs bs b → row_of_number n (joined bs) ≡ row_of_number n b
found_in_block n high k [] [] b keyed p = let e = p.got in cc e
found_in_block n high k [] (x ∷ bs) b keyed p = absurd keyed
found_in_block n high k (f ∷ fs) [] b keyed p = absurd keyed
found_in_block n high zero (f ∷ fs) (x ∷ bs) b keyed p =
    found_left n x (joined bs) (none_in_rest n high fs bs keyed.1 (rest_above n high f fs x bs b keyed.1 p)) ∙ ap (row_of_number n) (some_same x b p.got)
found_in_block n high (suc k) (f ∷ fs) (x ∷ bs) b keyed p =
    let q = next_place n k f fs x bs b p in
    found_right n x (joined bs) (above_none n f (head_or fs high) x keyed.0 (head_reached n high k fs bs b keyed.1 q)) ∙ found_in_block n high k fs bs b keyed.1 q

-- all rows without that of a number, by the block of the place
pub without_in_block : (n high k : ℕ) (fs : List ℕ) (bs : List (List PlainStored)) (b : List PlainStored) → AreKeyed fs bs high → IsPlaceOf n k fs bs b
    → joined (set bs k (without_number n b)) ≡ without_number n (joined bs)
without_in_block n high k [] [] b keyed p = refl
without_in_block n high k [] (x ∷ bs) b keyed p = absurd keyed
without_in_block n high k (f ∷ fs) [] b keyed p = absurd keyed
without_in_block n high zero (f ∷ fs) (x ∷ bs) b keyed p =
    ap (λ l. without_number n l ++ joined bs) (sym (some_same x b p.got))
    ∙ ap (λ l. without_number n x ++ l) (sym (rest_kept n high fs bs keyed.1 (rest_above n high f fs x bs b keyed.1 p)))
    ∙ sym (filter-append (λ r. not (has_number n r)) x (joined bs))
without_in_block n high (suc k) (f ∷ fs) (x ∷ bs) b keyed p =
    let q = next_place n k f fs x bs b p in
    ap (λ l. x ++ l) (without_in_block n high k fs bs b keyed.1 q)
    ∙ ap (λ l. l ++ without_number n (joined bs)) (sym (above_kept n f (head_or fs high) x keyed.0 (head_reached n high k fs bs b keyed.1 q)))
    ∙ sym (filter-append (λ r. not (has_number n r)) x (joined bs))

pub keyed_without : (n high k : ℕ) (fs : List ℕ) (bs : List (List PlainStored)) (b : List PlainStored) → AreKeyed fs bs high → slice_get bs k ≡ Some b → AreKeyed fs (set bs k (without_number n b)) high
keyed_without n high k [] [] b keyed e = tt
keyed_without n high k [] (x ∷ bs) b keyed e = absurd keyed
keyed_without n high k (f ∷ fs) [] b keyed e = absurd keyed
keyed_without n high zero (f ∷ fs) (x ∷ bs) b keyed e =
    (subst (λ rows. NumbersRise f (without_number n rows) (head_or fs high)) (some_same x b e) (rise_without n f (head_or fs high) x keyed.0), keyed.1)
keyed_without n high (suc k) (f ∷ fs) (x ∷ bs) b keyed e = (keyed.0, keyed_without n high k fs bs b keyed.1 e)

-- where blocks start, once a block is shorter

shifted : (d m n : ℕ) (bs : List (List PlainStored)) → n + d ≡ m → starts_of n bs ≡ map (λ s. s - d) (starts_of m bs)
shifted d m n [] e = refl
shifted d m n (b ∷ bs) e = let here : n ≡ m - d = omega arith in λ i. here i ∷ shifted d (m + length b) (n + length b) bs (omega arith) i

pub starts_lowered : (d m k : ℕ) (bs : List (List PlainStored)) (b new : List PlainStored) → slice_get bs k ≡ Some b → length new + d ≡ length b
    → starts_of m (set bs k new) ≡ take (suc k) (starts_of m bs) ++ map (λ s. s - d) (drop (suc k) (starts_of m bs))
starts_lowered d m k [] b new e h = refl
starts_lowered d m zero (x ∷ bs) b new e h =
    let same : length x ≡ length b = ap length (some_same x b e) in
    ap (λ l. m ∷ l) (shifted d (m + length x) (m + length new) bs (omega arith))
starts_lowered d m (suc k) (x ∷ bs) b new e h = ap (λ l. m ∷ l) (starts_lowered d (m + length x) k bs b new e h)

-- a new block at the end

pub joined_append : (bs cs : List (List PlainStored)) → joined (bs ++ cs) ≡ joined bs ++ joined cs
joined_append [] cs = refl
joined_append (b ∷ bs) cs = ap (λ l. b ++ l) (joined_append bs cs) ∙ sym (append_assoc b (joined bs) (joined cs))

pub joined_one : (bs : List (List PlainStored)) (b : List PlainStored) → joined (bs ++ b ∷ []) ≡ joined bs ++ b
joined_one bs b = joined_append bs (b ∷ []) ∙ ap (λ l. joined bs ++ l) (append-nil b)

pub starts_one : (m : ℕ) (bs : List (List PlainStored)) (b : List PlainStored) → starts_of m (bs ++ b ∷ []) ≡ starts_of m bs ++ (m + length (joined bs)) ∷ []
starts_one m [] b = ap (λ n. n ∷ []) (omega arith)
starts_one m (x ∷ bs) b =
    let e : m + length x + length (joined bs) ≡ m + length (x ++ joined bs) = omega (arith, length-append x (joined bs)) in
    ap (λ l. m ∷ l) (starts_one (m + length x) bs b) ∙ ap (λ n. m ∷ (starts_of (m + length x) bs ++ n ∷ [])) e

head_more : (high : ℕ) (fs : List ℕ) → head_or (fs ++ high ∷ []) high ≡ head_or fs high
head_more high [] = refl
head_more high (f ∷ fs) = refl

pub keyed_more : (high : ℕ) (fs : List ℕ) (bs : List (List PlainStored)) → AreKeyed fs bs high → AreKeyed (fs ++ high ∷ []) (bs ++ [] ∷ []) high
keyed_more high [] [] keyed = (omega arith, tt)
keyed_more high [] (b ∷ bs) keyed = absurd keyed
keyed_more high (f ∷ fs) [] keyed = absurd keyed
keyed_more high (f ∷ fs) (b ∷ bs) keyed = (subst (NumbersRise f b) (sym (head_more high fs)) keyed.0, keyed_more high fs bs keyed.1)

-- a row at the end of the last block
pub keyed_row : (high : ℕ) (fs : List ℕ) (bs : List (List PlainStored)) (t : List PlainStored) (row : PlainStored) → AreKeyed fs (bs ++ t ∷ []) high → high ≤ row.number
    → AreKeyed fs (bs ++ (t ++ row ∷ []) ∷ []) (row.number + 1)
keyed_row high [] [] t row keyed h = absurd keyed
keyed_row high [] (b ∷ bs) t row keyed h = absurd keyed
keyed_row high (f ∷ []) [] t row keyed h = (rise_more f high t row keyed.0 h, tt)
keyed_row high (f ∷ g ∷ fs) [] t row keyed h = absurd keyed.1
keyed_row high (f ∷ []) (b ∷ []) t row keyed h = absurd keyed.1
keyed_row high (f ∷ []) (b ∷ c ∷ bs) t row keyed h = absurd keyed.1
keyed_row high (f ∷ g ∷ fs) (b ∷ bs) t row keyed h = (keyed.0, keyed_row high (g ∷ fs) bs t row keyed.1 h)

-- the row of a place

starts_above : (m k : ℕ) (bs : List (List PlainStored)) → k < length bs → m ≤ get_or (starts_of m bs) k 0
starts_above m k [] h = absurd (omega arith)
starts_above m zero (b ∷ bs) h = omega arith
starts_above m (suc k) (b ∷ bs) h = omega (arith, starts_above (m + length b) k bs (omega arith))

pub record IsRowAt (at i j m k : ℕ) (bs : List (List PlainStored)) (b : List PlainStored) : Type 0 where
  pub got : slice_get bs k ≡ Some b
  pub start : get_or (starts_of m bs) k 0 + j ≡ at
  pub place : i + m ≡ at
  pub end : k + 1 < length bs → at < get_or (starts_of m bs) (k + 1) 0
  pub within : i < length (joined bs)

row_in_first : (at i j m : ℕ) (x : List PlainStored) (bs : List (List PlainStored)) (b : List PlainStored) → IsRowAt at i j m 0 (x ∷ bs) b → i < length x
row_in_first at i j m x [] b p = omega (arith, p.within, length-append x [])
row_in_first at i j m x (y ∷ bs) b p = omega (arith, p.end (omega arith), p.place)

next_row : (at i j m k : ℕ) (x : List PlainStored) (bs : List (List PlainStored)) (b : List PlainStored) → IsRowAt at i j m (suc k) (x ∷ bs) b → IsRowAt at (i - length x) j (m + length x) k bs b
next_row at i j m k x bs b p =
    let h : m + length x ≤ get_or (starts_of (m + length x) bs) k 0 = starts_above (m + length x) k bs (got_within bs k b p.got) in
    record {
      got = p.got;
      start = p.start;
      place = omega (arith, h, p.start, p.place);
      end = λ lt. subst (λ q. at < get_or (starts_of m (x ∷ bs)) q 0) (next_suc k) (p.end (omega arith));
      within = omega (arith, h, p.start, p.place, p.within, length-append x (joined bs));
    }

pub row_at : (at i j m k : ℕ) (bs : List (List PlainStored)) (b : List PlainStored) → IsRowAt at i j m k bs b → (slice_get (joined bs) i ≡ slice_get b j) × (j < length b)
row_at at i j m k [] b p = let e = p.got in cc e
row_at at i j m zero (x ∷ bs) b p =
    let le : i < length x = row_in_first at i j m x bs b p in
    let same : x ≡ b = some_same x b p.got in
    let n : i ≡ j = omega (arith, p.start, p.place) in
    (get_left x (joined bs) i le ∙ (λ t. slice_get (same t) (n t)), omega (arith, ap length same))
row_at at i j m (suc k) (x ∷ bs) b p =
    let q = next_row at i j m k x bs b p in
    let h : m + length x ≤ get_or (starts_of (m + length x) bs) k 0 = starts_above (m + length x) k bs (got_within bs k b p.got) in
    let deep : (slice_get (joined bs) (i - length x) ≡ slice_get b j) × (j < length b) = row_at at (i - length x) j (m + length x) k bs b q in
    (get_right x (joined bs) i (i - length x) (omega (arith, h, p.start, p.place)) ∙ deep.0, deep.1)

-- of the fields of a list

pub as_many : {A B : Type 0} (f : A → B) (xs : List A) → length (map f xs) ≡ length xs
as_many f [] = refl
as_many f (x ∷ xs) = omega (arith, as_many f xs)

head_zero : (high : ℕ) (fs : List ℕ) → head_or fs 1 ≡ 0 → head_or fs high ≡ 0
head_zero high [] e = absurd (omega arith)
head_zero high (f ∷ fs) e = e

pub all_rise : (fs ss : List ℕ) (bs : List (List PlainStored)) (next : ℕ) → IsIndexed fs ss bs next → NumbersRise 0 (joined bs) next
all_rise fs ss bs next i = subst (λ m. NumbersRise m (joined bs) next) (head_zero next fs i.begins) (rise_joined next fs bs i.keyed)

pub whole_rises : (fs ss : List ℕ) (bs : List (List PlainStored)) (l : PlainRowList) (next : ℕ) → record { rows = joined bs; next = next } ≡ l → IsIndexed fs ss bs next → NumbersRise 0 l.rows l.next
whole_rises fs ss bs l next e i = subst (λ (v : PlainRowList). NumbersRise 0 v.rows v.next) e (all_rise fs ss bs next i)

-- where the last block begins
pub last_start : (fs ss : List ℕ) (bs : List (List PlainStored)) (t : List PlainStored) (next n : ℕ) → IsIndexed fs ss (bs ++ t ∷ []) next → n ≡ length bs
    → (get_or ss n 0 ≡ length (joined bs)) × (length (joined (bs ++ t ∷ [])) ≡ length (joined bs) + length t) × (length (joined bs) + length t ≤ next) × (next < 2 ^ 32)
last_start fs ss bs t next n i e =
    let one : ss ≡ starts_of 0 bs ++ (0 + length (joined bs)) ∷ [] = i.places ∙ starts_one 0 bs t in
    let got : get_or ss n 0 ≡ 0 + length (joined bs) = ap (λ l. get_or l n 0) one ∙ get_or_seam (starts_of 0 bs) (0 + length (joined bs)) n (omega (arith, as_many_starts 0 bs)) in
    let long : length (joined (bs ++ t ∷ [])) ≡ length (joined bs) + length t = ap length (joined_one bs t) ∙ length-append (joined bs) t in
    (omega (arith, got), long, omega (arith, long, rise_long 0 next (joined (bs ++ t ∷ [])) (all_rise fs ss (bs ++ t ∷ []) next i)), i.fits)

-- the place that a search by the firsts found
pub place_found : (fs ss : List ℕ) (bs : List (List PlainStored)) (next n after k : ℕ) (b : List PlainStored) → IsIndexed fs ss bs next → slice_get bs k ≡ Some b → k + 1 ≡ after
    → ((j : ℕ) → j + 1 ≡ after → get_or fs j 0 ≤ n) → (after < length fs → n < get_or fs after 0) → IsPlaceOf n k fs bs b
place_found fs ss bs next n after k b i got e below above = record {
  got = got;
  low = below k e;
  high = λ lt. subst (λ m. n < get_or fs m 0) (sym e) (above (omega arith));
}

-- no search by the firsts finds none
pub some_place : (fs : List ℕ) (n : ℕ) → head_or fs 1 ≡ 0 → (0 < length fs → n < get_or fs 0 0) → ⊥
some_place [] n e above = omega arith
some_place (f ∷ fs) n e above = let h : n < f = above (omega arith) in omega arith

pub some_keys : (fs : List ℕ) → head_or fs 1 ≡ 0 → 0 < length fs
some_keys [] e = absurd (omega arith)
some_keys (f ∷ fs) e = omega arith

pub block_is_rising : (fs ss : List ℕ) (bs : List (List PlainStored)) (next k : ℕ) (b : List PlainStored) → IsIndexed fs ss bs next → slice_get bs k ≡ Some b → NumbersRise 0 b (2 ^ 32)
block_is_rising fs ss bs next k b i got =
    let fits = i.fits in
    rise_low 0 (get_or fs k 0) (2 ^ 32) b (omega arith) (rise_high (get_or fs k 0) next (2 ^ 32) b (omega (arith, fits)) (block_rises next k fs bs b i.keyed got))

-- the row that a search by the starts found
pub row_found : (fs ss : List ℕ) (bs : List (List PlainStored)) (next at after k : ℕ) (b : List PlainStored) → IsIndexed fs ss bs next → slice_get bs k ≡ Some b → k + 1 ≡ after → at < length (joined bs)
    → ((j : ℕ) → j + 1 ≡ after → get_or ss j 0 ≤ at) → (after < length ss → at < get_or ss after 0)
    → (slice_get (joined bs) at ≡ slice_get b (at - get_or ss k 0)) × (at - get_or ss k 0 < length b)
row_found fs ss bs next at after k b i got e within below above =
    let low : get_or ss k 0 ≤ at = below k e in
    let same : get_or ss k 0 ≡ get_or (starts_of 0 bs) k 0 = ap (λ l. get_or l k 0) i.places in
    let many : length ss ≡ length bs = ap length i.places ∙ as_many_starts 0 bs in
    row_at at at (at - get_or ss k 0) 0 k bs b (record {
      got = got;
      start = omega (arith, low, same);
      place = omega arith;
      end = λ lt. subst (λ l. at < get_or l (k + 1) 0) i.places (subst (λ m. at < get_or ss m 0) (sym e) (above (omega (arith, many))));
      within = within;
    })

-- the first start is 0
pub some_start : (fs ss : List ℕ) (bs : List (List PlainStored)) (next at : ℕ) → IsIndexed fs ss bs next → (0 < length ss → at < get_or ss 0 0) → ⊥
some_start fs ss [] next at i above = omega (arith, as_many_keys next fs [] i.keyed, some_keys fs i.begins)
some_start fs ss (b ∷ bs) next at i above =
    let long : 0 < length ss = omega (arith, ap length i.places) in
    let h : at < get_or ss 0 0 = above long in
    let same : get_or ss 0 0 ≡ 0 = ap (λ l. get_or l 0 0) i.places in
    omega (arith, h, same)

pub get_or_any : (xs : List ℕ) (i d e : ℕ) → i < length xs → get_or xs i d ≡ get_or xs i e
get_or_any [] i d e h = absurd (omega arith)
get_or_any (x ∷ xs) zero d e h = refl
get_or_any (x ∷ xs) (suc i) d e h = get_or_any xs i d e (omega arith)

-- edits

pub indexed_row : (fs ss : List ℕ) (bs : List (List PlainStored)) (t : List PlainStored) (next : ℕ) (row : PlainStored) → IsIndexed fs ss (bs ++ t ∷ []) next → next ≤ row.number → row.number + 1 < 2 ^ 32
    → IsIndexed fs ss (bs ++ (t ++ row ∷ []) ∷ []) (row.number + 1)
indexed_row fs ss bs t next row i above below = record {
  begins = i.begins;
  keyed = keyed_row next fs bs t row i.keyed above;
  places = i.places ∙ starts_one 0 bs t ∙ sym (starts_one 0 bs (t ++ row ∷ []));
  fits = below;
}

pub joined_row : (bs : List (List PlainStored)) (t : List PlainStored) (row : PlainStored) → joined (bs ++ (t ++ row ∷ []) ∷ []) ≡ joined (bs ++ t ∷ []) ++ row ∷ []
joined_row bs t row = joined_one bs (t ++ row ∷ []) ∙ sym (append_assoc (joined bs) t (row ∷ [])) ∙ ap (λ l. l ++ row ∷ []) (sym (joined_one bs t))

head_kept : (x : ℕ) (fs : List ℕ) → head_or fs 1 ≡ 0 → head_or (fs ++ x ∷ []) 1 ≡ 0
head_kept x [] e = absurd (omega arith)
head_kept x (f ∷ fs) e = e

pub indexed_more : (fs ss : List ℕ) (bs : List (List PlainStored)) (next total : ℕ) → IsIndexed fs ss bs next → total ≡ length (joined bs) → IsIndexed (fs ++ next ∷ []) (ss ++ total ∷ []) (bs ++ [] ∷ []) next
indexed_more fs ss bs next total i e = record {
  begins = head_kept next fs i.begins;
  keyed = keyed_more next fs bs i.keyed;
  places = (let n : total ≡ 0 + length (joined bs) = omega (arith, e) in λ t. i.places t ++ n t ∷ []) ∙ sym (starts_one 0 bs []);
  fits = i.fits;
}

pub joined_more : (bs : List (List PlainStored)) → joined (bs ++ [] ∷ []) ≡ joined bs
joined_more bs = joined_one bs [] ∙ append-nil (joined bs)

-- the row of a number is taken out of its block
pub record Takes (fs ss lower : List ℕ) (bs news : List (List PlainStored)) (next n k after d : ℕ) (b new : List PlainStored) : Type 0 where
  pub index : IsIndexed fs ss bs next
  pub place : IsPlaceOf n k fs bs b
  pub new_is : new ≡ without_number n b
  pub after_is : after ≡ suc k
  pub less : d ≡ length b - length new
  pub lower_is : lower ≡ take after ss ++ map (λ s. s - d) (drop after ss)
  pub news_is : news ≡ set bs k new

pub taken_indexed : (fs ss lower : List ℕ) (bs news : List (List PlainStored)) (next n k after d : ℕ) (b new : List PlainStored) → Takes fs ss lower bs news next n k after d b new → IsIndexed fs lower news next
taken_indexed fs ss lower bs news next n k after d b new t =
    let e : news ≡ set bs k (without_number n b) = t.news_is ∙ ap (set bs k) t.new_is in
    let h : length (without_number n b) + d ≡ length b = omega (arith, t.less, ap length t.new_is, fewer n b) in
    let p : lower ≡ take (suc k) (starts_of 0 bs) ++ map (λ s. s - d) (drop (suc k) (starts_of 0 bs)) = t.lower_is ∙ (λ i. take (t.after_is i) (t.index.places i) ++ map (λ s. s - d) (drop (t.after_is i) (t.index.places i))) in
    record {
      begins = t.index.begins;
      keyed = subst (λ l. AreKeyed fs l next) (sym e) (keyed_without n next k fs bs b t.index.keyed t.place.got);
      places = p ∙ sym (starts_lowered d 0 k bs b (without_number n b) t.place.got h) ∙ ap (starts_of 0) (sym e);
      fits = t.index.fits;
    }

pub taken_rows : (fs ss lower : List ℕ) (bs news : List (List PlainStored)) (next n k after d : ℕ) (b new : List PlainStored) → Takes fs ss lower bs news next n k after d b new → joined news ≡ without_number n (joined bs)
taken_rows fs ss lower bs news next n k after d b new t = ap joined (t.news_is ∙ ap (set bs k) t.new_is) ∙ without_in_block n next k fs bs b t.index.keyed t.place

pub keyed_higher : (high higher : ℕ) (fs : List ℕ) (bs : List (List PlainStored)) → high ≤ higher → AreKeyed fs bs high → AreKeyed fs bs higher
keyed_higher high higher [] [] h keyed = tt
keyed_higher high higher [] (b ∷ bs) h keyed = absurd keyed
keyed_higher high higher (f ∷ fs) [] h keyed = absurd keyed
keyed_higher high higher (f ∷ []) (b ∷ bs) h keyed = (rise_high f high higher b h keyed.0, keyed_higher high higher [] bs h keyed.1)
keyed_higher high higher (f ∷ g ∷ fs) (b ∷ bs) h keyed = (keyed.0, keyed_higher high higher (g ∷ fs) bs h keyed.1)

pub indexed_higher : (fs ss : List ℕ) (bs : List (List PlainStored)) (next higher : ℕ) → IsIndexed fs ss bs next → next ≤ higher → higher < 2 ^ 32 → IsIndexed fs ss bs higher
indexed_higher fs ss bs next higher i h fits = record { begins = i.begins; keyed = keyed_higher next higher fs bs h i.keyed; places = i.places; fits = fits }

-- rows that are put one by one

pub next_rises : (low high i : ℕ) (rows : List PlainStored) (row : PlainStored) → NumbersRise low (drop i rows) high → slice_get rows i ≡ Some row → (low ≤ row.number) × NumbersRise (row.number + 1) (drop (i + 1) rows) high
next_rises low high i [] row rise e = cc e
next_rises low high zero (r ∷ rows) row rise e =
    let same : r ≡ row = some_same r row e in
    (omega (arith, rise.0, ap (λ x. x.number) same), subst (λ (x : PlainStored). NumbersRise (x.number + 1) rows high) same rise.1)
next_rises low high (suc i) (r ∷ rows) row rise e =
    let deep : (low ≤ row.number) × NumbersRise (row.number + 1) (drop (i + 1) rows) high = next_rises low high i rows row rise e in
    (deep.0, subst (λ k. NumbersRise (row.number + 1) (drop k (r ∷ rows)) high) (sym (next_suc i)) deep.1)

pub next_fits : (low high i : ℕ) (rows : List PlainStored) (row : PlainStored) → NumbersRise low (drop i rows) high → slice_get rows i ≡ Some row → row.number + 1 ≤ high
next_fits low high i rows row rise e = rise_le (row.number + 1) high (drop (i + 1) rows) (next_rises low high i rows row rise e).1

pub take_got : (xs : List PlainStored) (i : ℕ) (x : PlainStored) → slice_get xs i ≡ Some x → take (i + 1) xs ≡ take i xs ++ x ∷ []
take_got xs i x e = take_more xs i x (slice_get_within xs i x e) ∙ ap (λ y. take i xs ++ y ∷ []) (get_or_from_slice_get xs i x x e)
