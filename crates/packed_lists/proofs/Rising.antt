-- Rows whose numbers rise.
use Rattle.std.proofs.Common.{◌≡◌, ℕ, zero, suc, ◌+◌, ◌≤◌, ◌<◌, cond, Option, Some, None, List, [], ◌∷◌, length, map, get_or, slice_get, refl, ap, ◌∙◌, arith, ◌++◌, take, not}
use Rattle.std.proofs.lemmas.Bool.{ne_eqb, eq-eqb}
use Rattle.std.proofs.lemmas.List.{take_more}
use Rattle.std.proofs.lemmas.List.Elements.{filter-append}
use Rattle.std.proofs.lemmas.Option.{slice_get_within, get_or_from_slice_get}
use Rattle.packed_lists.specs.Stored.{PlainStored, NumbersRise, row_of_number, has_number, without_number}

abbrev pub numbers : List PlainStored → List ℕ
numbers rows = map (λ r. r.number) rows

some_same : (a b : PlainStored) → Some a ≡ Some b → a ≡ b
some_same a b e = cc e

skips : (n : ℕ) (r : PlainStored) (rows : List PlainStored) (found : Option PlainStored) → (r.number ≡ n → ⊥) → row_of_number n rows ≡ found → row_of_number n (r ∷ rows) ≡ found
skips n r rows found ne e = ap (λ b. cond b (Some r) (row_of_number n rows)) (ne_eqb r.number n ne) ∙ e

pub at_least : (low high k : ℕ) (rows : List PlainStored) → NumbersRise low rows high → k < length rows → low ≤ get_or (numbers rows) k 0
at_least low high k [] rise h = absurd (omega arith)
at_least low high zero (r ∷ rows) rise h = rise.0
at_least low high (suc k) (r ∷ rows) rise h = omega (arith, rise.0, at_least (r.number + 1) high k rows rise.1 (omega arith))

pub got_at_least : (low high k : ℕ) (rows : List PlainStored) (row : PlainStored) → NumbersRise low rows high → slice_get rows k ≡ Some row → low ≤ row.number
got_at_least low high k [] row rise e = cc e
got_at_least low high zero (r ∷ rows) row rise e = omega (arith, rise.0, ap (λ x. x.number) (some_same r row e))
got_at_least low high (suc k) (r ∷ rows) row rise e = omega (arith, rise.0, got_at_least (r.number + 1) high k rows row rise.1 e)

pub below_none : (n low high : ℕ) (rows : List PlainStored) → NumbersRise low rows high → n < low → row_of_number n rows ≡ None
below_none n low high [] rise h = refl
below_none n low high (r ∷ rows) rise h = skips n r rows None (λ e. omega (arith, rise.0)) (below_none n (r.number + 1) high rows rise.1 (omega (arith, rise.0)))

pub rise_le : (low high : ℕ) (rows : List PlainStored) → NumbersRise low rows high → low ≤ high
rise_le low high [] rise = rise
rise_le low high (r ∷ rows) rise = omega (arith, rise.0, rise_le (r.number + 1) high rows rise.1)

pub above_none : (n low high : ℕ) (rows : List PlainStored) → NumbersRise low rows high → high ≤ n → row_of_number n rows ≡ None
above_none n low high [] rise h = refl
above_none n low high (r ∷ rows) rise h =
    skips n r rows None (λ e. omega (arith, rise_le (r.number + 1) high rows rise.1)) (above_none n (r.number + 1) high rows rise.1 h)

pub rise_low : (lower low high : ℕ) (rows : List PlainStored) → lower ≤ low → NumbersRise low rows high → NumbersRise lower rows high
rise_low lower low high [] h rise = omega (arith, rise)
rise_low lower low high (r ∷ rows) h rise = (omega (arith, rise.0), rise.1)

pub rise_high : (low high higher : ℕ) (rows : List PlainStored) → high ≤ higher → NumbersRise low rows high → NumbersRise low rows higher
rise_high low high higher [] h rise = omega (arith, rise)
rise_high low high higher (r ∷ rows) h rise = (rise.0, rise_high (r.number + 1) high higher rows h rise.1)

pub found_at : (n low high k : ℕ) (rows : List PlainStored) (row : PlainStored) → NumbersRise low rows high → slice_get rows k ≡ Some row → row.number ≡ n → row_of_number n rows ≡ Some row
found_at n low high k [] row rise e h = cc e
found_at n low high zero (r ∷ rows) row rise e h =
    ap (λ b. cond b (Some r) (row_of_number n rows)) (eq-eqb r.number n (ap (λ x. x.number) (some_same r row e) ∙ h)) ∙ e
found_at n low high (suc k) (r ∷ rows) row rise e h =
    skips n r rows (Some row) (λ s. omega (arith, got_at_least (r.number + 1) high k rows row rise.1 e)) (found_at n (r.number + 1) high k rows row rise.1 e h)

pub number_got : (k : ℕ) (rows : List PlainStored) (row : PlainStored) → slice_get rows k ≡ Some row → get_or (numbers rows) k 0 ≡ row.number
number_got k [] row e = cc e
number_got zero (r ∷ rows) row e = ap (λ x. x.number) (some_same r row e)
number_got (suc k) (r ∷ rows) row e = number_got k rows row e

-- the number isn't there: the row before where it would stand has a smaller one, and the row there a greater one
pub none_between : (n low high after : ℕ) (rows : List PlainStored) → NumbersRise low rows high → after ≤ length rows
    → ((k : ℕ) → k + 1 ≡ after → get_or (numbers rows) k 0 < n) → (after < length rows → n < get_or (numbers rows) after 0) → row_of_number n rows ≡ None
none_between n low high after [] rise within below above = refl
none_between n low high zero (r ∷ rows) rise within below above =
    let h : n < r.number = above (omega arith) in
    skips n r rows None (λ e. omega arith) (below_none n (r.number + 1) high rows rise.1 (omega arith))
none_between n low high (suc zero) (r ∷ rows) rise within below above =
    let h : r.number < n = below 0 (omega arith) in
    skips n r rows None (λ e. omega arith) (none_between n (r.number + 1) high 0 rows rise.1 (omega arith) (λ k e. absurd (omega arith)) (λ lt. above (omega arith)))
none_between n low high (suc (suc a)) (r ∷ rows) rise within below above =
    let h : get_or (numbers rows) a 0 < n = below (suc a) (omega arith) in
    skips n r rows None (λ e. omega (arith, at_least (r.number + 1) high a rows rise.1 (omega arith)))
    (none_between n (r.number + 1) high (suc a) rows rise.1 (omega arith) (λ k e. below (suc k) (omega arith)) (λ lt. above (omega arith)))

pub take_got : {X : Type 0} (xs : List X) (i : ℕ) (x : X) → slice_get xs i ≡ Some x → take (i + 1) xs ≡ take i xs ++ x ∷ []
take_got xs i x e = take_more xs i x (slice_get_within xs i x e) ∙ ap (λ y. take i xs ++ y ∷ []) (get_or_from_slice_get xs i x x e)

pub without_more : (n i : ℕ) (rows : List PlainStored) (row : PlainStored) → slice_get rows i ≡ Some row → without_number n (take (i + 1) rows) ≡ without_number n (take i rows) ++ without_number n (row ∷ [])
without_more n i rows row e = ap (without_number n) (take_got rows i row e) ∙ filter-append (λ r. not (has_number n r)) (take i rows) (row ∷ [])

-- the number isn't there, told at the place that a search gave
pub none_at : (n low high after : ℕ) (rows : List PlainStored) (ns : List ℕ) (row : PlainStored) (before : ℕ) → NumbersRise low rows high → after ≤ length rows → numbers rows ≡ ns
    → slice_get rows before ≡ Some row → before + 1 ≡ after → (row.number ≡ n → ⊥) → row.number ≤ n
    → (after < length rows → n < get_or ns after 0) → row_of_number n rows ≡ None
none_at n low high after rows ns row before rise within same got last ne le above =
    none_between n low high after rows rise within
    (λ k e. let here : get_or (numbers rows) k 0 ≡ row.number = ap (λ j. get_or (numbers rows) j 0) (omega arith) ∙ number_got before rows row got in omega (arith, here, le, ne))
    (λ lt. let h : n < get_or ns after 0 = above lt in omega (arith, h, ap (λ l. get_or l after 0) same))
