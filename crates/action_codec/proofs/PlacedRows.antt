-- The rows of a rule in their order: which rows they are, and that for each row one is there that stands for it.
use Rattle.std.proofs.Common.{◌≡◌, ◌⊎◌, inl, inr, Bool, true, false, cond, List, [], ◌∷◌, refl, ap, subst, ◌∙◌}
use Rattle.std.specs.Prelude.{fold}
use Rattle.std.specs.Cmp.{tied_itself, tied_back, upto}
use Rattle.std.specs.List.{AllByRecursion}
use Rattle.std.specs.List.Sorted.{IsStrictlySortedBy}
use Rattle.std.specs.Ordering.{is_lt, is_gt, match_ordering, ordering_reverse}
use Rattle.std.specs.declared.cmp.Ordering.{Ordering}
use Rattle.std.specs.declared.cmp.Ordering.TheVariants.{Less, Equal, Greater}
use Rattle.dns_record.specs.Row.{PlainRow}
use Rattle.action_codec.specs.Local.{first_owned, insert_row, rule_rows}
use Rattle.action_codec.proofs.RowOrders.{by_data, by_owner, by_data_total, by_owner_total, no_later-less, no_later-back}

-- the row is one of the rows
abbrev pub IsIn : PlainRow → List PlainRow → Type 0
IsIn row [] = ⊥
IsIn row (x ∷ xs) = (x ≡ row) ⊎ IsIn row xs

-- `kept` has the type and the data of the row, and its owner comes no later
pub record StandsFor (kept row : PlainRow) : Type 0 where
  pub data_is : by_data kept row ≡ Equal
  pub owner_is : is_gt (by_owner kept row) ≡ false

-- one of the rows stands for the row
pub record HasFor (rows : List PlainRow) (row : PlainRow) : Type 0 where
  pub kept : PlainRow
  pub is_in : IsIn kept rows
  pub stands : StandsFor kept row

for_itself : (row : PlainRow) → StandsFor row row
for_itself row = record { data_is = tied_itself by_data_total row; owner_is = ap is_gt (tied_itself by_owner_total row) }

for-trans : (a b c : PlainRow) → StandsFor a b → StandsFor b c → StandsFor a c
for-trans a b c h k = record { data_is = by_data_total.congr a b c h.data_is ∙ k.data_is; owner_is = upto by_owner_total a b c h.owner_is k.owner_is }

pub at_in : (P : PlainRow → Type 0) (row : PlainRow) (rows : List PlainRow) → AllByRecursion P rows → IsIn row rows → P row
at_in P row [] h is_in = absurd is_in
at_in P row (x ∷ xs) h is_in = elim is_in [ inl e ↦ subst P e h.0 | inr k ↦ at_in P row xs h.1 k ]

-- ---- a row that is placed

in_first : (b : Bool) (row x q : PlainRow) → cond b row x ≡ q → (row ≡ q) ⊎ (x ≡ q)
in_first true row x q e = inl e
in_first false row x q e = inr e

-- what is there after is the row or was there before
pub in_placed : (row q : PlainRow) (rows : List PlainRow) → IsIn q (insert_row row rows) → (row ≡ q) ⊎ IsIn q rows
in_placed row q [] h = h
in_placed row q (x ∷ xs) h = at (by_data row x) (in_placed row q xs) h where
  shifted : (row ≡ q) ⊎ IsIn q xs → (row ≡ q) ⊎ IsIn q (x ∷ xs)
  shifted (inl e) = inl e
  shifted (inr k) = inr (inr k)

  first : (row ≡ q) ⊎ (x ≡ q) → (row ≡ q) ⊎ IsIn q (x ∷ xs)
  first (inl e) = inl e
  first (inr e) = inr (inl e)

  at : (o : Ordering) → (IsIn q (insert_row row xs) → (row ≡ q) ⊎ IsIn q xs) → IsIn q (match_ordering o (row ∷ x ∷ xs) (first_owned row x ∷ xs) (x ∷ insert_row row xs)) → (row ≡ q) ⊎ IsIn q (x ∷ xs)
  at Less others h = h
  at Equal others (inl e) = first (in_first (is_lt (by_owner row x)) row x q e)
  at Equal others (inr k) = inr (inr k)
  at Greater others (inl e) = inr (inl e)
  at Greater others (inr k) = shifted (others k)

first_for_row : (b : Bool) (row x : PlainRow) → is_lt (by_owner row x) ≡ b → by_data row x ≡ Equal → StandsFor (cond b row x) row
first_for_row true row x h same = for_itself row
first_for_row false row x h same = record { data_is = tied_back by_data_total row x same; owner_is = no_later-back row x h }

first_for_other : (b : Bool) (row x : PlainRow) → is_lt (by_owner row x) ≡ b → by_data row x ≡ Equal → StandsFor (cond b row x) x
first_for_other true row x h same = record { data_is = same; owner_is = no_later-less (by_owner row x) h }
first_for_other false row x h same = for_itself x

further : (x row : PlainRow) (xs : List PlainRow) → HasFor xs row → HasFor (x ∷ xs) row
further x row xs h = record { kept = h.kept; is_in = inr h.is_in; stands = h.stands }

Placing : Ordering → PlainRow → PlainRow → List PlainRow → PlainRow → Type 0
Placing o row x xs q = HasFor (match_ordering o (row ∷ x ∷ xs) (first_owned row x ∷ xs) (x ∷ insert_row row xs)) q

-- one stands for the row
pub placed_has_row : (row : PlainRow) (rows : List PlainRow) → HasFor (insert_row row rows) row
unfolding Placing
placed_has_row row [] = record { kept = row; is_in = inl refl; stands = for_itself row }
placed_has_row row (x ∷ xs) =
    elim (by_data row x) as (λ o. by_data row x ≡ o → Placing o row x xs row) [
      | Less ↦ λ h. record { kept = row; is_in = inl refl; stands = for_itself row }
      | Equal ↦ λ h. record { kept = first_owned row x; is_in = inl refl; stands = first_for_row (is_lt (by_owner row x)) row x refl h }
      | Greater ↦ λ h. further x row (insert_row row xs) (placed_has_row row xs)
    ] refl

-- and one for each that was there
pub placed_has : (row q : PlainRow) (rows : List PlainRow) → IsIn q rows → HasFor (insert_row row rows) q
unfolding Placing
placed_has row q [] is_in = absurd is_in
placed_has row q (x ∷ xs) (inl e) =
    elim (by_data row x) as (λ o. by_data row x ≡ o → Placing o row x xs q) [
      | Less ↦ λ h. record { kept = q; is_in = inr (inl e); stands = for_itself q }
      | Equal ↦ λ h. record { kept = first_owned row x; is_in = inl refl; stands = subst (StandsFor (first_owned row x)) e (first_for_other (is_lt (by_owner row x)) row x refl h) }
      | Greater ↦ λ h. record { kept = q; is_in = inl e; stands = for_itself q }
    ] refl
placed_has row q (x ∷ xs) (inr k) =
    elim (by_data row x) as (λ o. Placing o row x xs q) [
      | Less ↦ record { kept = q; is_in = inr (inr k); stands = for_itself q }
      | Equal ↦ record { kept = q; is_in = inr k; stands = for_itself q }
      | Greater ↦ further x q (insert_row row xs) (placed_has row q xs k)
    ]

-- ---- order

abbrev Behind : PlainRow → List PlainRow → Type 0
Behind y rows = AllByRecursion (λ z. by_data y z ≡ Less) rows

first_behind : (b : Bool) (y row x : PlainRow) → by_data y row ≡ Less → by_data y x ≡ Less → by_data y (cond b row x) ≡ Less
first_behind true y row x h k = h
first_behind false y row x h k = k

behind-placed : (y row : PlainRow) (rows : List PlainRow) → by_data y row ≡ Less → Behind y rows → Behind y (insert_row row rows)
behind-placed y row [] less h = (less, tt)
behind-placed y row (x ∷ xs) less h =
    elim (by_data row x) as (λ o. Behind y (match_ordering o (row ∷ x ∷ xs) (first_owned row x ∷ xs) (x ∷ insert_row row xs))) [
      | Less ↦ (less, h)
      | Equal ↦ (first_behind (is_lt (by_owner row x)) y row x less h.0, h.1)
      | Greater ↦ (h.0, behind-placed y row xs less h.1)
    ]

behind-less : (y x : PlainRow) (rows : List PlainRow) → by_data y x ≡ Less → Behind x rows → Behind y rows
behind-less y x [] less h = tt
behind-less y x (z ∷ zs) less h = (by_data_total.trans y x z less h.0, behind-less y x zs less h.1)

behind-same : (y x : PlainRow) (rows : List PlainRow) → by_data y x ≡ Equal → Behind x rows → Behind y rows
behind-same y x [] same h = tt
behind-same y x (z ∷ zs) same h = (by_data_total.congr y x z same ∙ h.0, behind-same y x zs same h.1)

behind-first : (b : Bool) (row x : PlainRow) (rows : List PlainRow) → by_data row x ≡ Equal → Behind x rows → Behind (cond b row x) rows
behind-first true row x rows same h = behind-same row x rows same h
behind-first false row x rows same h = h

sorted-placed : (row : PlainRow) (rows : List PlainRow) → IsStrictlySortedBy by_data rows → IsStrictlySortedBy by_data (insert_row row rows)
unfolding IsStrictlySortedBy
sorted-placed row [] s = (tt, tt)
sorted-placed row (x ∷ xs) s =
    elim (by_data row x) as (λ o. by_data row x ≡ o → IsStrictlySortedBy by_data (match_ordering o (row ∷ x ∷ xs) (first_owned row x ∷ xs) (x ∷ insert_row row xs))) [
      | Less ↦ λ h. ((h, behind-less row x xs h s.0), s)
      | Equal ↦ λ h. (behind-first (is_lt (by_owner row x)) row x xs h s.0, s.1)
      | Greater ↦ λ h. (behind-placed x row xs (by_data_total.antisymm x row ∙ ap ordering_reverse h) s.0, sorted-placed row xs s.1)
    ] refl

-- ---- all rows of a rule

abbrev after : List PlainRow → List PlainRow → List PlainRow
after start rows = fold (λ kept row. insert_row row kept) start rows

sorted-after : (start rows : List PlainRow) → IsStrictlySortedBy by_data start → IsStrictlySortedBy by_data (after start rows)
sorted-after start [] s = s
sorted-after start (row ∷ rows) s = sorted-after (insert_row row start) rows (sorted-placed row start s)

moved : (row q : PlainRow) (start rows : List PlainRow) → IsIn q (insert_row row start) ⊎ IsIn q rows → IsIn q start ⊎ IsIn q (row ∷ rows)
moved row q start rows (inl h) = elim (in_placed row q start h) [ inl e ↦ inr (inl e) | inr k ↦ inl k ]
moved row q start rows (inr h) = inr (inr h)

in_after : (q : PlainRow) (start rows : List PlainRow) → IsIn q (after start rows) → IsIn q start ⊎ IsIn q rows
in_after q start [] h = inl h
in_after q start (row ∷ rows) h = moved row q start rows (in_after q (insert_row row start) rows h)

still : (row q : PlainRow) (start : List PlainRow) → HasFor start q → HasFor (insert_row row start) q
still row q start h =
    let next = placed_has row h.kept start h.is_in in
    record { kept = next.kept; is_in = next.is_in; stands = for-trans next.kept h.kept q next.stands h.stands }

after_has : (q : PlainRow) (start rows : List PlainRow) → HasFor start q ⊎ IsIn q rows → HasFor (after start rows) q
after_has q start [] (inl h) = h
after_has q start [] (inr h) = absurd h
after_has q start (row ∷ rows) (inl h) = after_has q (insert_row row start) rows (inl (still row q start h))
after_has q start (row ∷ rows) (inr (inl e)) = after_has q (insert_row row start) rows (inl (subst (HasFor (insert_row row start)) e (placed_has_row row start)))
after_has q start (row ∷ rows) (inr (inr h)) = after_has q (insert_row row start) rows (inr h)

pub rule_rows-sorted : (rows : List PlainRow) → IsStrictlySortedBy by_data (rule_rows rows)
unfolding IsStrictlySortedBy
rule_rows-sorted rows = sorted-after [] rows tt

pub in_rule_rows : (q : PlainRow) (rows : List PlainRow) → IsIn q (rule_rows rows) → IsIn q rows
in_rule_rows q rows h = elim (in_after q [] rows h) [ inl k ↦ absurd k | inr k ↦ k ]

pub rule_rows_has : (q : PlainRow) (rows : List PlainRow) → IsIn q rows → HasFor (rule_rows rows) q
rule_rows_has q rows h = after_has q [] rows (inr h)
