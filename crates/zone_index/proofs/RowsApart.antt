-- Rows of one identity stand at one place, so that no rows repeat where none do at any place.
use Rattle.std.proofs.Common.{◌≡◌, ◌≢◌, ℕ, suc, ◌+◌, ◌≤◌, Bool, true, false, cond, ◌||◌, Option, Some, None, List, [], ◌∷◌, ◌++◌, length, map, fold, refl, sym, ap, subst, ◌∙◌, arith, true≢false, append-nil, append_assoc}
use Rattle.std.specs.Prelude.{◌==◌, AllPairs, if◌then◌else◌}
use Rattle.std.specs.List.{AllByRecursion}
use Rattle.std.specs.Str.{bytes_eq}
use Rattle.std.proofs.lemmas.Slice.Eq.{bytes_eq-Decides}
use Rattle.std.proofs.lemmas.Bool.{eqb-true}
use Rattle.std.proofs.lemmas.List.{length-append, length-map}
use Rattle.std.proofs.lemmas.List.Elements.{All-from_recursion}
use Rattle.std.proofs.lemmas.List.Kept.{AllPairs-cons}
use Rattle.dns_record.specs.Row.{PlainRow, identity}
use Rattle.packed_lists.specs.Stored.{PlainStored, row_of_number}
use Rattle.zone_index.specs.Placed.{IsPlace, is_same_place, row_place, rows_by, stored_at, with_found}
use Rattle.zone_index.specs.declared.place.Place.{Place}
use Rattle.zone_rows.specs.Distinct.{AreDistinct}
use Rattle.zone_rows.specs.Repeats.{has_row, with_row, without_repeats}
use Rattle.zone_rows.specs.Stored.{IsStored, plain_row}
use Rattle.zone_index.proofs.Numbered.{AreAlikeByIdentity, alike_place, all_recursion}
use Rattle.zone_index.proofs.Placing.{place_itself, placed}
use Rattle.zone_index.proofs.Ties.{NameLaws}

-- ---- pairs, by recursion

module _ {X : Type 0} (R : X → X → Type 0) where
  abbrev Pairs : List X → Type 0
  Pairs [] = Unit {0}
  Pairs (x ∷ xs) = AllByRecursion (R x) xs × Pairs xs

  pairs_of : (xs : List X) → AllPairs R xs → Pairs xs
  pairs_of [] pairs = tt
  pairs_of (x ∷ xs) pairs = (
    all_recursion (R x) xs (λ k d lt. pairs 0 (suc k) d (omega arith) (omega (arith, lt))),
    pairs_of xs (λ i j d lt within. pairs (suc i) (suc j) d (omega (arith, lt)) (omega (arith, within))),
  )

  all_pairs : (xs : List X) → Pairs xs → AllPairs R xs
  all_pairs [] pairs = λ i j d lt within. absurd (omega (arith, within))
  all_pairs (x ∷ xs) pairs = AllPairs-cons R x xs (All-from_recursion (R x) xs pairs.0) (all_pairs xs pairs.1)

abbrev Differ : PlainRow → PlainRow → Type 0
Differ row other = identity row ≢ identity other

abbrev StoredDiffer : PlainStored → PlainStored → Type 0
StoredDiffer s t = identity (plain_row s) ≢ identity (plain_row t)

all_plain : (row : PlainRow) (rows : List PlainStored) → AllByRecursion (Differ row) (map plain_row rows) → AllByRecursion (λ t. identity row ≢ identity (plain_row t)) rows
all_plain row [] all = tt
all_plain row (t ∷ rows) all = (all.0, all_plain row rows all.1)

plain_all : (row : PlainRow) (rows : List PlainStored) → AllByRecursion (λ t. identity row ≢ identity (plain_row t)) rows → AllByRecursion (Differ row) (map plain_row rows)
plain_all row [] all = tt
plain_all row (t ∷ rows) all = (all.0, plain_all row rows all.1)

stored_pairs : (rows : List PlainStored) → Pairs Differ (map plain_row rows) → Pairs StoredDiffer rows
stored_pairs [] pairs = tt
stored_pairs (t ∷ rows) pairs = (all_plain (plain_row t) rows pairs.0, stored_pairs rows pairs.1)

plain_pairs : (rows : List PlainStored) → Pairs StoredDiffer rows → Pairs Differ (map plain_row rows)
plain_pairs [] pairs = tt
plain_pairs (t ∷ rows) pairs = (plain_all (plain_row t) rows pairs.0, plain_pairs rows pairs.1)

-- ---- rows of all places

module _ (names : NameLaws) (alike : AreAlikeByIdentity) (origin : List (List ℕ)) where
  -- where two rows have one identity, they are at one place
  one_place : (t u : PlainStored) → IsStored t → IsStored u → identity (plain_row t) ≡ identity (plain_row u) → is_same_place (row_place origin (plain_row t)) (row_place origin (plain_row u)) ≡ true
  one_place t u is_t is_u e =
      ap (is_same_place (row_place origin (plain_row t))) (sym (alike_place origin (plain_row t) (plain_row u) (alike (plain_row t) (plain_row u) is_t.is_row is_u.is_row e)))
      ∙ place_itself (row_place origin (plain_row t))

  head_by : (t u : PlainStored) (rest us : List PlainStored) → IsStored t → IsStored u → (b : Bool) → is_same_place (row_place origin (plain_row t)) (row_place origin (plain_row u)) ≡ b
      → AllByRecursion (StoredDiffer t) (cond b (u ∷ rest) rest) → (AllByRecursion (StoredDiffer t) rest → AllByRecursion (StoredDiffer t) us) → AllByRecursion (StoredDiffer t) (u ∷ us)
  head_by t u rest us is_t is_u true h all further = (all.0, further all.1)
  head_by t u rest us is_t is_u false h all further = ((λ e. true≢false (sym (one_place t u is_t is_u e) ∙ h)), further all)

  -- a row differs from all others, where it does from those of its place
  head_apart : (t : PlainStored) (us : List PlainStored) → IsStored t → AllByRecursion IsStored us → AllByRecursion (StoredDiffer t) (stored_at origin us (row_place origin (plain_row t))) → AllByRecursion (StoredDiffer t) us
  head_apart t [] is are all = tt
  head_apart t (u ∷ us) is are all =
      head_by t u (stored_at origin us (row_place origin (plain_row t))) us is are.0 (is_same_place (row_place origin (plain_row t)) (row_place origin (plain_row u))) refl all
      (head_apart t us is are.1)

  its_pairs : (t : PlainStored) (rest : List PlainStored) (b : Bool) → b ≡ true → Pairs StoredDiffer (cond b (t ∷ rest) rest) → AllByRecursion (StoredDiffer t) rest
  its_pairs t rest true h pairs = pairs.0
  its_pairs t rest false h pairs = absurd (true≢false (sym h))

  other_pairs : (t : PlainStored) (rest : List PlainStored) (b : Bool) → Pairs StoredDiffer (cond b (t ∷ rest) rest) → Pairs StoredDiffer rest
  other_pairs t rest true pairs = pairs.1
  other_pairs t rest false pairs = pairs

  places_apart : (rows : List PlainStored) → AllByRecursion IsStored rows → ((q : Place) → IsPlace q → Pairs StoredDiffer (stored_at origin rows q)) → Pairs StoredDiffer rows
  places_apart [] are each = tt
  places_apart (t ∷ rows) are each = (
    head_apart t rows are.0 are.1
        (its_pairs t (stored_at origin rows (row_place origin (plain_row t))) (is_same_place (row_place origin (plain_row t)) (row_place origin (plain_row t))) (place_itself (row_place origin (plain_row t)))
        (each (row_place origin (plain_row t)) (placed names origin (plain_row t) are.0.is_row))),
    places_apart rows are.1 (λ q is_q. other_pairs t (stored_at origin rows q) (is_same_place q (row_place origin (plain_row t))) (each q is_q)),
  )

  pub all_distinct : (rows : List PlainStored) → AllByRecursion IsStored rows → ((q : Place) → IsPlace q → AreDistinct (map plain_row (stored_at origin rows q))) → AreDistinct (map plain_row rows)
  all_distinct rows are each =
      all_pairs Differ (map plain_row rows)
      (plain_pairs rows (places_apart rows are (λ q is_q. stored_pairs (stored_at origin rows q) (pairs_of Differ (map plain_row (stored_at origin rows q)) (each q is_q)))))

-- ---- rows without repeats that are as many

fewer_by : (b : Bool) (kept rest : List PlainRow) (row : PlainRow) (n : ℕ) → ((ks : List PlainRow) → length (fold with_row ks rest) ≤ length ks + n) → length (fold with_row (if b then kept else kept ++ row ∷ []) rest) ≤ length kept + suc n
fewer_by true kept rest row n h = omega (arith, h kept)
fewer_by false kept rest row n h = omega (arith, h (kept ++ row ∷ []), length-append kept (row ∷ []))

fewer : (rows kept : List PlainRow) → length (fold with_row kept rows) ≤ length kept + length rows
fewer [] kept = omega arith
fewer (row ∷ rows) kept = fewer_by (has_row kept row) kept rows row (length rows) (fewer rows)

all_by : (b : Bool) (kept rest : List PlainRow) (row : PlainRow) → length (fold with_row kept rest) ≤ length kept + length rest
    → ((ks : List PlainRow) → length (fold with_row ks rest) ≡ length ks + length rest → fold with_row ks rest ≡ ks ++ rest)
    → length (fold with_row (if b then kept else kept ++ row ∷ []) rest) ≡ length kept + suc (length rest) → fold with_row (if b then kept else kept ++ row ∷ []) rest ≡ kept ++ row ∷ rest
all_by true kept rest row few h e = absurd (omega (arith, few, e))
all_by false kept rest row few h e = h (kept ++ row ∷ []) (omega (arith, e, length-append kept (row ∷ []))) ∙ append_assoc kept (row ∷ []) rest

all_kept : (rows kept : List PlainRow) → length (fold with_row kept rows) ≡ length kept + length rows → fold with_row kept rows ≡ kept ++ rows
all_kept [] kept e = sym (append-nil kept)
all_kept (row ∷ rows) kept e = all_by (has_row kept row) kept rows row (fewer rows kept) (all_kept rows) e

pub as_many : (rows : List PlainRow) → length (without_repeats rows) ≡ length rows → without_repeats rows ≡ rows
unfolding without_repeats
as_many rows e = all_kept rows [] (omega (arith, e))

-- ---- rows of which no two have one identity are all kept

between : {X : Type 0} (P : X → Type 0) (xs : List X) (x : X) (ys : List X) → AllByRecursion P (xs ++ x ∷ ys) → P x
between P [] x ys all = all.0
between P (z ∷ xs) x ys all = between P xs x ys all.1

before : {X : Type 0} (R : X → X → Type 0) (xs : List X) (x : X) (ys : List X) → Pairs R (xs ++ x ∷ ys) → AllByRecursion (λ y. R y x) xs
before R [] x ys pairs = tt
before R (z ∷ xs) x ys pairs = (between (R z) xs x ys pairs.0, before R xs x ys pairs.1)

none_by : (b rest : Bool) → (b ≡ true → ⊥) → rest ≡ false → (b || rest) ≡ false
none_by true rest differ none = absurd (differ refl)
none_by false rest differ none = none

none_has : (kept : List PlainRow) (row : PlainRow) → AllByRecursion (λ k. Differ k row) kept → has_row kept row ≡ false
none_has [] row all = refl
none_has (k ∷ kept) row all =
    none_by (bytes_eq (identity row) (identity k)) (has_row kept row) (λ h. all.0 (sym ((bytes_eq-Decides (identity row) (identity k)).0 h))) (none_has kept row all.1)

kept_all : (rows kept : List PlainRow) → Pairs Differ (kept ++ rows) → fold with_row kept rows ≡ kept ++ rows
kept_all [] kept pairs = sym (append-nil kept)
kept_all (row ∷ rows) kept pairs =
    ap (λ (b : Bool). fold with_row (if b then kept else kept ++ row ∷ []) rows) (none_has kept row (before Differ kept row rows pairs))
    ∙ kept_all rows (kept ++ row ∷ []) (subst (Pairs Differ) (sym (append_assoc kept (row ∷ []) rows)) pairs)
    ∙ append_assoc kept (row ∷ []) rows

pub kept_distinct : (rows : List PlainRow) → AreDistinct rows → without_repeats rows ≡ rows
unfolding without_repeats
kept_distinct rows distinct = kept_all rows [] (pairs_of Differ rows distinct)

-- ---- rows that are found

found_more : (found : Option PlainStored) (rest : List PlainStored) → length (with_found found rest) ≤ suc (length rest)
found_more None rest = omega arith
found_more (Some s) rest = omega arith

few_found : (numbers : List ℕ) (rows : List PlainStored) → length (rows_by numbers rows) ≤ length numbers
few_found [] rows = omega arith
few_found (n ∷ numbers) rows = omega (arith, found_more (row_of_number n rows) (rows_by numbers rows), few_found numbers rows)

-- ---- in the words of the functions

pub group_distinct : (rows kept : List PlainRow) (made count : ℕ) (b : Bool) → kept ≡ without_repeats rows → made ≡ length kept → count ≡ length rows → b ≡ (made == count) → AreDistinct (without_repeats rows) → b ≡ true → AreDistinct rows
group_distinct rows kept made count b is m c test distinct h =
    let same : made ≡ count = eqb-true made count (sym test ∙ h) in
    subst AreDistinct (as_many rows (sym (ap length is) ∙ sym m ∙ same ∙ c)) distinct

pub alone_distinct : (numbers : List ℕ) (rows : List PlainStored) → length numbers ≤ 1 → AreDistinct (map plain_row (rows_by numbers rows))
alone_distinct numbers rows few i j d lt within = absurd (omega (arith, lt, within, length-map (rows_by numbers rows) plain_row, few_found numbers rows))
