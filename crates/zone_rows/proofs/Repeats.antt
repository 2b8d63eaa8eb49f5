-- Rows that are taken one after another, without those that came before.
use Rattle.std.proofs.Common.{◌≡◌, ℕ, Bool, true, false, not, ◌||◌, List, [], ◌∷◌, ◌++◌, refl, sym, ap, ◌∙◌}
use Rattle.std.specs.List.{list_any}
use Rattle.std.specs.Str.{bytes_eq}
use Rattle.std.proofs.Math.Bool.{or_comm, or-false}
use Rattle.std.proofs.lemmas.List.Folds.{list_any-append}
use Rattle.std.proofs.lemmas.List.Sums.{fold_push}
use Rattle.std.proofs.lemmas.Slice.Eq.{bytes_eq-Decides}
use Rattle.zone_rows.specs.KeySet.{has_key}
use Rattle.zone_rows.specs.Repeats.{has_row, with_row, without_repeats, AreKeysOf}
use Rattle.dns_record.specs.Row.{PlainRow, identity}

-- the rows that were kept of those that were taken, with the set of their identities
pub record HasKept (taken kept : List PlainRow) (seen : List (List ℕ)) : Type 0 where
  pub rows : kept ≡ without_repeats taken
  pub keys : AreKeysOf seen kept

pub none_kept : HasKept [] [] []
unfolding without_repeats
none_kept = record { rows = refl; keys = λ key. refl }

-- a key more
abbrev pub HasKeyMore : List (List ℕ) → List (List ℕ) → List ℕ → Type 0
HasKeyMore old new key = (other : List ℕ) → has_key new other ≡ (bytes_eq other key || has_key old other)

keys_more : (seen new : List (List ℕ)) (rows : List PlainRow) (row : PlainRow) → AreKeysOf seen rows → HasKeyMore seen new (identity row) → AreKeysOf new (rows ++ row ∷ [])
keys_more seen new rows row are h = λ other.
    let test = λ (r : PlainRow). bytes_eq other (identity r) in
    h other
    ∙ or_comm (bytes_eq other (identity row)) (has_key seen other)
    ∙ ap (λ (b : Bool). b || bytes_eq other (identity row)) (are other)
    ∙ ap (λ (b : Bool). list_any test rows || b) (sym (or-false (test row)))
    ∙ sym (list_any-append test rows (row ∷ []))

or_known : (a b : Bool) → (a ≡ true → b ≡ true) → (a || b) ≡ b
or_known true b h = sym (h refl)
or_known false b h = refl

keys_same : (seen new : List (List ℕ)) (rows : List PlainRow) (key : List ℕ) → AreKeysOf seen rows → has_key seen key ≡ true → HasKeyMore seen new key → AreKeysOf new rows
keys_same seen new rows key are there h = λ other.
    let decides = bytes_eq-Decides other key in
    h other ∙ or_known (bytes_eq other key) (has_key seen other) (λ t. ap (has_key seen) (decides.0 t) ∙ there) ∙ are other

was_new : (b r : Bool) → r ≡ not b → r ≡ true → b ≡ false
was_new true r e t = cc
was_new false r e t = refl

was_there : (b r : Bool) → r ≡ not b → r ≡ false → b ≡ true
was_there true r e t = refl
was_there false r e t = cc

next_row : (taken kept next : List PlainRow) (row : PlainRow) → kept ≡ without_repeats taken → with_row kept row ≡ next → next ≡ without_repeats (taken ++ row ∷ [])
unfolding without_repeats
next_row taken kept next row e one = sym one ∙ ap (λ (rows : List PlainRow). with_row rows row) e ∙ sym (fold_push with_row [] taken row)

-- a row that is new
pub row_kept : (taken kept : List PlainRow) (seen new : List (List ℕ)) (row : PlainRow) (key : List ℕ) (is_new : Bool) → HasKept taken kept seen → key ≡ identity row → is_new ≡ not (has_key seen key) → is_new ≡ true → HasKeyMore seen new key
    → HasKept (taken ++ row ∷ []) (kept ++ row ∷ []) new
row_kept taken kept seen new row key is_new was e told t more =
    let none : has_key seen (identity row) ≡ false = sym (ap (has_key seen) e) ∙ was_new (has_key seen key) is_new told t in
    let test : has_row kept row ≡ false = sym (was.keys (identity row)) ∙ none in
    let one : with_row kept row ≡ kept ++ row ∷ [] = rw test refl in
    record { rows = next_row taken kept (kept ++ row ∷ []) row was.rows one; keys = keys_more seen new kept row was.keys (rw (← e) more) }

-- a row that came before
pub row_left : (taken kept : List PlainRow) (seen new : List (List ℕ)) (row : PlainRow) (key : List ℕ) (is_new : Bool) → HasKept taken kept seen → key ≡ identity row → is_new ≡ not (has_key seen key) → is_new ≡ false → HasKeyMore seen new key
    → HasKept (taken ++ row ∷ []) kept new
row_left taken kept seen new row key is_new was e told t more =
    let there : has_key seen key ≡ true = was_there (has_key seen key) is_new told t in
    let test : has_row kept row ≡ true = sym (was.keys (identity row)) ∙ sym (ap (has_key seen) e) ∙ there in
    let one : with_row kept row ≡ kept = rw test refl in
    record { rows = next_row taken kept kept row was.rows one; keys = keys_same seen new kept key was.keys there more }
