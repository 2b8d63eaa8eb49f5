-- Rows by their numbers.
use Rattle.std.proofs.Common.{◌≡◌, ◌≢◌, ℕ, suc, ◌+◌, ◌<◌, ◌≤◌, Bool, true, false, not, cond, ◌||◌, Option, Some, None, List, [], ◌∷◌, map, refl, sym, ap, subst, ◌∙◌, arith, true≢false, option_map}
use Rattle.std.specs.Prelude.{filter, All, AllPairs}
use Rattle.std.specs.List.{AllByRecursion, find}
use Rattle.std.specs.Option.{is_some}
use Rattle.std.specs.Str.{bytes_eq}
use Rattle.std.proofs.lemmas.Bool.{ne_eqb, eq-eqb}
use Rattle.std.proofs.lemmas.Slice.Eq.{bytes_eq-Decides}
use Rattle.dns_record.specs.Row.{PlainRow, IsRow, AreAlike, identity}
use Rattle.action_codec.specs.Action.{is_live_type}
use Rattle.trigger_codec.specs.Decode.{trigger}
use Rattle.zone_index.specs.declared.place.Place.{Place}
use Rattle.packed_lists.specs.Stored.{PlainStored, NumbersRise, has_number, row_of_number, without_number}
use Rattle.zone_rows.specs.Repeats.{has_row}
use Rattle.zone_rows.specs.Steps.{without_row}
use Rattle.zone_rows.specs.Stored.{IsStored, plain_row}
use Rattle.zone_index.specs.Placed.{place_by, row_place, is_same_place, stored_at, with_found, rows_by, has_identity, number_among}
use Rattle.zone_index.specs.Rules.{some_trigger}
use Rattle.zone_index.proofs.Placing.{place_itself}

abbrev pub numbers : List PlainStored → List ℕ
numbers rows = map (λ s. s.number) rows

pub all_by : {X : Type 0} (P Q : X → Type 0) → ((x : X) → P x → Q x) → (xs : List X) → AllByRecursion P xs → AllByRecursion Q xs
all_by P Q f [] all = tt
all_by P Q f (x ∷ xs) all = (f x all.0, all_by P Q f xs all.1)

pub all_recursion : {X : Type 0} (P : X → Type 0) (xs : List X) → All P xs → AllByRecursion P xs
all_recursion P [] all = tt
all_recursion P (x ∷ xs) all = (all 0 x (omega arith), all_recursion P xs (λ k d lt. all (suc k) d (omega (arith, lt))))

module _ {X : Type 0} (P : X → Type 0) (p : X → Bool) where
  kept_by : (b : Bool) (x : X) (xs : List X) → P x → AllByRecursion P xs → AllByRecursion P (cond b (x ∷ xs) xs)
  kept_by true x xs h all = (h, all)
  kept_by false x xs h all = all

  pub all_filter : (xs : List X) → AllByRecursion P xs → AllByRecursion P (filter p xs)
  all_filter [] all = tt
  all_filter (x ∷ xs) all = kept_by (p x) x (filter p xs) all.0 (all_filter xs all.1)

-- ---- rows found by number

-- the row is found by its number, which isn't less
record IsFound (low : ℕ) (rows : List PlainStored) (s : PlainStored) : Type 0 where
  least : low ≤ s.number
  found : row_of_number s.number rows ≡ Some s

found_further : (low : ℕ) (r : PlainStored) (rows : List PlainStored) (s : PlainStored) → low ≤ r.number → IsFound (r.number + 1) rows s → IsFound low (r ∷ rows) s
found_further low r rows s h f = record {
  least = omega (arith, h, f.least);
  found = ap (λ (b : Bool). cond b (Some r) (row_of_number s.number rows)) (ne_eqb r.number s.number (λ e. omega (arith, f.least, e))) ∙ f.found;
}

all_found : (low high : ℕ) (rows : List PlainStored) → NumbersRise low rows high → AllByRecursion (IsFound low rows) rows
all_found low high [] rise = tt
all_found low high (r ∷ rows) rise = (
  record { least = rise.0; found = ap (λ (b : Bool). cond b (Some r) (row_of_number r.number rows)) (eq-eqb r.number r.number refl) },
  all_by (IsFound (r.number + 1) rows) (IsFound low (r ∷ rows)) (λ s f. found_further low r rows s rise.0 f) rows (all_found (r.number + 1) high rows rise.1),
)

abbrev pub AreFound : List PlainStored → List PlainStored → Type 0
AreFound rows some = AllByRecursion (λ s. row_of_number s.number rows ≡ Some s) some

pub all_are_found : (next : ℕ) (rows : List PlainStored) → NumbersRise 0 rows next → AreFound rows rows
all_are_found next rows rise = all_by (IsFound 0 rows) (λ s. row_of_number s.number rows ≡ Some s) (λ s f. f.found) rows (all_found 0 next rows rise)

pub found_at : (origin : List (List ℕ)) (next : ℕ) (rows : List PlainStored) (place : Place) → NumbersRise 0 rows next → AreFound rows (stored_at origin rows place)
found_at origin next rows place rise =
    all_filter (λ s. row_of_number s.number rows ≡ Some s) (λ s. is_same_place place (row_place origin (plain_row s))) rows
    (all_are_found next rows rise)

pub rows_by_numbers : (rows some : List PlainStored) → AreFound rows some → rows_by (numbers some) rows ≡ some
rows_by_numbers rows [] all = refl
rows_by_numbers rows (s ∷ some) all =
    ap (λ (f : Option PlainStored). with_found f (rows_by (numbers some) rows)) all.0
    ∙ ap (λ (l : List PlainStored). s ∷ l) (rows_by_numbers rows some all.1)

pub stored_by : (origin : List (List ℕ)) (next : ℕ) (rows : List PlainStored) (place : Place) → NumbersRise 0 rows next
    → rows_by (numbers (stored_at origin rows place)) rows ≡ stored_at origin rows place
stored_by origin next rows place rise = rows_by_numbers rows (stored_at origin rows place) (found_at origin next rows place rise)

-- ---- identities

number_in_by : (key : List ℕ) (s : PlainStored) (some : List PlainStored) (rest : Option ℕ) (found : Option PlainStored) (b : Bool) → found ≡ Some s → bytes_eq key (identity (plain_row s)) ≡ b
    → rest ≡ option_map (λ s. s.number) (find (λ t. bytes_eq key (identity (plain_row t))) some)
    → cond (has_identity key found) (Some s.number) rest ≡ option_map (λ s. s.number) (cond b (Some s) (find (λ t. bytes_eq key (identity (plain_row t))) some))
number_in_by key s some rest found true e t others = ap (λ (f : Option PlainStored). cond (has_identity key f) (Some s.number) rest) e ∙ ap (λ (b : Bool). cond b (Some s.number) rest) t
number_in_by key s some rest found false e t others = ap (λ (f : Option PlainStored). cond (has_identity key f) (Some s.number) rest) e ∙ ap (λ (b : Bool). cond b (Some s.number) rest) t ∙ others

number_in : (key : List ℕ) (rows some : List PlainStored) → AreFound rows some
    → number_among key rows (numbers some) ≡ option_map (λ s. s.number) (find (λ t. bytes_eq key (identity (plain_row t))) some)
number_in key rows [] all = refl
number_in key rows (s ∷ some) all =
    number_in_by key s some (number_among key rows (numbers some)) (row_of_number s.number rows) (bytes_eq key (identity (plain_row s))) all.0 refl (number_in key rows some all.1)

module _ {X : Type 0} (p g : X → Bool) where
  find_by : (a b : Bool) (x : X) (xs : List X) → p x ≡ a → g x ≡ b → (a ≡ true → b ≡ true) → find p (filter g xs) ≡ find p xs
      → find p (cond b (x ∷ filter g xs) (filter g xs)) ≡ cond a (Some x) (find p xs)
  find_by true true x xs ea eb t others = ap (λ (c : Bool). cond c (Some x) (find p (filter g xs))) ea
  find_by false true x xs ea eb t others = ap (λ (c : Bool). cond c (Some x) (find p (filter g xs))) ea ∙ others
  find_by true false x xs ea eb t others = absurd (true≢false (sym (t refl)))
  find_by false false x xs ea eb t others = others

  -- what is looked for passes
  pub find_filter : (xs : List X) → AllByRecursion (λ x. p x ≡ true → g x ≡ true) xs → find p (filter g xs) ≡ find p xs
  find_filter [] all = refl
  find_filter (x ∷ xs) all = find_by (p x) (g x) x xs refl refl all.0 (find_filter xs all.1)

-- rows of one identity are alike
abbrev pub AreAlikeByIdentity : Type 0
AreAlikeByIdentity = (row other : PlainRow) → IsRow row → IsRow other → identity row ≡ identity other → AreAlike row other

-- and stand at one place
pub alike_place : (origin : List (List ℕ)) (row other : PlainRow) → AreAlike row other → row_place origin row ≡ row_place origin other
alike_place origin row other h =
    λ i. place_by (h.owner i) (cond (is_live_type (h.rtype i)) (some_trigger (trigger (h.owner i) origin)) None)

module _ (laws : AreAlikeByIdentity) (origin : List (List ℕ)) (row : PlainRow) (is_row : IsRow row) where
  abbrev pub has_it : PlainStored → Bool
  has_it t = bytes_eq (identity row) (identity (plain_row t))

  pub at_its_place : (t : PlainStored) → IsStored t → has_it t ≡ true → is_same_place (row_place origin row) (row_place origin (plain_row t)) ≡ true
  at_its_place t is h =
      let same : identity row ≡ identity (plain_row t) = (bytes_eq-Decides (identity row) (identity (plain_row t))).0 h in
      ap (is_same_place (row_place origin row)) (sym (alike_place origin row (plain_row t) (laws row (plain_row t) is_row is.is_row same))) ∙ place_itself (row_place origin row)

  -- the row of the identity is found among those of its place
  pub number_of : (next : ℕ) (rows : List PlainStored) → AllByRecursion IsStored rows → NumbersRise 0 rows next
      → number_among (identity row) rows (numbers (stored_at origin rows (row_place origin row))) ≡ option_map (λ s. s.number) (find has_it rows)
  number_of next rows are rise =
      number_in (identity row) rows (stored_at origin rows (row_place origin row)) (found_at origin next rows (row_place origin row) rise)
      ∙ ap (option_map (λ s. s.number)) (find_filter has_it (λ s. is_same_place (row_place origin row) (row_place origin (plain_row s))) rows (all_by IsStored (λ x. has_it x ≡ true → is_same_place (row_place origin row) (row_place origin (plain_row x)) ≡ true) at_its_place rows are))

-- ---- whether there is one

any_by : (row : PlainRow) (s : PlainStored) (rows : List PlainStored) (b : Bool) → has_row (map plain_row rows) row ≡ is_some (find (λ t. bytes_eq (identity row) (identity (plain_row t))) rows)
    → (b || has_row (map plain_row rows) row) ≡ is_some (cond b (Some s) (find (λ t. bytes_eq (identity row) (identity (plain_row t))) rows))
any_by row s rows true h = refl
any_by row s rows false h = h

pub has_found : (row : PlainRow) (rows : List PlainStored) → has_row (map plain_row rows) row ≡ is_some (find (λ t. bytes_eq (identity row) (identity (plain_row t))) rows)
has_found row [] = refl
has_found row (s ∷ rows) = any_by row s rows (bytes_eq (identity row) (identity (plain_row s))) (has_found row rows)

-- ---- without it

module _ (row : PlainRow) where
  abbrev it : PlainStored → Bool
  it t = bytes_eq (identity row) (identity (plain_row t))

  -- the rows are left
  abbrev others : List PlainStored → List PlainRow
  others rows = map plain_row (filter (λ t. not (it t)) rows)

  map_by : (b : Bool) (t : PlainStored) (rest : List PlainStored) (plain : List PlainRow) → map plain_row rest ≡ plain → map plain_row (cond (not b) (t ∷ rest) rest) ≡ cond (not b) (plain_row t ∷ plain) plain
  map_by true t rest plain e = e
  map_by false t rest plain e = ap (λ (l : List PlainRow). plain_row t ∷ l) e

  pub others_left : (rows : List PlainStored) → others rows ≡ without_row (map plain_row rows) row
  others_left [] = refl
  others_left (t ∷ rows) = map_by (it t) t (filter (λ t. not (it t)) rows) (without_row (map plain_row rows) row) (others_left rows)

  find_least : (low high : ℕ) (rows : List PlainStored) (s : PlainStored) → NumbersRise low rows high → find it rows ≡ Some s → low ≤ s.number
  find_least low high [] s rise e = cc e
  find_least low high (t ∷ rows) s rise e = least_by (it t) refl (λ rest. find_least (t.number + 1) high rows s rise.1 rest)
    where
      least_by : (b : Bool) → it t ≡ b → (find it rows ≡ Some s → t.number + 1 ≤ s.number) → low ≤ s.number
      least_by true h further =
          let same : Some t ≡ Some s = sym (ap (λ (b : Bool). cond b (Some t) (find it rows)) h) ∙ e in
          let here : t ≡ s = cc same in
          omega (arith, rise.0, ap (λ (x : PlainStored). x.number) here)
      least_by false h further =
          let rest : find it rows ≡ Some s = sym (ap (λ (b : Bool). cond b (Some t) (find it rows)) h) ∙ e in
          omega (arith, rise.0, further rest)

  -- none of the rows has the number, nor the identity
  none_left : (n low high : ℕ) (rows : List PlainStored) → NumbersRise low rows high → n < low → AllByRecursion (λ t. it t ≡ false) rows → without_number n rows ≡ filter (λ t. not (it t)) rows
  none_left n low high [] rise lt none = refl
  none_left n low high (t ∷ rows) rise lt none =
      let rest = none_left n (t.number + 1) high rows rise.1 (omega (arith, lt, rise.0)) none.1 in
      ap (λ (b : Bool). cond (not b) (t ∷ without_number n rows) (without_number n rows)) (ne_eqb t.number n (λ e. omega (arith, lt, rise.0, e)))
      ∙ ap (λ (l : List PlainStored). t ∷ l) rest
      ∙ sym (ap (λ (b : Bool). cond (not b) (t ∷ filter (λ t. not (it t)) rows) (filter (λ t. not (it t)) rows)) none.0)

  apart_from_first : (t : PlainStored) (rows : List PlainStored) → it t ≡ true → AllByRecursion (λ u. identity (plain_row t) ≢ identity (plain_row u)) rows → AllByRecursion (λ u. it u ≡ false) rows
  apart_from_first t rows h apart = all_by (λ u. identity (plain_row t) ≢ identity (plain_row u)) (λ u. it u ≡ false) (λ u ne. differ u ne (it u) refl) rows apart
    where
      differ : (u : PlainStored) → identity (plain_row t) ≢ identity (plain_row u) → (b : Bool) → it u ≡ b → b ≡ false
      differ u ne true e =
          absurd (ne (sym ((bytes_eq-Decides (identity row) (identity (plain_row t))).0 h) ∙ (bytes_eq-Decides (identity row) (identity (plain_row u))).0 e))
      differ u ne false e = refl

  -- each row differs from those behind it
  abbrev pub Differ : List PlainStored → Type 0
  Differ [] = Unit {0}
  Differ (t ∷ rows) = AllByRecursion (λ u. identity (plain_row t) ≢ identity (plain_row u)) rows × Differ rows

  -- the row of the identity is the one of its number
  pub same_left : (low high : ℕ) (rows : List PlainStored) (s : PlainStored) → NumbersRise low rows high → Differ rows → find it rows ≡ Some s
      → without_number s.number rows ≡ filter (λ t. not (it t)) rows
  same_left low high [] s rise differ e = cc e
  same_left low high (t ∷ rows) s rise differ e = left_by (it t) refl (λ rest. same_left (t.number + 1) high rows s rise.1 differ.1 rest)
    where
      left_by : (b : Bool) → it t ≡ b → (find it rows ≡ Some s → without_number s.number rows ≡ filter (λ t. not (it t)) rows) → without_number s.number (t ∷ rows) ≡ filter (λ t. not (it t)) (t ∷ rows)
      left_by true h further =
          let same : Some t ≡ Some s = sym (ap (λ (b : Bool). cond b (Some t) (find it rows)) h) ∙ e in
          let here : t ≡ s = cc same in
          ap (λ (b : Bool). cond (not b) (t ∷ without_number s.number rows) (without_number s.number rows)) (eq-eqb t.number s.number (ap (λ (x : PlainStored). x.number) here))
          ∙ none_left s.number (t.number + 1) high rows rise.1 (omega (arith, ap (λ (x : PlainStored). x.number) here)) (apart_from_first t rows h differ.0)
          ∙ sym (ap (λ (b : Bool). cond (not b) (t ∷ filter (λ t. not (it t)) rows) (filter (λ t. not (it t)) rows)) h)
      left_by false h further =
          let rest : find it rows ≡ Some s = sym (ap (λ (b : Bool). cond b (Some t) (find it rows)) h) ∙ e in
          let above = find_least (t.number + 1) high rows s rise.1 rest in
          ap (λ (b : Bool). cond (not b) (t ∷ without_number s.number rows) (without_number s.number rows)) (ne_eqb t.number s.number (λ k. omega (arith, above, k)))
          ∙ ap (λ (l : List PlainStored). t ∷ l) (further rest)
          ∙ sym (ap (λ (b : Bool). cond (not b) (t ∷ filter (λ t. not (it t)) rows) (filter (λ t. not (it t)) rows)) h)

  differ_from : (rows : List PlainStored) → AllPairs (λ t u. identity (plain_row t) ≢ identity (plain_row u)) rows → Differ rows
  differ_from [] pairs = tt
  differ_from (t ∷ rows) pairs = (
    all_recursion (λ u. identity (plain_row t) ≢ identity (plain_row u)) rows (λ k d lt. pairs 0 (suc k) d (omega arith) (omega (arith, lt))),
    differ_from rows (λ i j d lt within. pairs (suc i) (suc j) d (omega (arith, lt)) (omega (arith, within))),
  )

  -- without the row that is found by its identity
  pub without_found : (next : ℕ) (rows : List PlainStored) (s : PlainStored) → NumbersRise 0 rows next → AllPairs (λ t u. identity (plain_row t) ≢ identity (plain_row u)) rows → find it rows ≡ Some s
      → map plain_row (without_number s.number rows) ≡ without_row (map plain_row rows) row
  without_found next rows s rise pairs e = ap (map plain_row) (same_left 0 next rows s rise (differ_from rows pairs) e) ∙ others_left rows

-- ---- what is true of all rows is true of one that is found

found_if : {X : Type 0} (P : X → Type 0) (b : Bool) (x y : X) (rest : Option X) → P x → (rest ≡ Some y → P y) → cond b (Some x) rest ≡ Some y → P y
found_if P true x y rest h others e = subst P (some_same x y e) h
  where
    some_same : {X : Type 0} (x y : X) → Some x ≡ Some y → x ≡ y
    some_same x y e = cc e
found_if P false x y rest h others e = others e

pub found_is : {X : Type 0} (P : X → Type 0) (test : X → Bool) (xs : List X) (x : X) → AllByRecursion P xs → find test xs ≡ Some x → P x
found_is P test [] x all e = cc e
found_is P test (y ∷ xs) x all e = found_if P (test y) y x (find test xs) all.0 (λ rest. found_is P test xs x all.1 rest) e

-- the row of a number is stored
pub found_stored : (number : ℕ) (rows : List PlainStored) (s : PlainStored) → All IsStored rows → row_of_number number rows ≡ Some s → IsStored s
found_stored number rows s are e = found_is IsStored (has_number number) rows s (all_recursion IsStored rows are) e

passes_if : {X : Type 0} (p : X → Bool) (b : Bool) (x y : X) (rest : Option X) → p x ≡ b → (rest ≡ Some y → p y ≡ true) → cond b (Some x) rest ≡ Some y → p y ≡ true
passes_if p true x y rest h others e = subst (λ (z : _). p z ≡ true) (same_some x y e) h
  where
    same_some : {X : Type 0} (x y : X) → Some x ≡ Some y → x ≡ y
    same_some x y e = cc e
passes_if p false x y rest h others e = others e

pub found_passes : {X : Type 0} (p : X → Bool) (xs : List X) (x : X) → find p xs ≡ Some x → p x ≡ true
found_passes p [] x e = cc e
found_passes p (y ∷ xs) x e = passes_if p (p y) y x (find p xs) refl (λ rest. found_passes p xs x rest) e
