-- Rows that are taken out and put in by marks of their keys.
use Rattle.std.proofs.Common.{◌≡◌, ℕ, ◌+◌, ◌<◌, ◌≤◌, Bool, true, false, not, cond, if◌then◌else◌, List, [], ◌∷◌, ◌++◌, length, Option, Some, None, refl, sym, ap, ◌∙◌, arith, nat_lt, bytes_eq, length-append}
use Rattle.std.specs.Prelude.{filter}
use Rattle.std.specs.List.{list_any}
use Rattle.std.specs.Option.{option_map, is_some}
use Rattle.std.proofs.lemmas.Slice.Eq.{bytes_eq-Decides}
use Rattle.std.proofs.lemmas.Bool.{ltb-true, ltb-false}
use Rattle.dns_record.specs.Row.{PlainRow, identity}
use Rattle.zone_rows.specs.declared.marks.Mark.{Mark}
use Rattle.zone_rows.specs.Marks.{Kept, IsUpdated, SameNames, cut_in, cut_of, live_from, count_key, one_more, AreMarks}

same_key : (key other : List ℕ) → bytes_eq key other ≡ true → key ≡ other
same_key key other e = (bytes_eq-Decides key other).0 e

pub own_test : (key : List ℕ) → bytes_eq key key ≡ true
own_test key = (bytes_eq-Decides key key).1 refl

pub other_mark : (old new : Kept) (key : List ℕ) (w : Option Mark) → IsUpdated old key w new → (other : List ℕ) → bytes_eq key other ≡ false → new other ≡ old other
other_mark old new key w u other e = u other ∙ ap (λ (b : Bool). cond b w (old other)) e

pub own_mark : (old new : Kept) (key : List ℕ) (w : Option Mark) → IsUpdated old key w new → (other : List ℕ) → bytes_eq key other ≡ true → new other ≡ w
own_mark old new key w u other e = u other ∙ ap (λ (b : Bool). cond b w (old other)) e

-- the rows that are live depend on where they were cut alone
live_same : (f g : Kept) (place : ℕ) (rows : List PlainRow) → ((row : PlainRow) → cut_of g row ≡ cut_of f row) → live_from g place rows ≡ live_from f place rows
live_same f g place [] h = refl
live_same f g place (row ∷ rows) h = λ i. if nat_lt place (h row i) then live_same f g (place + 1) rows h i else row ∷ live_same f g (place + 1) rows h i

joined : (b : Bool) (row : PlainRow) (whole left right : List PlainRow) → whole ≡ left ++ right → (if b then whole else row ∷ whole) ≡ (if b then left else row ∷ left) ++ right
joined true row whole left right e = e
joined false row whole left right e = ap (λ (rows : List PlainRow). row ∷ rows) e

pub live_append : (f : Kept) (place : ℕ) (rows others : List PlainRow) → live_from f place (rows ++ others) ≡ live_from f place rows ++ live_from f (place + length rows) others
live_append f place [] others = let e : place ≡ place + 0 = omega arith in ap (λ (p : ℕ). live_from f p others) e
live_append f place (row ∷ rows) others =
    let e : (place + 1) + length rows ≡ place + length (row ∷ rows) = omega arith in
    joined (nat_lt place (cut_of f row)) row (live_from f (place + 1) (rows ++ others)) (live_from f (place + 1) rows) (live_from f (place + length (row ∷ rows)) others)
    (live_append f (place + 1) rows others ∙ ap (λ (p : ℕ). live_from f (place + 1) rows ++ live_from f p others) e)

filter_out : (p : PlainRow → Bool) (c : Bool) (row : PlainRow) (rows : List PlainRow) → p row ≡ false → filter p (if c then rows else row ∷ rows) ≡ filter p rows
filter_out p true row rows e = refl
filter_out p false row rows e = rw e refl

filter_in : (p : PlainRow → Bool) (c : Bool) (row : PlainRow) (rows : List PlainRow) → p row ≡ true → filter p (if c then rows else row ∷ rows) ≡ (if c then filter p rows else row ∷ filter p rows)
filter_in p true row rows e = refl
filter_in p false row rows e = rw e refl

-- whether a row has another key
abbrev pub has_other : List ℕ → PlainRow → Bool
has_other key row = not (bytes_eq key (identity row))

below : (place bound : ℕ) → place < bound → nat_lt place bound ≡ true
below place bound h = by_test (nat_lt place bound) refl
  where
    by_test : (b : Bool) → nat_lt place bound ≡ b → nat_lt place bound ≡ true
    by_test true e = e
    by_test false e = absurd (omega (arith, ltb-false _ _ e, h))

not_below : (place bound : ℕ) → bound ≤ place → nat_lt place bound ≡ false
not_below place bound h = by_test (nat_lt place bound) refl
  where
    by_test : (b : Bool) → nat_lt place bound ≡ b → nat_lt place bound ≡ false
    by_test true e = absurd (omega (arith, ltb-true _ _ e, h))
    by_test false e = e

live_deleted : (f g : Kept) (key : List ℕ) (bound : ℕ) (place : ℕ) (rows : List PlainRow) → IsUpdated f key (Some (record { count = 0; cut = bound })) g → place + length rows ≤ bound
    → live_from g place rows ≡ filter (has_other key) (live_from f place rows)
live_deleted f g key bound place [] u h = refl
live_deleted f g key bound place (row ∷ rows) u h = by_key (bytes_eq key (identity row)) refl (live_deleted f g key bound (place + 1) rows u (omega (arith, h)))
  where
    by_key : (b : Bool) → bytes_eq key (identity row) ≡ b → live_from g (place + 1) rows ≡ filter (has_other key) (live_from f (place + 1) rows)
        → live_from g place (row ∷ rows) ≡ filter (has_other key) (live_from f place (row ∷ rows))
    by_key true e rest =
        let cut : cut_of g row ≡ bound = ap cut_in (own_mark f g key _ u (identity row) e) in
        let test : nat_lt place (cut_of g row) ≡ true = ap (nat_lt place) cut ∙ below place bound (omega (arith, h)) in
        ap (λ (b : Bool). if b then live_from g (place + 1) rows else row ∷ live_from g (place + 1) rows) test
        ∙ rest
        ∙ sym (filter_out (has_other key) (nat_lt place (cut_of f row)) row (live_from f (place + 1) rows) (ap not e))
    by_key false e rest =
        let cut : cut_of g row ≡ cut_of f row = ap cut_in (other_mark f g key _ u (identity row) e) in
        ap (λ (n : ℕ). if nat_lt place n then live_from g (place + 1) rows else row ∷ live_from g (place + 1) rows) cut
        ∙ ap (λ (l : List PlainRow). if nat_lt place (cut_of f row) then l else row ∷ l) rest
        ∙ sym (filter_in (has_other key) (nat_lt place (cut_of f row)) row (live_from f (place + 1) rows) (ap not e))

-- counts
more_or_not : (b : Bool) (whole part d : ℕ) → whole ≡ part + d → (if b then whole + 1 else whole) ≡ (if b then part + 1 else part) + d
more_or_not true whole part d e = omega arith
more_or_not false whole part d e = e

one_or_none : (b : Bool) → (if b then 0 + 1 else 0) ≡ 0 + (if b then 1 else 0)
one_or_none true = refl
one_or_none false = refl

count_push : (key : List ℕ) (rows : List PlainRow) (row : PlainRow) → count_key key (rows ++ row ∷ []) ≡ count_key key rows + (if bytes_eq key (identity row) then 1 else 0)
count_push key [] row = one_or_none (bytes_eq key (identity row))
count_push key (first ∷ rows) row = more_or_not (bytes_eq key (identity first)) (count_key key (rows ++ row ∷ [])) (count_key key rows) _ (count_push key rows row)

count_kept : (key other : List ℕ) (rows : List PlainRow) → bytes_eq key other ≡ false → count_key other (filter (has_other key) rows) ≡ count_key other rows
count_kept key other [] differs = refl
count_kept key other (row ∷ rows) differs = by_key (bytes_eq key (identity row)) refl (bytes_eq other (identity row)) refl (count_kept key other rows differs)
  where
    by_key : (b : Bool) → bytes_eq key (identity row) ≡ b → (c : Bool) → bytes_eq other (identity row) ≡ c → count_key other (filter (has_other key) rows) ≡ count_key other rows → count_key other (filter (has_other key) (row ∷ rows)) ≡ count_key other (row ∷ rows)
    by_key true e true t rest =
        let same : bytes_eq key other ≡ true = (bytes_eq-Decides key other).1 (same_key key (identity row) e ∙ sym (same_key other (identity row) t)) in
        absurd cc
    by_key true e false t rest = rw (e, t) rest
    by_key false e c t rest = rw e (ap (λ (n : ℕ). if bytes_eq other (identity row) then n + 1 else n) rest)

count_gone : (key : List ℕ) (rows : List PlainRow) → count_key key (filter (has_other key) rows) ≡ 0
count_gone key [] = refl
count_gone key (row ∷ rows) = by_key (bytes_eq key (identity row)) refl (count_gone key rows)
  where
    by_key : (b : Bool) → bytes_eq key (identity row) ≡ b → count_key key (filter (has_other key) rows) ≡ 0 → count_key key (filter (has_other key) (row ∷ rows)) ≡ 0
    by_key true e rest = rw e rest
    by_key false e rest =
        let kept : filter (has_other key) (row ∷ rows) ≡ row ∷ filter (has_other key) rows = rw e refl in
        ap (count_key key) kept ∙ ap (λ (b : Bool). if b then count_key key (filter (has_other key) rows) + 1 else count_key key (filter (has_other key) rows)) e ∙ rest

length_kept : (key : List ℕ) (rows : List PlainRow) → length (filter (has_other key) rows) + count_key key rows ≡ length rows
length_kept key [] = refl
length_kept key (row ∷ rows) = by_key (bytes_eq key (identity row)) refl (length_kept key rows)
  where
    by_key : (b : Bool) → bytes_eq key (identity row) ≡ b → length (filter (has_other key) rows) + count_key key rows ≡ length rows → length (filter (has_other key) (row ∷ rows)) + count_key key (row ∷ rows) ≡ length (row ∷ rows)
    by_key true e rest = rw e (omega (arith, rest))
    by_key false e rest = rw e (omega (arith, rest))

pub has_none : (key : List ℕ) (rows : List PlainRow) → count_key key rows ≡ 0 → list_any (λ other. bytes_eq key (identity other)) rows ≡ false
has_none key [] h = refl
has_none key (row ∷ rows) h = by_key (bytes_eq key (identity row)) refl (has_none key rows)
  where
    by_key : (b : Bool) → bytes_eq key (identity row) ≡ b → (count_key key rows ≡ 0 → list_any (λ other. bytes_eq key (identity other)) rows ≡ false) → list_any (λ other. bytes_eq key (identity other)) (row ∷ rows) ≡ false
    by_key true e rest = let more : count_key key rows + 1 ≡ 0 = rw e at h in absurd (omega arith)
    by_key false e rest = let none : count_key key rows ≡ 0 = rw e at h in rw e (rest none)

pub has_some : (key : List ℕ) (rows : List PlainRow) → 0 < count_key key rows → list_any (λ other. bytes_eq key (identity other)) rows ≡ true
has_some key [] h = absurd (omega (arith, h))
has_some key (row ∷ rows) h = by_key (bytes_eq key (identity row)) refl (has_some key rows)
  where
    by_key : (b : Bool) → bytes_eq key (identity row) ≡ b → (0 < count_key key rows → list_any (λ other. bytes_eq key (identity other)) rows ≡ true) → list_any (λ other. bytes_eq key (identity other)) (row ∷ rows) ≡ true
    by_key true e rest = rw e refl
    by_key false e rest = let some : 0 < count_key key rows = rw e at h in rw e (rest some)

-- the marks after the rows of a key were taken out
pub record HasDeleted (f g : Kept) (slots : List PlainRow) (live : ℕ) (key : List ℕ) : Type 0 where
  pub marks : AreMarks g slots live
  pub rows : live_from g 0 slots ≡ filter (has_other key) (live_from f 0 slots)
  pub names : SameNames f g

pub some_mark : (mark other : Mark) → Some mark ≡ Some other → mark ≡ other
some_mark mark other e = cc

same_names : (f g : Kept) (key : List ℕ) (mark new : Mark) → f key ≡ Some mark → IsUpdated f key (Some new) g → SameNames f g
same_names f g key mark new here u other = by_key (bytes_eq key other) refl
  where
    by_key : (b : Bool) → bytes_eq key other ≡ b → is_some (g other) ≡ is_some (f other)
    by_key true e = ap is_some (own_mark f g key (Some new) u other e) ∙ sym (ap is_some (sym (ap f (same_key key other e)) ∙ here))
    by_key false e = ap is_some (other_mark f g key (Some new) u other e)

pub has_deleted : (f g : Kept) (slots : List PlainRow) (live : ℕ) (key : List ℕ) (mark : Mark) (bound left : ℕ) → AreMarks f slots live → f key ≡ Some mark → bound ≡ length slots
    → IsUpdated f key (Some (record { count = 0; cut = bound })) g → left + mark.count ≡ live → HasDeleted f g slots left key
has_deleted f g slots live key mark bound left are here e u minus =
    let rows : live_from g 0 slots ≡ filter (has_other key) (live_from f 0 slots) = live_deleted f g key bound 0 slots u (omega (arith, e)) in
    record {
      marks = record {
        counts = λ other m h. counts other m h (bytes_eq key other) refl ∙ sym (ap (count_key other) rows);
        cuts = λ other m h. cuts other m h (bytes_eq key other) refl;
        count = let l : left ≡ length (filter (has_other key) (live_from f 0 slots)) = omega (arith, length_kept key (live_from f 0 slots), are.count, are.counts key mark here) in l ∙ sym (ap length rows);
      };
      rows = rows;
      names = same_names f g key mark (record { count = 0; cut = bound }) here u;
    }
  where
    counts : (other : List ℕ) (m : Mark) → g other ≡ Some m → (b : Bool) → bytes_eq key other ≡ b → m.count ≡ count_key other (filter (has_other key) (live_from f 0 slots))
    counts other m h true t =
        let new : Mark = record { count = 0; cut = bound } in
        let is : m ≡ new = some_mark m new (sym h ∙ own_mark f g key (Some new) u other t) in
        ap (λ (x : Mark). x.count) is ∙ sym (count_gone key (live_from f 0 slots)) ∙ ap (λ (k : List ℕ). count_key k (filter (has_other key) (live_from f 0 slots))) (same_key key other t)
    counts other m h false t =
        are.counts other m (sym (other_mark f g key _ u other t) ∙ h) ∙ sym (count_kept key other (live_from f 0 slots) t)

    cuts : (other : List ℕ) (m : Mark) → g other ≡ Some m → (b : Bool) → bytes_eq key other ≡ b → m.cut ≤ length slots
    cuts other m h true t =
        let new : Mark = record { count = 0; cut = bound } in
        let is : m ≡ new = some_mark m new (sym h ∙ own_mark f g key (Some new) u other t) in
        let n : m.cut ≡ bound = ap (λ (x : Mark). x.cut) is in
        omega (arith, n, e)
    cuts other m h false t = are.cuts other m (sym (other_mark f g key _ u other t) ∙ h)

-- the marks after a row was put in at the end
pub record HasAdded (f g : Kept) (slots : List PlainRow) (live : ℕ) (row : PlainRow) : Type 0 where
  pub marks : AreMarks g (slots ++ row ∷ []) live
  pub rows : live_from g 0 (slots ++ row ∷ []) ≡ live_from f 0 slots ++ row ∷ []
  pub names : SameNames f g

cut_more : (mark : Option Mark) → cut_in (option_map one_more mark) ≡ cut_in mark
cut_more None = refl
cut_more (Some mark) = refl

flip_true : (key other : List ℕ) → bytes_eq key other ≡ true → bytes_eq other key ≡ true
flip_true key other t = (bytes_eq-Decides other key).1 (sym (same_key key other t))

flip_false : (key other : List ℕ) → bytes_eq key other ≡ false → bytes_eq other key ≡ false
flip_false key other t = by_test (bytes_eq other key) refl
  where
    by_test : (b : Bool) → bytes_eq other key ≡ b → bytes_eq other key ≡ false
    by_test false e = e
    by_test true e = let same : bytes_eq key other ≡ true = flip_true other key e in absurd cc

-- what is counted once more is cut where it was
same_cuts : (f g : Kept) (key : List ℕ) → IsUpdated f key (option_map one_more (f key)) g → (row : PlainRow) → cut_of g row ≡ cut_of f row
same_cuts f g key u row = by_key (bytes_eq key (identity row)) refl
  where
    by_key : (b : Bool) → bytes_eq key (identity row) ≡ b → cut_of g row ≡ cut_of f row
    by_key true t = ap cut_in (own_mark f g key _ u (identity row) t) ∙ cut_more (f key) ∙ ap (λ (k : List ℕ). cut_in (f k)) (same_key key (identity row) t)
    by_key false t = ap cut_in (other_mark f g key _ u (identity row) t)

some_more : (mark : Option Mark) → is_some (option_map one_more mark) ≡ is_some mark
some_more None = refl
some_more (Some mark) = refl

names_more : (f g : Kept) (key : List ℕ) → IsUpdated f key (option_map one_more (f key)) g → SameNames f g
names_more f g key u other = by_key (bytes_eq key other) refl
  where
    by_key : (b : Bool) → bytes_eq key other ≡ b → is_some (g other) ≡ is_some (f other)
    by_key true t = ap is_some (own_mark f g key _ u other t) ∙ some_more (f key) ∙ ap (λ (k : List ℕ). is_some (f k)) (same_key key other t)
    by_key false t = ap is_some (other_mark f g key _ u other t)

cut_within : (f : Kept) (slots : List PlainRow) (live : ℕ) (key : List ℕ) (mark : Option Mark) → AreMarks f slots live → f key ≡ mark → cut_in mark ≤ length slots
cut_within f slots live key None are e = omega arith
cut_within f slots live key (Some mark) are e = are.cuts key mark e

rows_more : (f g : Kept) (slots : List PlainRow) (live : ℕ) (row : PlainRow) → AreMarks f slots live → IsUpdated f (identity row) (option_map one_more (f (identity row))) g
    → live_from g 0 (slots ++ row ∷ []) ≡ live_from f 0 slots ++ row ∷ []
rows_more f g slots live row are u =
    let within : cut_of f row ≤ length slots = cut_within f slots live (identity row) (f (identity row)) are refl in
    let cut : cut_of g row ≡ cut_of f row = same_cuts f g (identity row) u row in
    let test : nat_lt (0 + length slots) (cut_of g row) ≡ false = not_below (0 + length slots) (cut_of g row) (omega (arith, within, cut)) in
    live_append g 0 slots (row ∷ [])
    ∙ ap (λ (rows : List PlainRow). rows ++ live_from g (0 + length slots) (row ∷ [])) (live_same f g 0 slots (same_cuts f g (identity row) u))
    ∙ ap (λ (b : Bool). live_from f 0 slots ++ (if b then [] else row ∷ [])) test

module _ (f g : Kept) (slots : List PlainRow) (live : ℕ) (row : PlainRow) (are : AreMarks f slots live) (u : IsUpdated f (identity row) (option_map one_more (f (identity row))) g) where
  count_one : (n : ℕ) (other : List ℕ) (rows : List PlainRow) → n ≡ count_key (identity row) rows → bytes_eq (identity row) other ≡ true → n + 1 ≡ count_key other (rows ++ row ∷ [])
  count_one n other rows e t =
      let push : count_key other (rows ++ row ∷ []) ≡ count_key other rows + (if bytes_eq other (identity row) then 1 else 0) = count_push other rows row in
      let one : ◌≡◌ {A = ℕ} (if bytes_eq other (identity row) then 1 else 0) 1 = ap {B = ℕ} (λ (b : Bool). if b then 1 else 0) (flip_true (identity row) other t) in
      let same : count_key (identity row) rows ≡ count_key other rows = ap (λ (k : List ℕ). count_key k rows) (same_key (identity row) other t) in
      omega (arith, push, one, same, e)

  count_none : (n : ℕ) (other : List ℕ) (rows : List PlainRow) → n ≡ count_key other rows → bytes_eq (identity row) other ≡ false → n ≡ count_key other (rows ++ row ∷ [])
  count_none n other rows e t =
      let push : count_key other (rows ++ row ∷ []) ≡ count_key other rows + (if bytes_eq other (identity row) then 1 else 0) = count_push other rows row in
      let none : ◌≡◌ {A = ℕ} (if bytes_eq other (identity row) then 1 else 0) 0 = ap {B = ℕ} (λ (b : Bool). if b then 1 else 0) (flip_false (identity row) other t) in
      omega (arith, push, none, e)

  own_count : (mark : Option Mark) (m : Mark) (other : List ℕ) → f (identity row) ≡ mark → option_map one_more mark ≡ Some m → bytes_eq (identity row) other ≡ true → m.count ≡ count_key other (live_from f 0 slots ++ row ∷ [])
  own_count None m other e h t = absurd cc
  own_count (Some mark) m other e h t =
      let is : one_more mark ≡ m = some_mark (one_more mark) m h in
      sym (ap (λ (x : Mark). x.count) is) ∙ count_one mark.count other (live_from f 0 slots) (are.counts (identity row) mark e) t

  counts_more : (other : List ℕ) (m : Mark) → g other ≡ Some m → (b : Bool) → bytes_eq (identity row) other ≡ b → m.count ≡ count_key other (live_from f 0 slots ++ row ∷ [])
  counts_more other m h true t = own_count (f (identity row)) m other refl (sym (own_mark f g (identity row) _ u other t) ∙ h) t
  counts_more other m h false t = count_none m.count other (live_from f 0 slots) (are.counts other m (sym (other_mark f g (identity row) _ u other t) ∙ h)) t

  own_cut : (mark : Option Mark) (m : Mark) → f (identity row) ≡ mark → option_map one_more mark ≡ Some m → m.cut ≤ length slots
  own_cut None m e h = absurd cc
  own_cut (Some mark) m e h =
      let is : one_more mark ≡ m = some_mark (one_more mark) m h in
      let cut : mark.cut ≡ m.cut = ap (λ (x : Mark). x.cut) is in
      omega (arith, are.cuts (identity row) mark e, cut)

  cuts_more : (other : List ℕ) (m : Mark) → g other ≡ Some m → (b : Bool) → bytes_eq (identity row) other ≡ b → m.cut ≤ length slots
  cuts_more other m h true t = own_cut (f (identity row)) m refl (sym (own_mark f g (identity row) _ u other t) ∙ h)
  cuts_more other m h false t = are.cuts other m (sym (other_mark f g (identity row) _ u other t) ∙ h)

pub has_added : (f g : Kept) (slots : List PlainRow) (live : ℕ) (row : PlainRow) (more : ℕ) → AreMarks f slots live → IsUpdated f (identity row) (option_map one_more (f (identity row))) g → more ≡ live + 1 → HasAdded f g slots more row
has_added f g slots live row more are u e =
    let rows : live_from g 0 (slots ++ row ∷ []) ≡ live_from f 0 slots ++ row ∷ [] = rows_more f g slots live row are u in
    record {
      marks = record {
        counts = λ other m h. counts_more f g slots live row are u other m h (bytes_eq (identity row) other) refl ∙ sym (ap (count_key other) rows);
        cuts = λ other m h. let within : m.cut ≤ length slots = cuts_more f g slots live row are u other m h (bytes_eq (identity row) other) refl in omega (arith, within, length-append slots (row ∷ []));
        count = let l : more ≡ length (live_from f 0 slots ++ row ∷ []) = omega (arith, length-append (live_from f 0 slots) (row ∷ []), are.count, e) in l ∙ sym (ap length rows);
      };
      rows = rows;
      names = names_more f g (identity row) u;
    }

at_most : (b : Bool) (n m : ℕ) → n ≤ m → (if b then n + 1 else n) ≤ m + 1
at_most true n m h = omega (arith, h)
at_most false n m h = omega (arith, h)

pub count_le : (key : List ℕ) (rows : List PlainRow) → count_key key rows ≤ length rows
count_le key [] = omega arith
count_le key (row ∷ rows) =
    let one : (if bytes_eq key (identity row) then count_key key rows + 1 else count_key key rows) ≤ length rows + 1 = at_most (bytes_eq key (identity row)) (count_key key rows) (length rows) (count_le key rows) in
    omega (arith, one)

shorter : (b : Bool) (row : PlainRow) (rows : List PlainRow) (n : ℕ) → length rows ≤ n → length (if b then rows else row ∷ rows) ≤ n + 1
shorter true row rows n h = omega (arith, h)
shorter false row rows n h = omega (arith, h)

pub live_le : (f : Kept) (place : ℕ) (rows : List PlainRow) → length (live_from f place rows) ≤ length rows
live_le f place [] = omega arith
live_le f place (row ∷ rows) =
    let one : length (live_from f place (row ∷ rows)) ≤ length rows + 1 = shorter (nat_lt place (cut_of f row)) row (live_from f (place + 1) rows) (length rows) (live_le f (place + 1) rows) in
    omega (arith, one)

pub live_both : (f : Kept) (rows others : List PlainRow) → live_from f 0 (rows ++ others) ≡ live_from f 0 rows ++ live_from f (length rows) others
live_both f rows others = let e : 0 + length rows ≡ length rows = omega arith in live_append f 0 rows others ∙ ap (λ (n : ℕ). live_from f 0 rows ++ live_from f n others) e
