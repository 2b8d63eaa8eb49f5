-- The rows of a zone, step by step.
use Rattle.std.proofs.Common.{◌≡◌, ℕ, suc, ◌+◌, ◌<◌, ◌≤◌, Bool, true, false, if◌then◌else◌, List, [], ◌∷◌, ◌++◌, length, drop, get_or, slice_get, Option, Some, None, Result, Ok, Err, refl, sym, ap, ◌∙◌, subst, arith, nat_lt, length-append, append_assoc}
use Rattle.std.specs.Prelude.{All, IfSome}
use Rattle.std.specs.Option.{is_some, option_map}
use Rattle.std.proofs.lemmas.Bool.{ltb-true, ltb-false}
use Rattle.std.proofs.lemmas.List.{append-nil}
use Rattle.dns_name.specs.Reading.{◌>>=◌}
use Rattle.dns_record.specs.declared.soa.Soa.{Soa}
use Rattle.dns_record.specs.Row.{PlainRow, identity}
use Rattle.zone_rows.specs.declared.draft.Draft.{Draft}
use Rattle.zone_rows.specs.declared.fault.ApplyError.{ApplyError}
use Rattle.zone_rows.specs.declared.fault.ApplyError.TheVariants as errors
use Rattle.zone_rows.specs.declared.fault.ApplyFault.{ApplyFault}
use Rattle.zone_rows.specs.declared.fault.ApplyFault.TheVariants.{DeleteAbsent, AddPresent, TooManyRows}
use Rattle.zone_rows.specs.declared.marks.Mark.{Mark}
use Rattle.zone_rows.specs.declared.steps.Step.{Step}
use Rattle.zone_rows.specs.declared.zone.Content.{Content}
use Rattle.zone_rows.specs.Drafts.{rows_of, IsDraft, IsNext, Leaves, one_added, one_deleted, step_outcome}
use Rattle.zone_rows.specs.Marks.{Kept, mark_of, IsUpdated, IsNamed, AreNamed, IsStepNamed, SameNames, AreFresh, HasNamed, cut_of, live_from, count_key, one_more, AreMarks}
use Rattle.zone_rows.specs.Repeats.{has_row}
use Rattle.zone_rows.specs.Steps.{without_row, without_deleted, with_added, after_steps}
use Rattle.zone_rows.specs.Zone.{Fails}
use Rattle.zone_rows.proofs.Places.{drop_item}
use Rattle.zone_rows.proofs.LiveRows.{has_none, has_some, HasAdded, has_added, count_le}

-- one row
pub deleted_ok : (step number n : ℕ) (rows : List PlainRow) (row : PlainRow) → n ≡ count_key (identity row) rows → 0 < n → one_deleted step number rows row ≡ Ok (without_row rows row)
deleted_ok step number n rows row e h = let there : has_row rows row ≡ true = has_some (identity row) rows (omega (arith, e, h)) in rw there refl

pub deleted_absent : (step number n : ℕ) (rows : List PlainRow) (row : PlainRow) → n ≡ count_key (identity row) rows → n ≡ 0 → one_deleted step number rows row ≡ Err (DeleteAbsent step number)
deleted_absent step number n rows row e h = let none : has_row rows row ≡ false = has_none (identity row) rows (sym e ∙ h) in rw none refl

pub added_present : (bound step number n : ℕ) (rows : List PlainRow) (row : PlainRow) → n ≡ count_key (identity row) rows → 0 < n → one_added bound step number rows row ≡ Err (AddPresent step number)
added_present bound step number n rows row e h = let there : has_row rows row ≡ true = has_some (identity row) rows (omega (arith, e, h)) in rw there refl

fits_test : (n bound : ℕ) → n < bound → nat_lt n bound ≡ true
fits_test n bound h = by_test (nat_lt n bound) refl
  where
    by_test : (b : Bool) → nat_lt n bound ≡ b → nat_lt n bound ≡ true
    by_test true e = e
    by_test false e = absurd (omega (arith, ltb-false _ _ e, h))

full_test : (n bound : ℕ) → bound ≤ n → nat_lt n bound ≡ false
full_test n bound h = by_test (nat_lt n bound) refl
  where
    by_test : (b : Bool) → nat_lt n bound ≡ b → nat_lt n bound ≡ false
    by_test true e = absurd (omega (arith, ltb-true _ _ e, h))
    by_test false e = e

pub added_ok : (bound step number n live : ℕ) (rows : List PlainRow) (row : PlainRow) → n ≡ count_key (identity row) rows → n ≡ 0 → live ≡ length rows → live + 1 < bound → one_added bound step number rows row ≡ Ok (rows ++ row ∷ [])
added_ok bound step number n live rows row e h l fits =
    let none : has_row rows row ≡ false = has_none (identity row) rows (sym e ∙ h) in
    let test : nat_lt (length rows + 1) bound ≡ true = fits_test (length rows + 1) bound (omega (arith, l, fits)) in
    rw none (rw test refl)

pub added_full : (bound step number n live : ℕ) (rows : List PlainRow) (row : PlainRow) → n ≡ count_key (identity row) rows → n ≡ 0 → live ≡ length rows → bound ≤ live + 1 → one_added bound step number rows row ≡ Err (TooManyRows bound)
added_full bound step number n live rows row e h l full =
    let none : has_row rows row ≡ false = has_none (identity row) rows (sym e ∙ h) in
    let test : nat_lt (length rows + 1) bound ≡ false = full_test (length rows + 1) bound (omega (arith, l, full)) in
    rw none (rw test refl)

pub not_absent : {X : Type 0} (kept : Kept) (key : List ℕ) → IsNamed kept key → kept key ≡ None → X
not_absent {X} kept key named none = let clash : false ≡ true = sym (ap is_some none) ∙ named in absurd cc

-- rows one after another: what is chosen for the first decides how it goes on
deletes_on : (b : Bool) (kept after : List PlainRow) (fault : ApplyFault) (go : List PlainRow → Result (List PlainRow) ApplyFault) → (if b then Ok kept else Err fault) ≡ Ok after → (if b then go kept else Err fault) ≡ go after
deletes_on true kept after fault go e = let same : kept ≡ after = cc in ap go same
deletes_on false kept after fault go e = absurd cc

deletes_not : (b : Bool) (kept : List PlainRow) (other fault : ApplyFault) (go : List PlainRow → Result (List PlainRow) ApplyFault) → ◌≡◌ {A = Result (List PlainRow) ApplyFault} (if b then Ok kept else Err other) (Err fault)
    → (if b then go kept else Err other) ≡ Err fault
deletes_not true kept other fault go e = absurd cc
deletes_not false kept other fault go e = e

adds_on : (b c : Bool) (kept after : List PlainRow) (present full : ApplyFault) (go : List PlainRow → Result (List PlainRow) ApplyFault)
    → (if b then Err present else if c then Ok kept else Err full) ≡ Ok after → (if b then Err present else if c then go kept else Err full) ≡ go after
adds_on true c kept after present full go e = absurd cc
adds_on false c kept after present full go e = deletes_on c kept after full go e

adds_not : (b c : Bool) (kept : List PlainRow) (present full fault : ApplyFault) (go : List PlainRow → Result (List PlainRow) ApplyFault)
    → ◌≡◌ {A = Result (List PlainRow) ApplyFault} (if b then Err present else if c then Ok kept else Err full) (Err fault) → (if b then Err present else if c then go kept else Err full) ≡ Err fault
adds_not true c kept present full fault go e = e
adds_not false c kept present full fault go e = deletes_not c kept full fault go e

-- what the rest of the rows will make of the draft is what all make of the first
pub record GoesOn (base : List PlainRow) (first now : Draft) (whole left : Result (List PlainRow) ApplyFault) (rest : List PlainRow) : Type 0 where
  pub outcome : left ≡ whole
  pub is_draft : IsDraft base now
  pub names : SameNames (mark_of first.marks) (mark_of now.marks)
  pub named : AreNamed (mark_of now.marks) rest

pub named_same : (f g : Kept) (rows : List PlainRow) → SameNames f g → AreNamed f rows → AreNamed g rows
named_same f g rows same named k d h = same (identity (get_or rows k d)) ∙ named k d h

pub first_named : (f : Kept) (row : PlainRow) (rows : List PlainRow) → AreNamed f (row ∷ rows) → IsNamed f (identity row)
first_named f row rows named = named 0 row (omega arith)

rest_named : (f : Kept) (row : PlainRow) (rows : List PlainRow) → AreNamed f (row ∷ rows) → AreNamed f rows
rest_named f row rows named k d h = named (suc k) d (omega (arith, h))

pub begins : (base : List PlainRow) (first : Draft) (outcome : Result (List PlainRow) ApplyFault) (rest : List PlainRow) → IsDraft base first → AreNamed (mark_of first.marks) rest → GoesOn base first first outcome outcome rest
begins base first outcome rest is named = record { outcome = refl; is_draft = is; names = λ key. refl; named = named }

pub deletes_next : (base : List PlainRow) (first now new : Draft) (whole : Result (List PlainRow) ApplyFault) (step number : ℕ) (row : PlainRow) (rest : List PlainRow)
    → GoesOn base first now whole (without_deleted step number (rows_of base now) (row ∷ rest)) (row ∷ rest)
    → IsNext base now new (one_deleted step number (rows_of base now) row) → GoesOn base first new whole (without_deleted step (number + 1) (rows_of base new) rest) rest
deletes_next base first now new whole step number row rest g n = record {
  outcome = sym (deletes_on (has_row (rows_of base now) row) (without_row (rows_of base now) row) (rows_of base new) (DeleteAbsent step number) (λ rows. without_deleted step (number + 1) rows rest) n.rows) ∙ g.outcome;
  is_draft = n.is_draft;
  names = λ key. n.names key ∙ g.names key;
  named = named_same (mark_of now.marks) (mark_of new.marks) rest n.names (rest_named (mark_of now.marks) row rest g.named);
}

pub deletes_fails : (base : List PlainRow) (first now : Draft) (whole : Result (List PlainRow) ApplyFault) (step number : ℕ) (row : PlainRow) (rest : List PlainRow) (error : ApplyError)
    → GoesOn base first now whole (without_deleted step number (rows_of base now) (row ∷ rest)) (row ∷ rest)
    → Fails error (one_deleted step number (rows_of base now) row) → Fails error whole
deletes_fails base first now whole step number row rest errors.OutOfMemory g f = tt
deletes_fails base first now whole step number row rest (errors.Fault fault) g f =
    sym g.outcome ∙ deletes_not (has_row (rows_of base now) row) (without_row (rows_of base now) row) (DeleteAbsent step number) fault (λ rows. without_deleted step (number + 1) rows rest) f

pub adds_next : (base : List PlainRow) (first now new : Draft) (whole : Result (List PlainRow) ApplyFault) (bound step number : ℕ) (row : PlainRow) (rest : List PlainRow)
    → GoesOn base first now whole (with_added bound step number (rows_of base now) (row ∷ rest)) (row ∷ rest)
    → IsNext base now new (one_added bound step number (rows_of base now) row) → GoesOn base first new whole (with_added bound step (number + 1) (rows_of base new) rest) rest
adds_next base first now new whole bound step number row rest g n = record {
  outcome = sym (adds_on (has_row (rows_of base now) row) (nat_lt (length (rows_of base now) + 1) bound) (rows_of base now ++ row ∷ []) (rows_of base new) (AddPresent step number) (TooManyRows bound) (λ rows. with_added bound step (number + 1) rows rest) n.rows) ∙ g.outcome;
  is_draft = n.is_draft;
  names = λ key. n.names key ∙ g.names key;
  named = named_same (mark_of now.marks) (mark_of new.marks) rest n.names (rest_named (mark_of now.marks) row rest g.named);
}

pub adds_fails : (base : List PlainRow) (first now : Draft) (whole : Result (List PlainRow) ApplyFault) (bound step number : ℕ) (row : PlainRow) (rest : List PlainRow) (error : ApplyError)
    → GoesOn base first now whole (with_added bound step number (rows_of base now) (row ∷ rest)) (row ∷ rest)
    → Fails error (one_added bound step number (rows_of base now) row) → Fails error whole
adds_fails base first now whole bound step number row rest errors.OutOfMemory g f = tt
adds_fails base first now whole bound step number row rest (errors.Fault fault) g f =
    sym g.outcome
    ∙ adds_not (has_row (rows_of base now) row) (nat_lt (length (rows_of base now) + 1) bound) (rows_of base now ++ row ∷ []) (AddPresent step number) (TooManyRows bound) fault (λ rows. with_added bound step (number + 1) rows rest) f

-- at the end
pub ends : (base : List PlainRow) (first now : Draft) (whole left : Result (List PlainRow) ApplyFault) (rest : List PlainRow) → GoesOn base first now whole left rest → left ≡ Ok (rows_of base now) → IsNext base first now whole
ends base first now whole left rest g e = record { rows = sym g.outcome ∙ e; is_draft = g.is_draft; names = g.names }

-- naming
pub none_named : (f : Kept) → HasNamed f f []
none_named f = record { named = λ k d h. absurd (omega (arith, h)); keeps = λ key h. h; fresh = λ h. h }

-- counting
pub record HasCounted (first now : Kept) (slots : List PlainRow) : Type 0 where
  pub marks : AreMarks now slots (length slots)
  pub rows : live_from now 0 slots ≡ slots
  pub names : SameNames first now

pub none_counted : (f : Kept) → AreFresh f → HasCounted f f []
none_counted f fresh = record {
  marks = record { counts = λ key mark h. (fresh key mark h).0; cuts = λ key mark h. omega (arith, (fresh key mark h).1); count = refl };
  rows = refl;
  names = λ key. refl;
}

pub counted_next : (first now new : Kept) (slots : List PlainRow) (row : PlainRow) → HasCounted first now slots → IsUpdated now (identity row) (option_map one_more (now (identity row))) new → HasCounted first new (slots ++ row ∷ [])
counted_next first now new slots row c u =
    let h : HasAdded now new slots (length slots + 1) row = has_added now new slots (length slots) row (length slots + 1) c.marks u refl in
    let l : length slots + 1 ≡ length (slots ++ row ∷ []) = omega (arith, length-append slots (row ∷ [])) in
    record {
      marks = subst (AreMarks new (slots ++ row ∷ [])) l h.marks;
      rows = h.rows ∙ ap (λ (rows : List PlainRow). rows ++ row ∷ []) c.rows;
      names = λ key. h.names key ∙ c.names key;
    }

pub can_count : (now : Kept) (slots : List PlainRow) (live bound : ℕ) (key : List ℕ) (mark : Option Mark) → AreMarks now slots live → live < bound → now key ≡ mark → IfSome mark (λ m. m.count < bound)
can_count now slots live bound key None are h e = tt
can_count now slots live bound key (Some m) are h e = omega (arith, are.counts key m e, count_le key (live_from now 0 slots), are.count, h)

-- keeping
pub record KeepsOn (f : Kept) (place : ℕ) (rows rest whole : List PlainRow) : Type 0 where
  pub rows_are : rows ++ live_from f place rest ≡ whole

kept_by : (f : Kept) (place : ℕ) (rows rest whole : List PlainRow) (row : PlainRow) (b : Bool) → nat_lt place (cut_of f row) ≡ b → rows ++ live_from f place (row ∷ rest) ≡ whole
    → rows ++ (if b then live_from f (place + 1) rest else row ∷ live_from f (place + 1) rest) ≡ whole
kept_by f place rows rest whole row b t e = ap (λ (b : Bool). rows ++ (if b then live_from f (place + 1) rest else row ∷ live_from f (place + 1) rest)) (sym t) ∙ e

keeps_row : (f : Kept) (place cut : ℕ) (rows rest whole : List PlainRow) (row : PlainRow) → KeepsOn f place rows (row ∷ rest) whole → cut ≡ cut_of f row → cut ≤ place → KeepsOn f (place + 1) (rows ++ row ∷ []) rest whole
keeps_row f place cut rows rest whole row k e h =
    let t : nat_lt place (cut_of f row) ≡ false = full_test place (cut_of f row) (omega (arith, e, h)) in
    record { rows_are = rw append_assoc (kept_by f place rows rest whole row false t k.rows_are) }

leaves_row : (f : Kept) (place cut : ℕ) (rows rest whole : List PlainRow) (row : PlainRow) → KeepsOn f place rows (row ∷ rest) whole → cut ≡ cut_of f row → place < cut → KeepsOn f (place + 1) rows rest whole
leaves_row f place cut rows rest whole row k e h =
    let t : nat_lt place (cut_of f row) ≡ true = fits_test place (cut_of f row) (omega (arith, e, h)) in
    record { rows_are = kept_by f place rows rest whole row true t k.rows_are }

pub keeps_at : (f : Kept) (before place cut : ℕ) (rows slots whole : List PlainRow) (row : PlainRow) → KeepsOn f (before + place) rows (drop place slots) whole → slice_get slots place ≡ Some row → cut ≡ cut_of f row → cut ≤ before + place
    → KeepsOn f (before + (place + 1)) (rows ++ row ∷ []) (drop (place + 1) slots) whole
keeps_at f before place cut rows slots whole row k e is h =
    let more : (before + place) + 1 ≡ before + (place + 1) = omega arith in
    subst (λ (n : ℕ). KeepsOn f n (rows ++ row ∷ []) (drop (place + 1) slots) whole) more
    (keeps_row f (before + place) cut rows (drop (place + 1) slots) whole row (subst (λ (r : List PlainRow). KeepsOn f (before + place) rows r whole) (drop_item slots place row e) k) is h)

pub leaves_at : (f : Kept) (before place cut : ℕ) (rows slots whole : List PlainRow) (row : PlainRow) → KeepsOn f (before + place) rows (drop place slots) whole → slice_get slots place ≡ Some row → cut ≡ cut_of f row → before + place < cut
    → KeepsOn f (before + (place + 1)) rows (drop (place + 1) slots) whole
leaves_at f before place cut rows slots whole row k e is h =
    let more : (before + place) + 1 ≡ before + (place + 1) = omega arith in
    subst (λ (n : ℕ). KeepsOn f n rows (drop (place + 1) slots) whole) more
    (leaves_row f (before + place) cut rows (drop (place + 1) slots) whole row (subst (λ (r : List PlainRow). KeepsOn f (before + place) rows r whole) (drop_item slots place row e) k) is h)

pub keeps_all : (f : Kept) (place : ℕ) (rows rest whole : List PlainRow) → KeepsOn f place rows rest whole → rest ≡ [] → rows ≡ whole
keeps_all f place rows rest whole k e = sym (append-nil rows) ∙ ap (λ (r : List PlainRow). rows ++ live_from f place r) (sym e) ∙ k.rows_are

-- a step
pub then_adds : (result : Result (Unit {0}) ApplyError) (base : List PlainRow) (old mid new : Draft) (bound number : ℕ) (deleted added : List PlainRow)
    → IsNext base old mid (without_deleted number 1 (rows_of base old) deleted) → Leaves result base mid new (with_added bound number 1 (rows_of base mid) added)
    → Leaves result base old new (step_outcome bound number (rows_of base old) deleted added)
then_adds (Ok x) base old mid new bound number deleted added n l = record {
  rows = ap (λ (r : Result (List PlainRow) ApplyFault). r >>= (λ kept. with_added bound number 1 kept added)) n.rows ∙ l.rows;
  is_draft = l.is_draft;
  names = λ key. l.names key ∙ n.names key;
}
then_adds (Err errors.OutOfMemory) base old mid new bound number deleted added n l = tt
then_adds (Err (errors.Fault fault)) base old mid new bound number deleted added n l =
    ap (λ (r : Result (List PlainRow) ApplyFault). r >>= (λ kept. with_added bound number 1 kept added)) n.rows ∙ l

-- steps
pub record StepsGoOn (base : List PlainRow) (now : Draft) (whole left : Result Content ApplyFault) (rest : List Step) : Type 0 where
  pub outcome : left ≡ whole
  pub is_draft : IsDraft base now
  pub named : All (IsStepNamed (mark_of now.marks)) rest

pub steps_begin : (base : List PlainRow) (first : Draft) (bound : ℕ) (soa other : Soa) (rows : List PlainRow) (rest : List Step) → IsDraft base first → rows_of base first ≡ rows → soa ≡ other → All (IsStepNamed (mark_of first.marks)) rest
    → StepsGoOn base first (after_steps bound 1 other rows rest) (after_steps bound 1 soa (rows_of base first) rest) rest
steps_begin base first bound soa other rows rest is e s named = record { outcome = λ i. after_steps bound 1 (s i) (e i) rest; is_draft = is; named = named }

pub steps_next : (base : List PlainRow) (now new : Draft) (whole : Result Content ApplyFault) (bound number : ℕ) (soa : Soa) (step : Step) (rest : List Step)
    → StepsGoOn base now whole (after_steps bound number soa (rows_of base now) (step ∷ rest)) (step ∷ rest)
    → IsNext base now new (step_outcome bound number (rows_of base now) step.deleted step.added) → StepsGoOn base new whole (after_steps bound (number + 1) step.new (rows_of base new) rest) rest
steps_next base now new whole bound number soa step rest g n = record {
  outcome = sym (ap (λ (r : Result (List PlainRow) ApplyFault). r >>= (λ after. after_steps bound (number + 1) step.new after rest)) n.rows) ∙ g.outcome;
  is_draft = n.is_draft;
  named = λ k d h.
      let named : IsStepNamed (mark_of now.marks) (get_or rest k d) = g.named (suc k) d (omega (arith, h)) in
      (named_same (mark_of now.marks) (mark_of new.marks) _ n.names named.0, named_same (mark_of now.marks) (mark_of new.marks) _ n.names named.1);
}

pub steps_fail : (base : List PlainRow) (now : Draft) (whole : Result Content ApplyFault) (bound number : ℕ) (soa : Soa) (step : Step) (rest : List Step) (error : ApplyError)
    → StepsGoOn base now whole (after_steps bound number soa (rows_of base now) (step ∷ rest)) (step ∷ rest)
    → Fails error (step_outcome bound number (rows_of base now) step.deleted step.added) → Fails error whole
steps_fail base now whole bound number soa step rest errors.OutOfMemory g f = tt
steps_fail base now whole bound number soa step rest (errors.Fault fault) g f =
    sym g.outcome ∙ ap (λ (r : Result (List PlainRow) ApplyFault). r >>= (λ after. after_steps bound (number + 1) step.new after rest)) f

pub steps_end : (base : List PlainRow) (now : Draft) (whole : Result Content ApplyFault) (bound number : ℕ) (soa : Soa) (rows : List PlainRow) (rest : List Step)
    → StepsGoOn base now whole (after_steps bound number soa (rows_of base now) rest) rest → rest ≡ [] → rows ≡ rows_of base now → whole ≡ Ok (record { soa = soa; rows = rows })
steps_end base now whole bound number soa rows rest g e r =
    sym g.outcome ∙ ap (λ (l : List Step). after_steps bound number soa (rows_of base now) l) e ∙ (λ i. Ok (record { soa = soa; rows = sym r i }))

pub first_step_named : (f : Kept) (step : Step) (rest : List Step) → All (IsStepNamed f) (step ∷ rest) → IsStepNamed f step
first_step_named f step rest named = named 0 step (omega arith)
