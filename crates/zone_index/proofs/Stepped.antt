-- Rows taken out and put in one after another.
use Rattle.std.proofs.Common.{◌≡◌, ℕ, ◌+◌, Bool, true, false, nat_lt, List, [], ◌∷◌, ◌++◌, length, drop, Result, Ok, Err, refl, sym, ap, subst, ◌∙◌, arith, slice_get, Some, true≢false}
use Rattle.std.specs.Prelude.{if◌then◌else◌}
use Rattle.dns_name.specs.Reading.{◌>>=◌}
use Rattle.dns_record.specs.Row.{PlainRow}
use Rattle.zone_index.specs.declared.edit_error.EditError.{EditError}
use Rattle.zone_index.specs.declared.edit_error.EditError.TheVariants.{OutOfMemory, TooMuchWork, Fault}
use Rattle.zone_rows.specs.declared.fault.ApplyFault.{ApplyFault}
use Rattle.zone_rows.specs.declared.fault.ApplyFault.TheVariants.{DeleteAbsent, AddPresent, TooManyRows}
use Rattle.zone_rows.specs.Drafts.{one_added, one_deleted}
use Rattle.zone_rows.specs.Repeats.{has_row}
use Rattle.zone_rows.specs.declared.zone.Content.{Content}
use Rattle.dns_record.specs.declared.soa.Soa.{Soa}
use Rattle.std.proofs.lemmas.List.{drop_all}
use Rattle.zone_rows.specs.Steps.{PlainStep, after_steps, rows_after_step, with_added, without_deleted, without_row}
use Rattle.zone_rows.proofs.Places.{drop_item}
use Rattle.zone_index.specs.Indexed.{Ends}
use Rattle.zone_index.specs.Placed.{PlainIndexed}

abbrev pub Rows : Type 0
Rows = Result (List PlainRow) ApplyFault

fails_on : (error : EditError) (first : Rows) (next : List PlainRow → Rows) → Ends error first → Ends error (first >>= next)
fails_on OutOfMemory first next h = tt
fails_on TooMuchWork first next h = tt
fails_on (Fault f) (Ok rows) next h = cc h
fails_on (Fault f) (Err g) next h = cc h

-- ---- taken out

deleted_by : (b : Bool) (s n : ℕ) (kept : List PlainRow) (others : List PlainRow)
    → (if b then without_deleted s (n + 1) kept others else Err (DeleteAbsent s n)) ≡ ((if b then Ok kept else Err (DeleteAbsent s n)) >>= (λ after. without_deleted s (n + 1) after others))
deleted_by true s n kept others = refl
deleted_by false s n kept others = refl

deleted_bind : (s n : ℕ) (rows others : List PlainRow) (row : PlainRow) → without_deleted s n rows (row ∷ others) ≡ (one_deleted s n rows row >>= (λ after. without_deleted s (n + 1) after others))
deleted_bind s n rows others row = deleted_by (has_row rows row) s n (without_row rows row) others

module _ (s : ℕ) (deleted : List PlainRow) (place : ℕ) (row : PlainRow) (at : slice_get deleted place ≡ Some row) where
  pub deleted_next : (rows after : List PlainRow) (whole : Rows) → without_deleted s (place + 1) rows (drop place deleted) ≡ whole → one_deleted s (place + 1) rows row ≡ Ok after
      → without_deleted s (place + 1 + 1) after (drop (place + 1) deleted) ≡ whole
  deleted_next rows after whole e one =
      sym (ap (without_deleted s (place + 1) rows) (drop_item deleted place row at)
      ∙ deleted_bind s (place + 1) rows (drop (place + 1) deleted) row
      ∙ ap (λ (first : Rows). first >>= (λ after. without_deleted s (place + 1 + 1) after (drop (place + 1) deleted))) one) ∙ e

  pub deleted_fails : (error : EditError) (rows : List PlainRow) (whole : Rows) → without_deleted s (place + 1) rows (drop place deleted) ≡ whole → Ends error (one_deleted s (place + 1) rows row) → Ends error whole
  deleted_fails error rows whole e h =
      subst (Ends error) (sym (ap (without_deleted s (place + 1) rows) (drop_item deleted place row at) ∙ deleted_bind s (place + 1) rows (drop (place + 1) deleted) row) ∙ e)
      (fails_on error (one_deleted s (place + 1) rows row) (λ after. without_deleted s (place + 1 + 1) after (drop (place + 1) deleted)) h)

-- ---- put in

added_by : (a b : Bool) (bound s n : ℕ) (more others : List PlainRow)
    → (if a then Err (AddPresent s n) else if b then with_added bound s (n + 1) more others else Err (TooManyRows bound))
    ≡ ((if a then Err (AddPresent s n) else if b then Ok more else Err (TooManyRows bound)) >>= (λ after. with_added bound s (n + 1) after others))
added_by true b bound s n more others = refl
added_by false true bound s n more others = refl
added_by false false bound s n more others = refl

added_bind : (bound s n : ℕ) (rows others : List PlainRow) (row : PlainRow) → with_added bound s n rows (row ∷ others) ≡ (one_added bound s n rows row >>= (λ after. with_added bound s (n + 1) after others))
added_bind bound s n rows others row = added_by (has_row rows row) (nat_lt (length rows + 1) bound) bound s n (rows ++ row ∷ []) others

module _ (bound s : ℕ) (added : List PlainRow) (place : ℕ) (row : PlainRow) (at : slice_get added place ≡ Some row) where
  pub added_next : (rows after : List PlainRow) (whole : Rows) → with_added bound s (place + 1) rows (drop place added) ≡ whole → one_added bound s (place + 1) rows row ≡ Ok after
      → with_added bound s (place + 1 + 1) after (drop (place + 1) added) ≡ whole
  added_next rows after whole e one =
      sym (ap (with_added bound s (place + 1) rows) (drop_item added place row at)
      ∙ added_bind bound s (place + 1) rows (drop (place + 1) added) row
      ∙ ap (λ (first : Rows). first >>= (λ after. with_added bound s (place + 1 + 1) after (drop (place + 1) added))) one) ∙ e

  pub added_fails : (error : EditError) (rows : List PlainRow) (whole : Rows) → with_added bound s (place + 1) rows (drop place added) ≡ whole → Ends error (one_added bound s (place + 1) rows row) → Ends error whole
  added_fails error rows whole e h =
      subst (Ends error) (sym (ap (with_added bound s (place + 1) rows) (drop_item added place row at) ∙ added_bind bound s (place + 1) rows (drop (place + 1) added) row) ∙ e)
      (fails_on error (one_added bound s (place + 1) rows row) (λ after. with_added bound s (place + 1 + 1) after (drop (place + 1) added)) h)

-- one put in, which wasn't there
added_if : (b : Bool) (bound s n : ℕ) (old new : PlainIndexed) (row : PlainRow) → ◌≡◌ {A = PlainIndexed × Bool} (new, true) (if b then (old, false) else (record old { rows = old.rows ++ row ∷ [] }, true)) → nat_lt (length old.rows + 1) bound ≡ true
    → ((if b then Err (AddPresent s n) else if nat_lt (length old.rows + 1) bound then Ok (old.rows ++ row ∷ []) else Err (TooManyRows bound)) ≡ Ok new.rows) × (new.origin ≡ old.origin)
added_if true bound s n old new row e room = absurd (true≢false (ap (λ (p : PlainIndexed × Bool). p.1) e))
added_if false bound s n old new row e room =
    let same : new ≡ record old { rows = old.rows ++ row ∷ [] } = ap (λ (p : PlainIndexed × Bool). p.0) e in
    (ap (λ (b : Bool). if b then Ok (old.rows ++ row ∷ []) else Err (TooManyRows bound)) room ∙ ap (λ (i : PlainIndexed). Ok i.rows) (sym same), ap (λ (i : PlainIndexed). i.origin) same)

pub added_one : (bound s n : ℕ) (old new : PlainIndexed) (row asked : PlainRow) (is_new room : Bool) (count : ℕ) → asked ≡ row → ◌≡◌ {A = PlainIndexed × Bool} (new, is_new) (if has_row old.rows asked then (old, false) else (record old { rows = old.rows ++ asked ∷ [] }, true))
    → is_new ≡ true → count ≡ length old.rows → room ≡ nat_lt (count + 1) bound → room ≡ true → (one_added bound s n old.rows row ≡ Ok new.rows) × (new.origin ≡ old.origin)
added_one bound s n old new row asked is_new room count same e fresh n_is r_is r =
    let here : ◌≡◌ {A = PlainIndexed × Bool} (new, true) (if has_row old.rows row then (old, false) else (record old { rows = old.rows ++ row ∷ [] }, true)) =
    (λ i. (new, sym fresh i)) ∙ e ∙ (λ i. if has_row old.rows (same i) then (old, false) else (record old { rows = old.rows ++ same i ∷ [] }, true)) in
    added_if (has_row old.rows row) bound s n old new row here (ap (λ (k : ℕ). nat_lt (k + 1) bound) (sym n_is) ∙ sym r_is ∙ r)

-- ---- step by step

ends_on : (error : EditError) (first : Rows) (next : List PlainRow → Result Content ApplyFault) → Ends error first → Ends error (first >>= next)
ends_on OutOfMemory first next h = tt
ends_on TooMuchWork first next h = tt
ends_on (Fault f) (Ok rows) next h = cc h
ends_on (Fault f) (Err g) next h = cc h

module _ (bound : ℕ) (steps : List PlainStep) (place : ℕ) (step : PlainStep) (at : slice_get steps place ≡ Some step) (soa : Soa) (rows : List PlainRow) (whole : Result Content ApplyFault)
    (e : after_steps bound (place + 1) soa rows (drop place steps) ≡ whole) where
  rest_of : rows_after_step bound (place + 1) rows step >>= (λ after. after_steps bound (place + 1 + 1) step.new after (drop (place + 1) steps)) ≡ whole
  rest_of = sym (ap (after_steps bound (place + 1) soa rows) (drop_item steps place step at)) ∙ e

  pub step_next : (after : List PlainRow) → rows_after_step bound (place + 1) rows step ≡ Ok after → after_steps bound (place + 1 + 1) step.new after (drop (place + 1) steps) ≡ whole
  step_next after one = sym (ap (λ (r : Rows). r >>= (λ after. after_steps bound (place + 1 + 1) step.new after (drop (place + 1) steps))) one) ∙ rest_of

  pub step_fails : (error : EditError) → Ends error (rows_after_step bound (place + 1) rows step) → Ends error whole
  step_fails error h = subst (Ends error) rest_of (ends_on error (rows_after_step bound (place + 1) rows step) (λ after. after_steps bound (place + 1 + 1) step.new after (drop (place + 1) steps)) h)

-- all steps were taken
pub steps_done : (bound n : ℕ) (steps : List PlainStep) (place : ℕ) (soa : Soa) (rows : List PlainRow) (whole : Result Content ApplyFault) → after_steps bound n soa rows (drop place steps) ≡ whole → place ≡ length steps
    → whole ≡ Ok (record { soa = soa; rows = rows })
steps_done bound n steps place soa rows whole e all = sym e ∙ ap (after_steps bound n soa rows) (drop_all place steps (omega (arith, all)))
