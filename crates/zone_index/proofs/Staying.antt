-- Rows of a trigger that no row of a transfer in steps has stay as they are.
use Rattle.std.proofs.Common.{◌≡◌, ℕ, ◌+◌, Bool, true, false, not, cond, ◌||◌, None, Result, Ok, Err, List, [], ◌∷◌, ◌++◌, length, refl, sym, ap, ◌∙◌, append-nil, true≢false}
use Rattle.std.specs.Prelude.{filter, nat_lt, IfOk}
use Rattle.std.specs.List.{AllByRecursion, list_any}
use Rattle.std.specs.Str.{bytes_eq}
use Rattle.std.proofs.lemmas.List.Elements.{filter-append}
use Rattle.std.proofs.lemmas.Slice.Eq.{bytes_eq-Decides}
use Rattle.dns_name.specs.Reading.{◌>>=◌}
use Rattle.dns_record.specs.Row.{PlainRow, IsRow, AreAlike, identity}
use Rattle.dns_record.specs.declared.soa.Soa.{Soa}
use Rattle.trigger_codec.specs.Decode.{trigger}
use Rattle.trigger_codec.specs.declared.trigger.Trigger.{Trigger}
use Rattle.action_codec.specs.Action.{is_live_type}
use Rattle.zone_rows.specs.Repeats.{has_row}
use Rattle.zone_rows.specs.Steps.{PlainStep, after_steps, rows_after_step, with_added, without_deleted, without_row}
use Rattle.zone_rows.specs.declared.fault.ApplyFault.TheVariants.{DeleteAbsent, AddPresent, TooManyRows}
use Rattle.zone_index.specs.Changes.{HasStepRows}
use Rattle.zone_index.specs.Listed.{is_of}
use Rattle.zone_index.specs.Rules.{live_trigger, some_trigger}
use Rattle.trie_keys.proofs.Entries.{all_append}
use Rattle.zone_index.proofs.Numbered.{AreAlikeByIdentity, all_filter}

-- ---- results

pub if_bound : {E A B : Type 0} (P : A → Type 0) (Q : B → Type 0) (r : Result A E) (f : A → Result B E) → IfOk r P → ((x : A) → P x → IfOk (f x) Q) → IfOk (r >>= f) Q
if_bound P Q (Ok x) f h g = g x h
if_bound P Q (Err e) f h g = tt

pub if_so : {E A : Type 0} (P Q : A → Type 0) (r : Result A E) → ((x : A) → P x → Q x) → IfOk r P → IfOk r Q
if_so P Q (Ok x) f h = f x h
if_so P Q (Err e) f h = tt

pub if_test : {E A : Type 0} (P : A → Type 0) (b : Bool) (r s : Result A E) → IfOk r P → IfOk s P → IfOk (cond b r s) P
if_test P true r s h k = h
if_test P false r s h k = k

-- ---- tests

pub neither : (a b : Bool) → (a || b) ≡ false → (a ≡ false) × (b ≡ false)
neither true b h = absurd (true≢false h)
neither false b h = (refl, h)

module _ (alike : AreAlikeByIdentity) (origin : List (List ℕ)) (t : Trigger) where
  -- the row is of the trigger
  abbrev pub is_its : PlainRow → Bool
  is_its row = is_of t (live_trigger origin row)

  abbrev pub its : List PlainRow → List PlainRow
  its rows = filter is_its rows

  -- rows that are as others are, as far as the trigger goes
  abbrev pub Stay : List PlainRow → List PlainRow → Type 0
  Stay rows after = (its after ≡ its rows) × AllByRecursion IsRow after

  its_alike : (row other : PlainRow) → AreAlike row other → is_its row ≡ is_its other
  its_alike row other h = λ i. is_of t (cond (is_live_type (h.rtype i)) (some_trigger (trigger (h.owner i) origin)) None)

  -- ---- a row less

  left_out : (b : Bool) (other : PlainRow) (rows : List PlainRow) → (b ≡ true → is_its other ≡ false) → its (cond (not b) (other ∷ rows) rows) ≡ cond (is_its other) (other ∷ its rows) (its rows)
  left_out true other rows h = ap (λ (c : Bool). cond c (other ∷ its rows) (its rows)) (sym (h refl))
  left_out false other rows h = refl

  its_without : (row : PlainRow) (rows : List PlainRow) → IsRow row → AllByRecursion IsRow rows → is_its row ≡ false → its (without_row rows row) ≡ its rows
  its_without row [] is are h = refl
  its_without row (other ∷ rows) is are h =
      left_out (bytes_eq (identity row) (identity other)) other (without_row rows row)
      (λ same. sym (its_alike row other (alike row other is are.0 ((bytes_eq-Decides (identity row) (identity other)).0 same))) ∙ h)
      ∙ ap (λ (some : List PlainRow). cond (is_its other) (other ∷ some) some) (its_without row rows is are.1 h)

  still_rows : (row : PlainRow) (rows : List PlainRow) → AllByRecursion IsRow rows → AllByRecursion IsRow (without_row rows row)
  still_rows row rows are = all_filter IsRow (λ other. not (bytes_eq (identity row) (identity other))) rows are

  without_all : (step number : ℕ) (rows deleted : List PlainRow) → AllByRecursion IsRow rows → AllByRecursion IsRow deleted → list_any is_its deleted ≡ false
      → IfOk (without_deleted step number rows deleted) (Stay rows)
  without_all step number rows [] are all none = (refl, are)
  without_all step number rows (row ∷ others) are all none =
      let no = neither (is_its row) (list_any is_its others) none in
      if_test (Stay rows) (has_row rows row) (without_deleted step (number + 1) (without_row rows row) others) (Err (DeleteAbsent step number))
      (if_so (Stay (without_row rows row)) (Stay rows) (without_deleted step (number + 1) (without_row rows row) others)
      (λ after stay. (stay.0 ∙ its_without row rows all.0 are no.0, stay.1))
      (without_all step (number + 1) (without_row rows row) others (still_rows row rows are) all.1 no.1))
      tt

  -- ---- a row more

  its_with : (row : PlainRow) (rows : List PlainRow) → is_its row ≡ false → its (rows ++ row ∷ []) ≡ its rows
  its_with row rows h =
      filter-append is_its rows (row ∷ [])
      ∙ ap (λ (b : Bool). its rows ++ cond b (row ∷ []) []) h
      ∙ append-nil (its rows)

  more_rows : (row : PlainRow) (rows : List PlainRow) → IsRow row → AllByRecursion IsRow rows → AllByRecursion IsRow (rows ++ row ∷ [])
  more_rows row rows is are = all_append IsRow rows (row ∷ []) are (is, tt)

  with_all : (bound step number : ℕ) (rows added : List PlainRow) → AllByRecursion IsRow rows → AllByRecursion IsRow added → list_any is_its added ≡ false
      → IfOk (with_added bound step number rows added) (Stay rows)
  with_all bound step number rows [] are all none = (refl, are)
  with_all bound step number rows (row ∷ others) are all none =
      let no = neither (is_its row) (list_any is_its others) none in
      let next = with_added bound step (number + 1) (rows ++ row ∷ []) others in
      if_test (Stay rows) (has_row rows row) (Err (AddPresent step number)) (cond (nat_lt (length rows + 1) bound) next (Err (TooManyRows bound)))
      tt
      (if_test (Stay rows) (nat_lt (length rows + 1) bound) next (Err (TooManyRows bound))
      (if_so (Stay (rows ++ row ∷ [])) (Stay rows) next
      (λ after stay. (stay.0 ∙ its_with row rows no.0, stay.1))
      (with_all bound step (number + 1) (rows ++ row ∷ []) others (more_rows row rows all.0 are) all.1 no.1))
      tt)

  -- ---- steps

  after_one : (bound number : ℕ) (rows : List PlainRow) (step : PlainStep) → AllByRecursion IsRow rows → HasStepRows step
      → (list_any is_its step.deleted || list_any is_its step.added) ≡ false → IfOk (rows_after_step bound number rows step) (Stay rows)
  after_one bound number rows step are all none =
      let no = neither (list_any is_its step.deleted) (list_any is_its step.added) none in
      if_bound (Stay rows) (Stay rows) (without_deleted number 1 rows step.deleted) (λ kept. with_added bound number 1 kept step.added)
      (without_all number 1 rows step.deleted are all.0 no.0)
      (λ kept stay. if_so (Stay kept) (Stay rows) (with_added bound number 1 kept step.added) (λ after more. (more.0 ∙ stay.0, more.1))
      (with_all bound number 1 kept step.added stay.1 all.1 no.1))

  pub after_all : (bound number : ℕ) (soa : Soa) (rows : List PlainRow) (steps : List PlainStep) → AllByRecursion IsRow rows → AllByRecursion HasStepRows steps
      → list_any (λ step. list_any is_its step.deleted || list_any is_its step.added) steps ≡ false
      → IfOk (after_steps bound number soa rows steps) (λ content. Stay rows content.rows)
  after_all bound number soa rows [] are all none = (refl, are)
  after_all bound number soa rows (step ∷ steps) are all none =
      let no = neither (list_any is_its step.deleted || list_any is_its step.added) (list_any (λ step. list_any is_its step.deleted || list_any is_its step.added) steps) none in
      if_bound (Stay rows) (λ content. Stay rows content.rows) (rows_after_step bound number rows step) (λ after. after_steps bound (number + 1) step.new after steps)
      (after_one bound number rows step are all.0 no.0)
      (λ after stay. if_so (λ content. Stay after content.rows) (λ content. Stay rows content.rows) (after_steps bound (number + 1) step.new after steps)
      (λ content more. (more.0 ∙ stay.0, more.1))
      (after_all bound (number + 1) step.new after steps stay.1 all.1 no.1))
