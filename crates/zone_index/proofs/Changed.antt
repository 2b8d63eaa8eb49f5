-- What a transfer may change.
use Rattle.std.proofs.Common.{◌≡◌, ℕ, ◌+◌, Bool, true, false, cond, ◌||◌, Option, Some, None, Result, Ok, Err, List, [], ◌∷◌, ◌++◌, length, map, take, slice_get, refl, sym, ap, subst, ◌∙◌, append-nil, append_assoc}
use Rattle.std.specs.Prelude.{◌==◌, All, filter, fold, nat_lt, IfOk}
use Rattle.std.specs.declared.alloc.AllocError.{AllocError}
use Rattle.std.specs.List.{AllByRecursion, list_any}
use Rattle.std.proofs.Math.Bool.{or-false, or_assoc}
use Rattle.std.proofs.lemmas.List.{map-append}
use Rattle.std.proofs.lemmas.List.Concat.{flat_map-append}
use Rattle.std.proofs.lemmas.List.Elements.{All-map}
use Rattle.std.proofs.lemmas.List.Folds.{list_any-append}
use Rattle.dns_name.specs.Reading.{◌>>=◌}
use Rattle.dns_record.specs.Row.{PlainRow, IsRow}
use Rattle.dns_record.specs.declared.soa.Soa.{Soa}
use Rattle.packed_lists.specs.Stored.{PlainStored}
use Rattle.trigger_codec.specs.Bases.{IsTrigger}
use Rattle.trigger_codec.specs.declared.trigger.Trigger.{Trigger}
use Rattle.action_codec.specs.Action.{action_by}
use Rattle.trie_keys.proofs.Entries.{all_append}
use Rattle.zone_rows.proofs.Places.{take_item}
use Rattle.zone_rows.specs.Repeats.{has_row, with_row, without_repeats}
use Rattle.zone_rows.specs.Steps.{PlainStep, after_steps, steps_outcome}
use Rattle.zone_rows.specs.Stored.{IsStored, plain_row}
use Rattle.zone_rows.specs.Zone.{apply_outcome, apply_outcome_within, fewer_rows, newer_soa}
use Rattle.zone_rows.specs.declared.fault.ApplyFault.{ApplyFault}
use Rattle.zone_rows.specs.declared.fault.ApplyFault.TheVariants.{Gap, TooManyRows}
use Rattle.zone_rows.specs.declared.transfer.Transfer.{Transfer}
use Rattle.zone_rows.specs.declared.transfer.Transfer.TheVariants.{Whole, Steps}
use Rattle.zone_rows.specs.declared.zone.Content.{Content}
use Rattle.zone_rows.specs.declared.zone.PlainZone.{PlainZone}
use Rattle.zone_rows.specs.declared.zone.TheConstants.{ROW_LIMIT}
use Rattle.zone_index.specs.Changes.{AreChangesBy, ListsTriggers, ListsTriggersOf, HasStepRows, held_rows, live_triggers, place_triggers, step_triggers, transfer_triggers}
use Rattle.zone_index.specs.Indexed.{HasRows, content_of, content_rule}
use Rattle.zone_index.specs.Listed.{is_of, is_same}
use Rattle.zone_index.specs.Placed.{place_by, row_place}
use Rattle.zone_index.specs.Rules.{live_trigger}
use Rattle.zone_index.specs.declared.changes.Changes.{Changes}
use Rattle.zone_index.specs.declared.changes.Changes.TheVariants.{All as AllOfThem, Triggers}
use Rattle.zone_index.specs.declared.loaded.Loaded.{Loaded}
use Rattle.zone_index.proofs.Numbered.{AreAlikeByIdentity, all_recursion}
use Rattle.zone_index.proofs.Staying.{Stay, after_all, if_bound, if_so, if_test, neither}
use Rattle.zone_index.proofs.Ties.{IsTriggerIf, NameLaws, named_live}

-- ---- results

if_any : {E A : Type 0} (r : Result A E) → IfOk r (λ _. Unit {0})
if_any (Ok x) = tt
if_any (Err e) = tt

if_each : {E Z : Type 0} (A : Type 0) (H : Trigger → Type 0) (Q : Trigger → Z → Type 0) (r : Result Z E) → A → ((t : Trigger) → IsTrigger t → H t → IfOk r (Q t))
    → IfOk r (λ z. A × ((t : Trigger) → IsTrigger t → H t → Q t z))
if_each A H Q (Ok z) a f = (a, f)
if_each A H Q (Err e) a f = tt

-- what is so of what a result has
pub if_there : {E A : Type 0} (P : A → Type 0) (r : Result A E) (x : A) → r ≡ Ok x → IfOk r P → P x
if_there P r x e h = subst (λ (r : Result _ _). IfOk r P) e h

-- ---- rows of which none passes

module _ (p : PlainRow → Bool) where
  filter_none : (rows : List PlainRow) → list_any p rows ≡ false → filter p rows ≡ []
  filter_none [] h = refl
  filter_none (row ∷ rows) h =
      let no = neither (p row) (list_any p rows) h in
      ap (λ (b : Bool). cond b (row ∷ filter p rows) (filter p rows)) no.0 ∙ filter_none rows no.1

  none_more : (b : Bool) (kept : List PlainRow) (row : PlainRow) → list_any p kept ≡ false → p row ≡ false → list_any p (cond b kept (kept ++ row ∷ [])) ≡ false
  none_more true kept row h k = h
  none_more false kept row h k = list_any-append p kept (row ∷ []) ∙ (λ i. h i || (k i || false))

  none_after : (kept rows : List PlainRow) → list_any p kept ≡ false → list_any p rows ≡ false → list_any p (fold with_row kept rows) ≡ false
  none_after kept [] h k = h
  none_after kept (row ∷ rows) h k =
      let no = neither (p row) (list_any p rows) k in
      none_after (with_row kept row) rows (none_more (has_row kept row) kept row h no.0) no.1

  none_kept : (rows : List PlainRow) → list_any p rows ≡ false → list_any p (without_repeats rows) ≡ false
  unfolding without_repeats
  none_kept rows h = none_after [] rows refl h

-- ---- triggers that are listed

module _ (origin : List (List ℕ)) (t : Trigger) where
  abbrev is_its : PlainRow → Bool
  is_its row = is_of t (live_trigger origin row)

  placed_of : (owner : List (List ℕ)) (live : Option Trigger) → list_any (is_same t) (place_triggers (place_by owner live)) ≡ is_of t live
  placed_of owner None = refl
  placed_of owner (Some u) = or-false (is_same t u)

  live_named : (rows : List PlainRow) → list_any (is_same t) (live_triggers origin rows) ≡ list_any is_its rows
  live_named [] = refl
  live_named (row ∷ rows) =
      list_any-append (is_same t) (place_triggers (row_place origin row)) (live_triggers origin rows)
      ∙ (λ i. placed_of row.owner (live_trigger origin row) i || live_named rows i)

  both_named : (first second : List PlainRow) → list_any (is_same t) (live_triggers origin first ++ live_triggers origin second) ≡ (list_any is_its first || list_any is_its second)
  both_named first second =
      list_any-append (is_same t) (live_triggers origin first) (live_triggers origin second)
      ∙ (λ i. live_named first i || live_named second i)

  steps_named : (steps : List PlainStep) → list_any (is_same t) (step_triggers origin steps) ≡ list_any (λ step. list_any is_its step.deleted || list_any is_its step.added) steps
  steps_named [] = refl
  steps_named (step ∷ steps) =
      let rest = list_any-append (is_same t) (live_triggers origin step.added) (step_triggers origin steps) ∙ (λ i. live_named step.added i || steps_named steps i) in
      list_any-append (is_same t) (live_triggers origin step.deleted) (live_triggers origin step.added ++ step_triggers origin steps)
      ∙ (λ i. live_named step.deleted i || rest i)
      ∙ sym (or_assoc (list_any is_its step.deleted) (list_any is_its step.added) (list_any (λ step. list_any is_its step.deleted || list_any is_its step.added) steps))

-- all that are listed are triggers
module _ (laws : NameLaws) (origin : List (List ℕ)) where
  placed_are : (owner : List (List ℕ)) (live : Option Trigger) → IsTriggerIf live → AllByRecursion IsTrigger (place_triggers (place_by owner live))
  placed_are owner None h = tt
  placed_are owner (Some t) h = (h, tt)

  live_are : (rows : List PlainRow) → AllByRecursion IsRow rows → AllByRecursion IsTrigger (live_triggers origin rows)
  live_are [] all = tt
  live_are (row ∷ rows) all =
      all_append IsTrigger (place_triggers (row_place origin row)) (live_triggers origin rows)
      (placed_are row.owner (live_trigger origin row) (named_live laws origin row all.0.is_owner)) (live_are rows all.1)

  steps_are : (steps : List PlainStep) → AllByRecursion HasStepRows steps → AllByRecursion IsTrigger (step_triggers origin steps)
  steps_are [] all = tt
  steps_are (step ∷ steps) all =
      all_append IsTrigger (live_triggers origin step.deleted) (live_triggers origin step.added ++ step_triggers origin steps) (live_are step.deleted all.0.0)
      (all_append IsTrigger (live_triggers origin step.added) (step_triggers origin steps) (live_are step.added all.0.1) (steps_are steps all.1))

  held_are : (content : Option Content) → HasRows content → AllByRecursion IsTrigger (live_triggers origin (held_rows content))
  held_are None has = tt
  held_are (Some content) has = live_are content.rows (all_recursion IsRow content.rows has)

-- ---- rules that stay

-- the rule of a trigger is the same in both zones
abbrev StaysAt : PlainZone → Trigger → PlainZone → Type 0
StaysAt old t new = content_rule new.origin new.content t ≡ content_rule old.origin old.content t

module _ (alike : AreAlikeByIdentity) (t : Trigger) where
  stays_in : (bound : ℕ) (origin : List (List ℕ)) (content : Option Content) (steps : List PlainStep) → HasRows content → AllByRecursion HasStepRows steps
      → list_any (λ step. list_any (is_its origin t) step.deleted || list_any (is_its origin t) step.added) steps ≡ false
      → IfOk (steps_outcome bound content steps) (λ new. content_rule origin (Some new) t ≡ content_rule origin content t)
  stays_in bound origin None steps has are none = tt
  stays_in bound origin (Some content) [] has are none = tt
  stays_in bound origin (Some content) (step ∷ steps) has are none =
      let next = after_steps bound 1 content.soa content.rows (step ∷ steps) in
      if_test (λ new. content_rule origin (Some new) t ≡ content_rule origin (Some content) t) (step.old.serial == content.soa.serial) next (Err (Gap content.soa.serial step.old.serial))
      (if_so (λ new. Stay alike origin t content.rows new.rows) (λ new. content_rule origin (Some new) t ≡ content_rule origin (Some content) t) next
      (λ new stay. ap (action_by t) stay.0)
      (after_all alike origin t bound 1 content.soa content.rows (step ∷ steps) (all_recursion IsRow content.rows has) are none))
      tt

  steps_stay : (old : PlainZone) (steps : List PlainStep) → HasRows old.content → AllByRecursion HasStepRows steps
      → list_any (λ step. list_any (is_its old.origin t) step.deleted || list_any (is_its old.origin t) step.added) steps ≡ false
      → IfOk (apply_outcome old (Steps steps)) (StaysAt old t)
  unfolding apply_outcome_within
  steps_stay old steps has are none =
      if_bound (λ new. content_rule old.origin (Some new) t ≡ content_rule old.origin old.content t) (StaysAt old t)
      (steps_outcome ROW_LIMIT old.content steps) (λ content. Ok (record { origin = old.origin; content = Some content }))
      (stays_in ROW_LIMIT old.origin old.content steps has are none)
      (λ new same. same)

module _ (t : Trigger) where
  none_before : (origin : List (List ℕ)) (content : Option Content) → list_any (is_its origin t) (held_rows content) ≡ false → action_by t [] ≡ content_rule origin content t
  none_before origin None h = refl
  none_before origin (Some content) h = ap (action_by t) (sym (filter_none (is_its origin t) content.rows h))

  whole_stays : (old : PlainZone) (soa : Soa) (rows : List PlainRow) → (list_any (is_its old.origin t) (held_rows old.content) || list_any (is_its old.origin t) rows) ≡ false
      → IfOk (apply_outcome old (Whole soa rows)) (StaysAt old t)
  unfolding apply_outcome_within
  whole_stays old soa rows none =
      let no = neither (list_any (is_its old.origin t) (held_rows old.content)) (list_any (is_its old.origin t) rows) none in
      let kept = without_repeats rows in
      let made : Soa → List PlainRow → Result PlainZone ApplyFault = λ newer kept. Ok (record { origin = old.origin; content = Some (record { soa = newer; rows = kept }) }) in
      if_bound (λ _. Unit {0}) (StaysAt old t) (newer_soa old.content soa) (λ newer. fewer_rows ROW_LIMIT kept >>= made newer) (if_any (newer_soa old.content soa))
      (λ newer _. if_bound (λ some. filter (is_its old.origin t) some ≡ []) (StaysAt old t) (fewer_rows ROW_LIMIT kept) (made newer)
      (if_test (λ some. filter (is_its old.origin t) some ≡ []) (nat_lt (length kept) ROW_LIMIT) (Ok kept) (Err (TooManyRows ROW_LIMIT))
      (filter_none (is_its old.origin t) kept (none_kept (is_its old.origin t) rows no.1)) tt)
      (λ some same. ap (action_by t) same ∙ none_before old.origin old.content no.0))

-- ---- changes

module _ (laws : NameLaws) (alike : AreAlikeByIdentity) where
  among_changes : (large : Bool) (old : PlainZone) (transfer : Transfer) (changes : Changes) → ListsTriggers large (transfer_triggers old transfer) changes → AllByRecursion IsTrigger (transfer_triggers old transfer)
      → ((t : Trigger) → list_any (is_same t) (transfer_triggers old transfer) ≡ false → IfOk (apply_outcome old transfer) (StaysAt old t)) → AreChangesBy old transfer changes
  among_changes large old transfer AllOfThem among are stay = if_any (apply_outcome old transfer)
  among_changes large old transfer (Triggers listed) among are stay =
      if_each (AllByRecursion IsTrigger listed.items) (λ t. list_any (is_same t) listed.items ≡ false) (StaysAt old) (apply_outcome old transfer)
      (subst (AllByRecursion IsTrigger) (sym among) are)
      (λ t is none. stay t (ap (list_any (is_same t)) (sym among) ∙ none))

  steps_change : (large : Bool) (old : PlainZone) (steps : List PlainStep) (changes : Changes) → HasRows old.content → AllByRecursion HasStepRows steps → ListsTriggers large (step_triggers old.origin steps) changes → AreChangesBy old (Steps steps) changes
  steps_change large old steps changes has are among =
      among_changes large old (Steps steps) changes among (steps_are laws old.origin steps are)
      (λ t none. steps_stay alike t old steps has are (sym (steps_named old.origin t steps) ∙ none))

  whole_changes : (large : Bool) (old : PlainZone) (soa : Soa) (rows : List PlainRow) (changes : Changes) → HasRows old.content → AllByRecursion IsRow rows
      → ListsTriggers large (live_triggers old.origin (held_rows old.content) ++ live_triggers old.origin rows) changes → AreChangesBy old (Whole soa rows) changes
  whole_changes large old soa rows changes has are among =
      among_changes large old (Whole soa rows) changes among
      (all_append IsTrigger (live_triggers old.origin (held_rows old.content)) (live_triggers old.origin rows) (held_are laws old.origin old.content has) (live_are laws old.origin rows are))
      (λ t none. whole_stays t old soa rows (sym (both_named old.origin t (held_rows old.content) rows) ∙ none))

  -- of a zone as it is kept
  pub steps_seen : (large : Bool) (origin : List (List ℕ)) (loaded : Option Loaded) (old : PlainZone) (transfer : Transfer) (steps : List PlainStep) (result : Result Changes AllocError) → record { origin = origin; content = content_of loaded } ≡ old → transfer ≡ Steps steps
      → HasRows (content_of loaded) → AllByRecursion HasStepRows steps → IfOk result (ListsTriggers large (step_triggers origin steps)) → IfOk result (AreChangesBy old transfer)
  steps_seen large origin loaded old transfer steps result view e has are =
      if_so (ListsTriggers large (step_triggers origin steps)) (AreChangesBy old transfer) result
      (λ changes among. subst (λ (f : Transfer). AreChangesBy old f changes) (sym e)
      (subst (λ (z : PlainZone). AreChangesBy z (Steps steps) changes) view
      (steps_change large (record { origin = origin; content = content_of loaded }) steps changes has are among)))

  pub whole_seen : (large : Bool) (origin : List (List ℕ)) (loaded : Option Loaded) (old : PlainZone) (transfer : Transfer) (soa : Soa) (rows : List PlainRow) (result : Result Changes AllocError) → record { origin = origin; content = content_of loaded } ≡ old → transfer ≡ Whole soa rows
      → HasRows (content_of loaded) → AllByRecursion IsRow rows → IfOk result (ListsTriggers large (live_triggers origin (held_rows (content_of loaded)) ++ live_triggers origin rows)) → IfOk result (AreChangesBy old transfer)
  whole_seen large origin loaded old transfer soa rows result view e has are =
      if_so (ListsTriggers large (live_triggers origin (held_rows (content_of loaded)) ++ live_triggers origin rows)) (AreChangesBy old transfer) result
      (λ changes among. subst (λ (f : Transfer). AreChangesBy old f changes) (sym e)
      (subst (λ (z : PlainZone). AreChangesBy z (Whole soa rows) changes) view
      (whole_changes large (record { origin = origin; content = content_of loaded }) soa rows changes has are among)))

-- ---- loops

-- the triggers of one row more
one_row_more : (origin : List (List ℕ)) (rows : List PlainStored) (at : ℕ) (s : PlainStored) → slice_get rows at ≡ Some s
    → live_triggers origin (map plain_row (take (at + 1) rows)) ≡ live_triggers origin (map plain_row (take at rows)) ++ place_triggers (row_place origin (plain_row s))
one_row_more origin rows at s got =
    ap (λ (l : List PlainStored). live_triggers origin (map plain_row l)) (take_item rows at s got)
    ∙ ap (live_triggers origin) (map-append plain_row (take at rows) (s ∷ []))
    ∙ flat_map-append (λ row. place_triggers (row_place origin row)) (map plain_row (take at rows)) (plain_row s ∷ [])
    ∙ ap (λ (l : List Trigger). live_triggers origin (map plain_row (take at rows)) ++ l) (append-nil (place_triggers (row_place origin (plain_row s))))

-- what a list keeps are rows
pub stored_rows : (stored : List PlainStored) (rows : List PlainRow) → map plain_row stored ≡ rows → All IsStored stored → AllByRecursion IsRow rows
stored_rows stored rows e all =
    subst (AllByRecursion IsRow) e (all_recursion IsRow (map plain_row stored) (All-map IsRow plain_row stored (λ k d h. (all k d h).is_row)))

pub more_triggers : (origin : List (List ℕ)) (rows : List PlainStored) (at : ℕ) (s : PlainStored) (initial old new : List Trigger) → slice_get rows at ≡ Some s
    → old ≡ initial ++ live_triggers origin (map plain_row (take at rows)) → new ≡ old ++ place_triggers (row_place origin (plain_row s)) → new ≡ initial ++ live_triggers origin (map plain_row (take (at + 1) rows))
more_triggers origin rows at s initial old new got before one =
    one
    ∙ ap (λ (l : List Trigger). l ++ place_triggers (row_place origin (plain_row s))) before
    ∙ append_assoc initial (live_triggers origin (map plain_row (take at rows))) (place_triggers (row_place origin (plain_row s)))
    ∙ ap (λ (l : List Trigger). initial ++ l) (sym (one_row_more origin rows at s got))

-- a zone is seen by what it keeps
pub kept_view : (origin : List (List ℕ)) (lent loaded : Option Loaded) (old : PlainZone) → lent ≡ loaded → record { origin = origin; content = content_of loaded } ≡ old → record { origin = origin; content = content_of lent } ≡ old
kept_view origin lent loaded old e view = ap (λ (l : Option Loaded). made l) e ∙ view where
  made : Option Loaded → PlainZone
  made l = record { origin = origin; content = content_of l }

-- what is listed for a zone as it is kept
pub listed_seen : (most : ℕ) (origin : List (List ℕ)) (lent : Option Loaded) (old : PlainZone) (transfer kind : Transfer) (result : Result Changes AllocError) → record { origin = origin; content = content_of lent } ≡ old → transfer ≡ kind
    → IfOk result (ListsTriggersOf most (record { origin = origin; content = content_of lent }) kind) → IfOk result (ListsTriggersOf most old transfer)
listed_seen most origin lent old transfer kind result view e h =
    subst (λ (f : Transfer). IfOk result (ListsTriggersOf most old f)) (sym e) (subst (λ (z : PlainZone). IfOk result (ListsTriggersOf most z kind)) view h)
