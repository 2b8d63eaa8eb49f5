-- What steps come to.
use Rattle.std.proofs.Common.{◌≡◌, ◌≢◌, ℕ, ◌+◌, Bool, true, false, not, if◌then◌else◌, nat_lt, ◌==◌, List, [], ◌∷◌, ◌++◌, length, Option, Some, None, Result, Ok, Err, refl, ap, subst}
use Rattle.std.specs.Prelude.{IfOk}
use Rattle.std.specs.Str.{bytes_eq}
use Rattle.std.proofs.lemmas.List.Kept.{AllPairs-filter}
use Rattle.std.proofs.lemmas.List.Quantifiers.{all_pairs_push}
use Rattle.dns_name.specs.Reading.{◌>>=◌}
use Rattle.dns_record.specs.declared.soa.Soa.{Soa}
use Rattle.dns_record.specs.Row.{PlainRow, identity}
use Rattle.zone_rows.specs.declared.fault.ApplyError.{ApplyError}
use Rattle.zone_rows.specs.declared.fault.ApplyFault.{ApplyFault}
use Rattle.zone_rows.specs.declared.fault.ApplyFault.TheVariants.{DeleteAbsent, AddPresent, TooManyRows}
use Rattle.zone_rows.specs.declared.steps.Step.{Step}
use Rattle.zone_rows.specs.declared.transfer.Transfer.{Transfer}
use Rattle.zone_rows.specs.declared.transfer.Transfer.TheVariants.{Whole, Steps}
use Rattle.zone_rows.specs.declared.zone.Content.{Content}
use Rattle.zone_rows.specs.declared.zone.PlainZone.{PlainZone}
use Rattle.zone_rows.specs.declared.zone.TheConstants.{ROW_LIMIT}
use Rattle.zone_rows.specs.Distinct.{AreDistinct, HasDistinctRows, BeginsDistinct}
use Rattle.zone_rows.specs.Repeats.{has_row}
use Rattle.zone_rows.specs.Steps.{without_row, without_deleted, with_added, rows_after_step, after_steps, steps_outcome}
use Rattle.zone_rows.specs.Zone.{Gives, apply_outcome_within, apply_outcome}
use Rattle.zone_rows.proofs.Firsts.{none_has, whole_distinct}

-- an outcome that is no fault
abbrev pub Rows : Type 0
Rows = Result (List PlainRow) ApplyFault

abbrev pub Outcome : Type 0
Outcome = Result Content ApplyFault

pub of_then : {X : Type 0} (b : Bool) (outcome : Result X ApplyFault) (fault : ApplyFault) (x : X) → (if b then outcome else Err fault) ≡ Ok x → (b ≡ true) × (outcome ≡ Ok x)
of_then true outcome fault x e = (refl, e)
of_then false outcome fault x e = absurd cc

pub of_else : {X : Type 0} (b : Bool) (outcome : Result X ApplyFault) (fault : ApplyFault) (x : X) → (if b then Err fault else outcome) ≡ Ok x → (b ≡ false) × (outcome ≡ Ok x)
of_else true outcome fault x e = absurd cc
of_else false outcome fault x e = (refl, e)

abbrev pub Follows : {X Y : Type 0} → Result X ApplyFault → (X → Result Y ApplyFault) → Y → Type 0
Follows {X} first next y = (x : X) × (first ≡ Ok x) × (next x ≡ Ok y)

pub of_bind : {X Y : Type 0} (first : Result X ApplyFault) (next : X → Result Y ApplyFault) (y : Y) → (first >>= next) ≡ Ok y → Follows first next y
of_bind (Ok x) next y e = (x, refl, e)
of_bind (Err fault) next y e = absurd cc

pub same_ok : (rows after : List PlainRow) → ◌≡◌ {A = Rows} (Ok rows) (Ok after) → rows ≡ after
same_ok rows after e = cc

-- distinct rows
deleted_distinct : (step number : ℕ) (rows deleted after : List PlainRow) → AreDistinct rows → without_deleted step number rows deleted ≡ Ok after → AreDistinct after
deleted_distinct step number rows [] after distinct e = subst AreDistinct (same_ok rows after e) distinct
deleted_distinct step number rows (row ∷ others) after distinct e =
    let t = of_then (has_row rows row) (without_deleted step (number + 1) (without_row rows row) others) (DeleteAbsent step number) after e in
    deleted_distinct step (number + 1) (without_row rows row) others after (AllPairs-filter (λ one other. identity one ≢ identity other) (λ other. not (bytes_eq (identity row) (identity other))) rows distinct) t.1

added_distinct : (bound step number : ℕ) (rows added after : List PlainRow) → AreDistinct rows → with_added bound step number rows added ≡ Ok after → AreDistinct after
added_distinct bound step number rows [] after distinct e = subst AreDistinct (same_ok rows after e) distinct
added_distinct bound step number rows (row ∷ others) after distinct e =
    let rest : Rows = with_added bound step (number + 1) (rows ++ row ∷ []) others in
    let t = of_else (has_row rows row) (if nat_lt (length rows + 1) bound then rest else Err (TooManyRows bound)) (AddPresent step number) after e in
    let u = of_then (nat_lt (length rows + 1) bound) rest (TooManyRows bound) after t.1 in
    added_distinct bound step (number + 1) (rows ++ row ∷ []) others after
    (all_pairs_push (λ one other. identity one ≢ identity other) rows row distinct (λ i d h. none_has rows row d t.0 i h)) u.1

step_distinct : (bound number : ℕ) (rows : List PlainRow) (step : Step) (after : List PlainRow) → AreDistinct rows → rows_after_step bound number rows step ≡ Ok after → AreDistinct after
step_distinct bound number rows step after distinct e =
    let f : Follows (without_deleted number 1 rows step.deleted) (λ kept. with_added bound number 1 kept step.added) after = of_bind (without_deleted number 1 rows step.deleted) (λ kept. with_added bound number 1 kept step.added) after e in
    added_distinct bound number 1 f.0 step.added after (deleted_distinct number 1 rows step.deleted f.0 distinct f.1) f.2

pub same_content : (content after : Content) → ◌≡◌ {A = Outcome} (Ok content) (Ok after) → content ≡ after
same_content content after e = cc

steps_distinct : (bound number : ℕ) (soa : Soa) (rows : List PlainRow) (steps : List Step) (after : Content) → AreDistinct rows → after_steps bound number soa rows steps ≡ Ok after → AreDistinct after.rows
steps_distinct bound number soa rows [] after distinct e =
    let now : Content = record { soa = soa; rows = rows } in
    subst AreDistinct (ap (λ (c : Content). c.rows) (same_content now after e)) distinct
steps_distinct bound number soa rows (step ∷ steps) after distinct e =
    let next : List PlainRow → Outcome = λ rows. after_steps bound (number + 1) step.new rows steps in
    let f : Follows (rows_after_step bound number rows step) next after = of_bind (rows_after_step bound number rows step) next after e in
    steps_distinct bound (number + 1) step.new f.0 steps after (step_distinct bound number rows step f.0 distinct f.1) f.2

outcome_rows : (bound : ℕ) (content : Option Content) (steps : List Step) (after : Content) → ((now : Content) → content ≡ Some now → AreDistinct now.rows) → steps_outcome bound content steps ≡ Ok after → AreDistinct after.rows
outcome_rows bound None steps after distinct e = absurd cc
outcome_rows bound (Some content) [] after distinct e = absurd cc
outcome_rows bound (Some content) (step ∷ steps) after distinct e =
    let t = of_then (step.old.serial == content.soa.serial) (after_steps bound 1 content.soa content.rows (step ∷ steps)) _ after e in
    steps_distinct bound 1 content.soa content.rows (step ∷ steps) after (distinct content refl) t.1

held_distinct : (content : Option Content) (now : Content) → (rest : HasDistinctRows (record { origin = []; content = content })) → content ≡ Some now → AreDistinct now.rows
held_distinct None now distinct e = absurd cc
held_distinct (Some content) now distinct e = let same : content ≡ now = cc in subst (λ (c : Content). AreDistinct c.rows) same distinct

pub applied_distinct : (zone after : PlainZone) (transfer : Transfer) → BeginsDistinct zone transfer → apply_outcome zone transfer ≡ Ok after → HasDistinctRows after
unfolding apply_outcome_within
applied_distinct zone after (Whole soa rows) distinct e = whole_distinct zone after soa rows e
applied_distinct zone after (Steps steps) distinct e =
    let next : Content → Result PlainZone ApplyFault = λ content. Ok (record { origin = zone.origin; content = Some content }) in
    let f : Follows (steps_outcome ROW_LIMIT zone.content steps) next after = of_bind (steps_outcome ROW_LIMIT zone.content steps) next after e in
    let made : PlainZone = record { origin = zone.origin; content = Some f.0 } in
    let same : made ≡ after = cc (f.2) in
    subst HasDistinctRows same (outcome_rows ROW_LIMIT zone.content steps f.0 (λ now h. held_distinct zone.content now distinct h) f.1)

pub outcome_distinct : (result : Result PlainZone ApplyError) (zone : PlainZone) (transfer : Transfer) → Gives result (apply_outcome zone transfer) → BeginsDistinct zone transfer → IfOk result HasDistinctRows
outcome_distinct (Ok after) zone transfer gives distinct = applied_distinct zone after transfer distinct gives
outcome_distinct (Err error) zone transfer gives distinct = tt
