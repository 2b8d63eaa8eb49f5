-- What a step comes to, and steps after steps.
use Rattle.std.proofs.Common.{◌≡◌, ℕ, zero, suc, ◌+◌, Bool, true, false, not, ◌||◌, if◌then◌else◌, nat_lt, ◌==◌, List, [], ◌∷◌, ◌++◌, length, Option, Some, None, Result, Ok, Err, refl, sym, ap, ◌∙◌, subst, arith, append_assoc}
use Rattle.std.specs.Prelude.{filter, Contains, IsTrue}
use Rattle.std.specs.List.{list_any}
use Rattle.std.specs.Str.{bytes_eq}
use Rattle.std.proofs.lemmas.List.{append-nil}
use Rattle.std.proofs.lemmas.Slice.Eq.{bytes_eq-Decides}
use Rattle.dns_name.specs.Reading.{◌>>=◌}
use Rattle.dns_record.specs.declared.soa.Soa.{Soa}
use Rattle.dns_record.specs.Row.{PlainRow, identity}
use Rattle.zone_rows.specs.declared.fault.ApplyFault.{ApplyFault}
use Rattle.zone_rows.specs.declared.fault.ApplyFault.TheVariants.{DeleteAbsent, AddPresent, TooManyRows}
use Rattle.zone_rows.specs.declared.steps.Step.{Step}
use Rattle.zone_rows.specs.declared.transfer.Transfer.TheVariants.{Steps}
use Rattle.zone_rows.specs.declared.zone.Content.{Content}
use Rattle.zone_rows.specs.declared.zone.PlainZone.{PlainZone}
use Rattle.zone_rows.specs.declared.zone.TheConstants.{ROW_LIMIT}
use Rattle.zone_rows.specs.Repeats.{has_row}
use Rattle.zone_rows.specs.Steps.{without_row, without_deleted, with_added, rows_after_step, after_steps, steps_outcome}
use Rattle.zone_rows.specs.Zone.{apply_outcome_within, apply_outcome}
use Rattle.zone_rows.proofs.StepRows.{Rows, Outcome, Follows, of_then, of_else, of_bind, same_ok, same_content}

-- tests of identities
flipped : (row other : PlainRow) (b c : Bool) → bytes_eq (identity row) (identity other) ≡ b → bytes_eq (identity other) (identity row) ≡ c → b ≡ c
flipped row other true true e f = refl
flipped row other false false e f = refl
flipped row other true false e f =
    let t : bytes_eq (identity other) (identity row) ≡ true = (bytes_eq-Decides (identity other) (identity row)).1 (sym ((bytes_eq-Decides (identity row) (identity other)).0 e)) in
    cc
flipped row other false true e f =
    let t : bytes_eq (identity row) (identity other) ≡ true = (bytes_eq-Decides (identity row) (identity other)).1 (sym ((bytes_eq-Decides (identity other) (identity row)).0 f)) in
    cc

flip : (row other : PlainRow) → bytes_eq (identity row) (identity other) ≡ bytes_eq (identity other) (identity row)
flip row other = flipped row other (bytes_eq (identity row) (identity other)) (bytes_eq (identity other) (identity row)) refl refl

-- rows of which none is taken out
abbrev stays : List PlainRow → PlainRow → Bool
stays deleted row = not (has_row deleted row)

all_stay : (rows : List PlainRow) → filter (stays []) rows ≡ rows
all_stay [] = refl
all_stay (row ∷ rows) = ap (λ (l : List PlainRow). row ∷ l) (all_stay rows)

stays_both : (b c d : Bool) (row : PlainRow) (whole kept : List PlainRow) (p : PlainRow → Bool) → b ≡ d → p row ≡ not c → filter p whole ≡ kept
    → filter p (if not b then row ∷ whole else whole) ≡ (if not (d || c) then row ∷ kept else kept)
stays_both true c true row whole kept p e f g = g
stays_both true c false row whole kept p e f g = absurd cc
stays_both false c true row whole kept p e f g = absurd cc
stays_both false true false row whole kept p e f g = rw f g
stays_both false false false row whole kept p e f g = rw f (ap (λ (l : List PlainRow). row ∷ l) g)

stay_twice : (deleted : List PlainRow) (row : PlainRow) (rows : List PlainRow) → filter (stays deleted) (without_row rows row) ≡ filter (stays (row ∷ deleted)) rows
stay_twice deleted row [] = refl
stay_twice deleted row (other ∷ rows) =
    stays_both (bytes_eq (identity row) (identity other)) (has_row deleted other) (bytes_eq (identity other) (identity row)) other (without_row rows row) (filter (stays (row ∷ deleted)) rows) (stays deleted)
    (flip row other) refl (stay_twice deleted row rows)

kept_rows : (step number : ℕ) (rows deleted kept : List PlainRow) → without_deleted step number rows deleted ≡ Ok kept → kept ≡ filter (stays deleted) rows
kept_rows step number rows [] kept e = sym (same_ok rows kept e) ∙ sym (all_stay rows)
kept_rows step number rows (row ∷ deleted) kept e =
    let t = of_then (has_row rows row) (without_deleted step (number + 1) (without_row rows row) deleted) (DeleteAbsent step number) kept e in
    kept_rows step (number + 1) (without_row rows row) deleted kept t.1 ∙ stay_twice deleted row rows

more_rows : (bound step number : ℕ) (rows added after : List PlainRow) → with_added bound step number rows added ≡ Ok after → after ≡ rows ++ added
more_rows bound step number rows [] after e = sym (same_ok rows after e) ∙ sym (append-nil rows)
more_rows bound step number rows (row ∷ added) after e =
    let rest : Rows = with_added bound step (number + 1) (rows ++ row ∷ []) added in
    let t = of_else (has_row rows row) (if nat_lt (length rows + 1) bound then rest else Err (TooManyRows bound)) (AddPresent step number) after e in
    let u = of_then (nat_lt (length rows + 1) bound) rest (TooManyRows bound) after t.1 in
    more_rows bound step (number + 1) (rows ++ row ∷ []) added after u.1 ∙ append_assoc rows (row ∷ []) added

pub step_rows : (bound number : ℕ) (rows after : List PlainRow) (step : Step) → rows_after_step bound number rows step ≡ Ok after → after ≡ filter (λ row. not (has_row step.deleted row)) rows ++ step.added
step_rows bound number rows after step e =
    let f : Follows (without_deleted number 1 rows step.deleted) (λ kept. with_added bound number 1 kept step.added) after = of_bind (without_deleted number 1 rows step.deleted) (λ kept. with_added bound number 1 kept step.added) after e in
    more_rows bound number 1 f.0 step.added after f.2 ∙ ap (λ (l : List PlainRow). l ++ step.added) (kept_rows number 1 rows step.deleted f.0 f.1)

-- a row that is there without others is there
any_of : (b c d e : Bool) → (d ≡ true → e ≡ true) → (if b then c || d else d) ≡ true → (c || e) ≡ true
any_of b true d e h t = refl
any_of true false d e h t = h t
any_of false false d e h t = h t

any_kept : (b : Bool) (test : PlainRow → Bool) (row : PlainRow) (rows : List PlainRow) → list_any test (if b then row ∷ rows else rows) ≡ (if b then test row || list_any test rows else list_any test rows)
any_kept true test row rows = refl
any_kept false test row rows = refl

was_there : (test keep : PlainRow → Bool) (rows : List PlainRow) → list_any test (filter keep rows) ≡ true → list_any test rows ≡ true
was_there test keep [] h = h
was_there test keep (row ∷ rows) h =
    any_of (keep row) (test row) (list_any test (filter keep rows)) (list_any test rows) (was_there test keep rows) (sym (any_kept (keep row) test row (filter keep rows)) ∙ h)

deleted_was_there : (step number : ℕ) (rows deleted kept : List PlainRow) (row : PlainRow) → without_deleted step number rows deleted ≡ Ok kept → Contains deleted row → has_row rows row ≡ true
deleted_was_there step number rows [] kept row e (k, h, is) = absurd (omega (arith, h))
deleted_was_there step number rows (first ∷ deleted) kept row e (zero, h, is) =
    let t = of_then (has_row rows first) (without_deleted step (number + 1) (without_row rows first) deleted) (DeleteAbsent step number) kept e in
    ap (has_row rows) (sym is) ∙ t.0
deleted_was_there step number rows (first ∷ deleted) kept row e (suc k, h, is) =
    let t = of_then (has_row rows first) (without_deleted step (number + 1) (without_row rows first) deleted) (DeleteAbsent step number) kept e in
    was_there (λ other. bytes_eq (identity row) (identity other)) (λ other. not (bytes_eq (identity first) (identity other))) rows
    (deleted_was_there step (number + 1) (without_row rows first) deleted kept row t.1 (k, omega (arith, h), is))

pub step_deleted : (bound number : ℕ) (rows after : List PlainRow) (step : Step) (row : PlainRow) → rows_after_step bound number rows step ≡ Ok after → Contains step.deleted row → IsTrue (has_row rows row)
step_deleted bound number rows after step row e c =
    let f : Follows (without_deleted number 1 rows step.deleted) (λ kept. with_added bound number 1 kept step.added) after = of_bind (without_deleted number 1 rows step.deleted) (λ kept. with_added bound number 1 kept step.added) after e in
    deleted_was_there number 1 rows step.deleted f.0 row f.1 c

-- where there is no fault, numbers don't matter
then_ok : {X : Type 0} (b : Bool) (outcome : Result X ApplyFault) (fault : ApplyFault) (x : X) → b ≡ true → outcome ≡ Ok x → (if b then outcome else Err fault) ≡ Ok x
then_ok true outcome fault x t e = e
then_ok false outcome fault x t e = absurd cc

else_ok : {X : Type 0} (b : Bool) (outcome : Result X ApplyFault) (fault : ApplyFault) (x : X) → b ≡ false → outcome ≡ Ok x → (if b then Err fault else outcome) ≡ Ok x
else_ok true outcome fault x t e = absurd cc
else_ok false outcome fault x t e = e

deleted_by_any : (step number other_step other : ℕ) (rows deleted kept : List PlainRow) → without_deleted step number rows deleted ≡ Ok kept → without_deleted other_step other rows deleted ≡ Ok kept
deleted_by_any step number other_step other rows [] kept e = e
deleted_by_any step number other_step other rows (row ∷ deleted) kept e =
    let t = of_then (has_row rows row) (without_deleted step (number + 1) (without_row rows row) deleted) (DeleteAbsent step number) kept e in
    then_ok (has_row rows row) (without_deleted other_step (other + 1) (without_row rows row) deleted) (DeleteAbsent other_step other) kept t.0
    (deleted_by_any step (number + 1) other_step (other + 1) (without_row rows row) deleted kept t.1)

added_by_any : (bound step number other_step other : ℕ) (rows added after : List PlainRow) → with_added bound step number rows added ≡ Ok after → with_added bound other_step other rows added ≡ Ok after
added_by_any bound step number other_step other rows [] after e = e
added_by_any bound step number other_step other rows (row ∷ added) after e =
    let rest : Rows = with_added bound step (number + 1) (rows ++ row ∷ []) added in
    let t = of_else (has_row rows row) (if nat_lt (length rows + 1) bound then rest else Err (TooManyRows bound)) (AddPresent step number) after e in
    let u = of_then (nat_lt (length rows + 1) bound) rest (TooManyRows bound) after t.1 in
    let more : Rows = with_added bound other_step (other + 1) (rows ++ row ∷ []) added in
    else_ok (has_row rows row) (if nat_lt (length rows + 1) bound then more else Err (TooManyRows bound)) (AddPresent other_step other) after t.0
    (then_ok (nat_lt (length rows + 1) bound) more (TooManyRows bound) after u.0 (added_by_any bound step (number + 1) other_step (other + 1) (rows ++ row ∷ []) added after u.1))

step_by_any : (bound number other : ℕ) (rows after : List PlainRow) (step : Step) → rows_after_step bound number rows step ≡ Ok after → rows_after_step bound other rows step ≡ Ok after
step_by_any bound number other rows after step e =
    let f : Follows (without_deleted number 1 rows step.deleted) (λ kept. with_added bound number 1 kept step.added) after = of_bind (without_deleted number 1 rows step.deleted) (λ kept. with_added bound number 1 kept step.added) after e in
    ap (λ (r : Rows). r >>= (λ kept. with_added bound other 1 kept step.added)) (deleted_by_any number 1 other 1 rows step.deleted f.0 f.1)
    ∙ added_by_any bound number 1 other 1 f.0 step.added after f.2

steps_by_any : (bound number other : ℕ) (soa : Soa) (rows : List PlainRow) (steps : List Step) (after : Content) → after_steps bound number soa rows steps ≡ Ok after → after_steps bound other soa rows steps ≡ Ok after
steps_by_any bound number other soa rows [] after e = e
steps_by_any bound number other soa rows (step ∷ steps) after e =
    let next : List PlainRow → Outcome = λ rows. after_steps bound (number + 1) step.new rows steps in
    let f : Follows (rows_after_step bound number rows step) next after = of_bind (rows_after_step bound number rows step) next after e in
    ap (λ (r : Rows). r >>= (λ rows. after_steps bound (other + 1) step.new rows steps)) (step_by_any bound number other rows f.0 step f.1)
    ∙ steps_by_any bound (number + 1) (other + 1) step.new f.0 steps after f.2

-- steps after steps
more_steps : (bound number other : ℕ) (soa : Soa) (rows : List PlainRow) (first second : List Step) (between after : Content) → after_steps bound number soa rows first ≡ Ok between
    → after_steps bound other between.soa between.rows second ≡ Ok after → after_steps bound number soa rows (first ++ second) ≡ Ok after
more_steps bound number other soa rows [] second between after e h =
    let now : Content = record { soa = soa; rows = rows } in
    let same : now ≡ between = same_content now between e in
    let from : after_steps bound other soa rows second ≡ Ok after = subst (λ (c : Content). after_steps bound other c.soa c.rows second ≡ Ok after) (sym same) h in
    steps_by_any bound other number soa rows second after from
more_steps bound number other soa rows (step ∷ first) second between after e h =
    let next : List PlainRow → Outcome = λ rows. after_steps bound (number + 1) step.new rows first in
    let f : Follows (rows_after_step bound number rows step) next between = of_bind (rows_after_step bound number rows step) next between e in
    ap (λ (r : Rows). r >>= (λ rows. after_steps bound (number + 1) step.new rows (first ++ second))) f.1
    ∙ more_steps bound (number + 1) other step.new f.0 first second between after f.2 h

outcomes : (bound : ℕ) (content : Option Content) (first second : List Step) (between after : Content) → steps_outcome bound content first ≡ Ok between → steps_outcome bound (Some between) second ≡ Ok after
    → steps_outcome bound content (first ++ second) ≡ Ok after
outcomes bound None first second between after e h = absurd cc
outcomes bound (Some content) [] second between after e h = absurd cc
outcomes bound (Some content) (step ∷ first) [] between after e h = absurd cc
outcomes bound (Some content) (step ∷ first) (other ∷ second) between after e h =
    let t = of_then (step.old.serial == content.soa.serial) (after_steps bound 1 content.soa content.rows (step ∷ first)) _ between e in
    let u = of_then (other.old.serial == between.soa.serial) (after_steps bound 1 between.soa between.rows (other ∷ second)) _ after h in
    then_ok (step.old.serial == content.soa.serial) (after_steps bound 1 content.soa content.rows (step ∷ (first ++ other ∷ second))) _ after t.0
    (more_steps bound 1 1 content.soa content.rows (step ∷ first) (other ∷ second) between after t.1 u.1)

pub one_after_another : (zone between after : PlainZone) (first second : List Step) → apply_outcome zone (Steps first) ≡ Ok between → apply_outcome between (Steps second) ≡ Ok after → apply_outcome zone (Steps (first ++ second)) ≡ Ok after
unfolding apply_outcome_within
one_after_another zone between after first second e h =
    let next : Content → Result PlainZone ApplyFault = λ content. Ok (record { origin = zone.origin; content = Some content }) in
    let f : Follows (steps_outcome ROW_LIMIT zone.content first) next between = of_bind (steps_outcome ROW_LIMIT zone.content first) next between e in
    let made : PlainZone = record { origin = zone.origin; content = Some f.0 } in
    let same : made ≡ between = cc (f.2) in
    let from : apply_outcome made (Steps second) ≡ Ok after = subst (λ (z : PlainZone). apply_outcome z (Steps second) ≡ Ok after) (sym same) h in
    let g : Follows (steps_outcome ROW_LIMIT (Some f.0) second) next after = of_bind (steps_outcome ROW_LIMIT (Some f.0) second) next after from in
    ap (λ (r : Outcome). r >>= next) (outcomes ROW_LIMIT zone.content first second f.0 g.0 f.1 g.1) ∙ g.2
