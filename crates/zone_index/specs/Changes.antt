-- Which rules a transfer may change.
use Rattle.std.specs.Prelude.{◌≡◌, ℕ, ◌+◌, ◌||◌, nat_lt, Bool, true, false, List, [], ◌∷◌, ◌++◌, flat_map, length, IfOk, Option, Some, None, Result, Ok, Err}
use Rattle.std.specs.List.{AllByRecursion, list_any}
use Rattle.dns_name.specs.Labels.{Name}
use Rattle.dns_record.specs.Row.{IsRow, PlainRow}
use Rattle.trigger_codec.specs.Bases.{IsTrigger}
use Rattle.trigger_codec.specs.declared.trigger.Trigger.{Trigger}
use Rattle.zone_rows.specs.declared.fault.ApplyError.{ApplyError}
use Rattle.zone_rows.specs.declared.fault.ApplyFault.{ApplyFault}
use Rattle.zone_rows.specs.declared.transfer.Transfer.{Transfer}
use Rattle.zone_rows.specs.declared.transfer.Transfer.TheVariants.{Whole, Steps}
use Rattle.zone_rows.specs.declared.zone.Content.{Content}
use Rattle.zone_rows.specs.declared.zone.PlainZone.{PlainZone}
use Rattle.zone_rows.specs.Steps.{PlainStep}
use Rattle.zone_rows.specs.Zone.{Fails, apply_outcome}
use Rattle.zone_index.specs.Indexed.{content_rule}
use Rattle.zone_index.specs.Listed.{is_same}
use Rattle.zone_index.specs.Placed.{row_place}
use Rattle.zone_index.specs.declared.changes.Changes.{Changes}
use Rattle.zone_index.specs.declared.changes.Changes.TheVariants.{All, Triggers}
use Rattle.zone_index.specs.declared.place.Place.{Place}
use Rattle.zone_index.specs.declared.place.Place.TheVariants.{Rule, Other}

-- the trigger of a place, if rows there make a rule
abbrev pub place_triggers : Place → List Trigger
place_triggers (Rule t) = t ∷ []
place_triggers (Other pattern) = []

-- the triggers of the rows that are live
abbrev pub live_triggers : Name → List PlainRow → List Trigger
live_triggers origin rows = flat_map (λ row. place_triggers (row_place origin row)) rows

-- the triggers of the rows that steps take out or put in
abbrev pub step_triggers : Name → List PlainStep → List Trigger
step_triggers origin [] = []
step_triggers origin (step ∷ steps) =
    live_triggers origin step.deleted ++ (live_triggers origin step.added ++ step_triggers origin steps)

-- the rows that a zone holds
abbrev pub held_rows : Option Content → List PlainRow
held_rows None = []
held_rows (Some content) = content.rows

-- the triggers of the rows that a transfer takes out or puts in
abbrev pub transfer_triggers : PlainZone → Transfer → List Trigger
transfer_triggers old (Whole soa rows) = live_triggers old.origin (held_rows old.content) ++ live_triggers old.origin rows
transfer_triggers old (Steps steps) = step_triggers old.origin steps

-- how many rows steps take out or put in
abbrev pub step_rows : List PlainStep → ℕ
step_rows [] = 0
step_rows (step ∷ steps) = length step.deleted + length step.added + step_rows steps

-- a transfer is large: its steps name more rows than so many, or it is whole and has more, or takes the place of more
abbrev pub is_large : ℕ → PlainZone → Transfer → Bool
is_large most old (Whole soa rows) = nat_lt most (length rows) || nat_lt most (length (held_rows old.content))
is_large most old (Steps steps) = nat_lt most (step_rows steps)

-- the changes are these triggers, or all of them, where the transfer is large
abbrev pub ListsTriggers : Bool → List Trigger → Changes → Type 0
ListsTriggers large triggers All = large ≡ true
ListsTriggers large triggers (Triggers listed) = listed.items ≡ triggers

-- the changes are the triggers of the rows that the transfer takes out or puts in; or all, where it is large
abbrev pub ListsTriggersOf : ℕ → PlainZone → Transfer → Changes → Type 0
ListsTriggersOf most old transfer changes = ListsTriggers (is_large most old transfer) (transfer_triggers old transfer) changes

-- the rows of a step are rows
abbrev pub HasStepRows : PlainStep → Type 0
HasStepRows step = AllByRecursion IsRow step.deleted × AllByRecursion IsRow step.added

-- All that is listed are triggers, and where a trigger isn't among them, its rule is the same in both zones.
abbrev pub AreChanges : PlainZone → PlainZone → Changes → Type 0
AreChanges old new All = Unit {0}
AreChanges old new (Triggers triggers) =
    AllByRecursion IsTrigger triggers.items
    × ((t : Trigger) → IsTrigger t → list_any (is_same t) triggers.items ≡ false → content_rule new.origin new.content t ≡ content_rule old.origin old.content t)

-- what a transfer may change, where the zone takes it
abbrev pub AreChangesBy : PlainZone → Transfer → Changes → Type 0
AreChangesBy old transfer changes = IfOk (apply_outcome old transfer) (λ new. AreChanges old new changes)

-- What a function returned is this zone with what may have changed, unless memory ran out.
abbrev pub GivesChanged : PlainZone → Result (PlainZone × Changes) ApplyError → Result PlainZone ApplyFault → Type 0
GivesChanged old (Ok changed) outcome = (outcome ≡ Ok changed.0) × AreChanges old changed.0 changed.1
GivesChanged old (Err e) outcome = Fails e outcome
