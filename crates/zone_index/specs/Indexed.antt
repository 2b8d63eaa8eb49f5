-- What a zone with its index stands for.
use Rattle.std.specs.Prelude.{◌≡◌, All, map, List, Option, Some, None, Result, Ok, Err}
use Rattle.dns_name.specs.Labels.{Name}
use Rattle.dns_name.specs.Reading.{◌>>=◌}
use Rattle.dns_record.specs.Record.{PlainRecord}
use Rattle.dns_record.specs.Row.{IsRow, PlainRow}
use Rattle.dns_record.specs.Soa.{soa_record}
use Rattle.dns_record.specs.declared.soa.Soa.{Soa}
use Rattle.trigger_codec.specs.declared.trigger.Trigger.{Trigger}
use Rattle.zone_rows.specs.declared.fault.ApplyError.{ApplyError}
use Rattle.zone_rows.specs.declared.fault.ApplyFault.{ApplyFault}
use Rattle.zone_rows.specs.declared.zone.Content.{Content}
use Rattle.zone_rows.specs.declared.transfer.Transfer.{Transfer}
use Rattle.zone_rows.specs.declared.transfer.Transfer.TheVariants.{Whole, Steps}
use Rattle.zone_rows.specs.declared.zone.TheConstants.{ROW_LIMIT}
use Rattle.packed_lists.specs.Blocks.{PlainRowList}
use Rattle.zone_rows.specs.Distinct.{AreDistinct}
use Rattle.zone_rows.specs.Repeats.{without_repeats}
use Rattle.zone_rows.specs.Stepping.{whole_outcome}
use Rattle.zone_rows.specs.Stored.{IsStored, plain_row}
use Rattle.zone_rows.specs.Steps.{steps_outcome}
use Rattle.zone_rows.specs.Zone.{Fails, fewer_rows}
use Rattle.action_codec.specs.Action.{action_by}
use Rattle.action_codec.specs.declared.action.Action.{Action}
use Rattle.zone_index.specs.Kinds.{PlainRules}
use Rattle.zone_index.specs.Listed.{rows_of}
use Rattle.zone_index.specs.Placed.{PlainIndexed}
use Rattle.zone_index.specs.Rules.{rules_of}
use Rattle.zone_index.specs.declared.edit_error.EditError.{EditError}
use Rattle.zone_index.specs.declared.edit_error.EditError.TheVariants.{OutOfMemory as NoMemory, TooMuchWork, Fault as FaultOf}
use Rattle.zone_index.specs.declared.loaded.Loaded.{Loaded}

-- the SOA record of a loaded zone, and its rules
pub record PlainIndex : Type 0 where
  pub soa_record : PlainRecord
  pub rules : PlainRules

abbrev pub index_of : Name → Option Content → Option PlainIndex
index_of origin None = None
index_of origin (Some content) =
    Some
    (record { soa_record = soa_record origin content.soa; rules = rules_of origin content.rows })

-- what the live rows of a trigger do in a zone; nothing where nothing is loaded
abbrev pub content_rule : Name → Option Content → Trigger → Option Action
content_rule origin None t = None
content_rule origin (Some content) t = action_by t (rows_of origin content.rows t)

-- what a zone holds are rows
abbrev pub HasRows : Option Content → Type 0
HasRows None = Unit {0}
HasRows (Some content) = All IsRow content.rows

-- what a loaded zone holds, without its index
abbrev pub content_of : Option Loaded → Option Content
content_of None = None
content_of (Some loaded) = Some (record { soa = loaded.soa; rows = loaded.rows.rows })

-- what a zone holds after a transfer, or the first fault
abbrev pub content_after : Option Content → Transfer → Result Content ApplyFault
content_after content (Whole soa rows) = whole_outcome ROW_LIMIT content soa rows
content_after content (Steps steps) = steps_outcome ROW_LIMIT content steps

-- what a zone holds that has these rows without repeats, or that they are too many
abbrev pub rows_outcome : Soa → List PlainRow → Result Content ApplyFault
rows_outcome soa rows = do
  kept ← fewer_rows ROW_LIMIT (without_repeats rows)
  Ok (record { soa = soa; rows = kept })

-- what was made of rows: their index where no two have one identity, or the rows again
abbrev pub IsIndexing : Name → List PlainRow → Result PlainIndexed PlainRowList → Type 0
IsIndexing origin rows (Ok indexed) = (indexed ≡ record { origin = origin; rows = rows }) × AreDistinct rows
IsIndexing origin rows (Err list) = (map plain_row list.rows ≡ rows) × All IsStored list.rows

-- what is loaded is of a zone of this origin
pub record IsLoaded (origin : Name) (loaded : Loaded) : Type 0 where
  pub record_is : loaded.soa_record ≡ soa_record origin loaded.soa
  pub origin_is : loaded.rows.origin ≡ origin

abbrev pub IsLoadedIf : Name → Option Loaded → Type 0
IsLoadedIf origin None = Unit {0}
IsLoadedIf origin (Some loaded) = IsLoaded origin loaded

-- how edits end: with a fault of the steps, or with none where memory ran out or they are too much work
abbrev pub Ends : {X : Type 0} → EditError → Result X ApplyFault → Type 0
Ends NoMemory outcome = Unit {0}
Ends TooMuchWork outcome = Unit {0}
Ends (FaultOf fault) outcome = outcome ≡ Err fault

-- what a function returned are these rows of a zone of the origin, unless edits could not be made
abbrev pub GivesRows : Result PlainIndexed EditError → Name → Result (List PlainRow) ApplyFault → Type 0
GivesRows (Ok indexed) origin outcome = (outcome ≡ Ok indexed.rows) × (indexed.origin ≡ origin)
GivesRows (Err error) origin outcome = Ends error outcome

-- the same of what is loaded
abbrev pub GivesEdited : Result Loaded EditError → Name → Result Content ApplyFault → Type 0
GivesEdited (Ok loaded) origin outcome =
    (outcome ≡ Ok (record { soa = loaded.soa; rows = loaded.rows.rows })) × IsLoaded origin loaded
GivesEdited (Err error) origin outcome = Ends error outcome

-- what a function returned is what is loaded, unless memory ran out
abbrev pub GivesLoaded : Result Loaded ApplyError → Name → Result Content ApplyFault → Type 0
GivesLoaded (Ok loaded) origin outcome =
    (outcome ≡ Ok (record { soa = loaded.soa; rows = loaded.rows.rows })) × IsLoaded origin loaded
GivesLoaded (Err error) origin outcome = Fails error outcome
