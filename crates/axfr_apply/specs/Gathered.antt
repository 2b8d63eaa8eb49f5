-- What the records of a transfer have come to, as code keeps it: see src/gathered.rt.
use Rattle.std.specs.Prelude.{◌≡◌, true, List, [], ◌∷◌, ◌++◌, Option, Some, None, Result, Ok, Err}
use Rattle.std.specs.List.{flat_map}
use Rattle.dns_record.specs.declared.soa.Soa.{Soa}
use Rattle.dns_record.specs.Record.{PlainRecord}
use Rattle.dns_record.specs.Row.{PlainRow, row_of}
use Rattle.zone_rows.specs.Steps.{PlainStep}
use Rattle.zone_rows.specs.declared.transfer.Transfer.{Transfer}
use Rattle.axfr_apply.specs.declared.fault.TransferError.{TransferError}
use Rattle.axfr_apply.specs.declared.fault.TransferError.TheVariants as errors
use Rattle.axfr_apply.specs.declared.gathered.Form.{Form}
use Rattle.axfr_apply.specs.declared.gathered.Form.TheVariants.{Nothing, Whole, ClosedWhole, Deleting, Adding, ClosedSteps}
use Rattle.axfr_apply.specs.declared.gathered.NextSoa.{NextSoa}
use Rattle.axfr_apply.specs.declared.gathered.NextSoa.TheVariants.{On, Current}
use Rattle.axfr_apply.specs.declared.gathered.AtEnd.{AtEnd}
use Rattle.axfr_apply.specs.declared.gathered.AtEnd.TheVariants.{Done, Open}
use Rattle.axfr_apply.specs.Block.{Block, is_incremental, soa_held, steps_to}
use Rattle.axfr_apply.specs.Reading.{End, soa_block}
use Rattle.axfr_apply.specs.Stepping.{PlainAdding, PlainDeleting}

-- a row behind the last SOA
abbrev pub with_row : List Block → PlainRow → List Block
with_row [] row = []
with_row (last ∷ []) row = record { soa = last.soa; rows = last.rows ++ row ∷ [] } ∷ []
with_row (first ∷ second ∷ others) row = first ∷ with_row (second ∷ others) row

-- a record behind the blocks, by the SOA that it holds: that begins a block, and any other record is a row of the last one
abbrev pub with_held : List Block → PlainRow → Option Soa → List Block
with_held bs row None = with_row bs row
with_held bs row (Some soa) = bs ++ soa_block soa ∷ []

abbrev pub with_record : List Block → PlainRecord → List Block
with_record bs r = with_held bs (row_of r) (soa_held r)

-- the two blocks of a step
abbrev pub step_blocks : PlainStep → List Block
step_blocks step =
    record { soa = step.old; rows = step.deleted } ∷ record { soa = step.new; rows = step.added }
    ∷ []

abbrev pub steps_blocks : List PlainStep → List Block
steps_blocks steps = flat_map step_blocks steps

abbrev pub deleting_blocks : PlainDeleting → List Block
deleting_blocks d = steps_blocks d.steps ++ record { soa = d.from; rows = d.deleted } ∷ []

abbrev pub adding_blocks : PlainAdding → List Block
adding_blocks a = deleting_blocks a.before ++ record { soa = a.to; rows = a.added } ∷ []

-- the blocks that the records are
abbrev pub blocks_in : Form → List Block
blocks_in Nothing = []
blocks_in (Whole soa rows) = record { soa = soa; rows = rows } ∷ []
blocks_in (ClosedWhole soa rows last) = record { soa = soa; rows = rows } ∷ soa_block last ∷ []
blocks_in (Deleting soa step) = soa_block soa ∷ deleting_blocks step
blocks_in (Adding soa step) = soa_block soa ∷ adding_blocks step
blocks_in (ClosedSteps soa steps last) = soa_block soa ∷ (steps_blocks steps ++ soa_block last ∷ [])

-- the blocks behind the first SOA are those of steps, of which none up to here reaches the version of this serial
pub record AreOpenSteps (soa : Soa) (others : List Block) : Type 0 where
  pub incremental : is_incremental (soa_block soa ∷ others) ≡ true
  pub not_closed : steps_to soa.serial others ≡ None

-- what is known of a form
abbrev pub IsForm : Form → Type 0
IsForm Nothing = Unit {0}
IsForm (Whole soa rows) = Unit {0}
IsForm (ClosedWhole soa rows last) = last.serial ≡ soa.serial
IsForm (Deleting soa step) = AreOpenSteps soa (deleting_blocks step)
IsForm (Adding soa step) = AreOpenSteps soa (adding_blocks step)
IsForm (ClosedSteps soa steps last) =
    (is_incremental (soa_block soa ∷ (steps_blocks steps ++ soa_block last ∷ [])) ≡ true)
    × (steps_to soa.serial (steps_blocks steps ++ soa_block last ∷ []) ≡ Some steps)

-- what a SOA is to a transfer of these blocks, where it ends it so, or doesn't
abbrev pub Goes : Result NextSoa TransferError → List Block → Soa → Option End → Type 0
Goes (Ok (On next)) bs soa gives = (gives ≡ None) × (next ≡ bs ++ soa_block soa ∷ [])
Goes (Ok (Current theirs)) bs soa gives = gives ≡ Some (Ok theirs)
Goes (Err errors.OutOfMemory) bs soa gives = Unit {0}
Goes (Err (errors.Fault fault)) bs soa gives = gives ≡ Some (Err fault)

-- the transfer, or the blocks where it isn't closed
abbrev pub IsClosedOr : AtEnd → List Block → Option Transfer → Type 0
IsClosedOr (Done transfer) bs gives = gives ≡ Some transfer
IsClosedOr (Open same) bs gives = (gives ≡ None) × (same ≡ bs)
