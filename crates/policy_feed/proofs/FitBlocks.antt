-- What is known of the blocks of a transfer that no record ended, and of the transfer that they are.
use Rattle.std.specs.Prelude.{◌≡◌, ℕ, ◌==◌, Bool, true, false, not, ◌&&◌, if◌then◌else◌, List, [], ◌∷◌, ◌++◌, Option, Some, None, option_map, is_some, Err, refl}
use Rattle.std.proofs.Common.{ap, subst, ◌∙◌}
use Rattle.std.proofs.lemmas.Bool.{eqb-true}
use Rattle.dns_record.specs.declared.soa.Soa.{Soa}
use Rattle.dns_record.specs.Record.{PlainRecord}
use Rattle.dns_record.specs.Row.{PlainRow, row_of}
use Rattle.zone_rows.specs.Steps.{PlainStep}
use Rattle.zone_rows.specs.declared.transfer.Transfer.{Transfer}
use Rattle.zone_rows.specs.declared.transfer.Transfer.TheVariants.{Whole, Steps}
use Rattle.axfr_apply.specs.declared.transfer_request.TransferRequest.{TransferRequest}
use Rattle.axfr_apply.specs.declared.transfer_request.Wanted.{Wanted}
use Rattle.axfr_apply.specs.declared.transfer_request.Wanted.TheVariants as wants
use Rattle.axfr_apply.specs.declared.fault.TransferFault.{TransferFault}
use Rattle.axfr_apply.specs.declared.fault.TransferFault.TheVariants.{SoaDiffers, Gap, TrailingRecord}
use Rattle.axfr_apply.specs.Block.{Block, incremental_transfer, is_empty, is_incremental, holds_soa, soa_held, step_between, steps_to, transfer_of, whole_transfer}
use Rattle.axfr_apply.specs.Gathered.{with_held, with_record, with_row}
use Rattle.axfr_apply.specs.Reading.{End, answer_end, soa_block, close_fault, first_soa_end, first_step_fault, later_soa_fault, open_end, place_fault, place_or, soa_end}

-- the first SOA, of this serial, goes on with the transfer
abbrev pub GoesOn : Wanted → ℕ → Type 0
GoesOn wanted theirs = (alone : Bool) × (first_soa_end wanted alone theirs ≡ None)

-- where the second block makes the transfer incremental, its SOA may begin the first step
abbrev pub BeginsSteps : Wanted → Block → Block → Type 0
BeginsSteps wanted first second = is_incremental (first ∷ second ∷ []) ≡ true → first_step_fault wanted first.soa.serial second.soa.serial ≡ None

abbrev pub FitBehind : Wanted → Block → List Block → Type 0
FitBehind wanted first [] = Unit {0}
FitBehind wanted first (second ∷ others) = BeginsSteps wanted first second

-- what is known of the blocks
abbrev pub Fit : Wanted → List Block → Type 0
Fit wanted [] = Unit {0}
Fit wanted (first ∷ others) = GoesOn wanted first.soa.serial × FitBehind wanted first others

-- nothing ends the transfer where the whole doesn't
pub no_more : (b : Bool) (end : End) (rest : Option End) → (if b then Some end else rest) ≡ None → rest ≡ None
no_more true end rest e = cc
no_more false end rest e = e

well_placed : (fault : Option TransferFault) (rest : Option End) → place_or fault rest ≡ None → rest ≡ None
well_placed None rest e = e
well_placed (Some fault) rest e = cc

without_fault : (fault : Option TransferFault) → option_map {U = End} Err fault ≡ None → fault ≡ None
without_fault None e = refl
without_fault (Some fault) e = cc

begins_if : (b : Bool) (one other : Option TransferFault) → (if b then one else other) ≡ None → b ≡ true → one ≡ None
begins_if true one other e h = e
begins_if false one other e h = cc

-- a row behind the blocks
fit_row : (wanted : Wanted) (bs : List Block) (row : PlainRow) → Fit wanted bs → Fit wanted (with_row bs row)
fit_row wanted [] row fit = tt
fit_row wanted (first ∷ []) row fit = (fit.0, tt)
fit_row wanted (first ∷ second ∷ []) row fit = fit
fit_row wanted (first ∷ second ∷ third ∷ others) row fit = fit

-- a SOA behind the blocks
fit_soa : (wanted : Wanted) (alone : Bool) (bs : List Block) (soa : Soa) → soa_end wanted alone bs soa ≡ None → Fit wanted bs → Fit wanted (bs ++ soa_block soa ∷ [])
fit_soa wanted alone [] soa e fit = ((alone, e), tt)
fit_soa wanted alone (first ∷ []) soa e fit = (
  fit.0,
  begins_if (is_incremental (first ∷ soa_block soa ∷ [])) (first_step_fault wanted first.soa.serial soa.serial) (close_fault first.soa.serial soa.serial)
      (without_fault (later_soa_fault wanted first [] soa) e),
)
fit_soa wanted alone (first ∷ second ∷ others) soa e fit = fit

fit_held : (wanted : Wanted) (alone : Bool) (bs : List Block) (row : PlainRow) (held : Option Soa) (fault : Option TransferFault)
    → open_end wanted alone bs held fault ≡ None → Fit wanted bs → Fit wanted (with_held bs row held)
fit_held wanted alone bs row None fault e fit = fit_row wanted bs row fit
fit_held wanted alone bs row (Some soa) fault e fit = fit_soa wanted alone bs soa (well_placed fault (soa_end wanted alone bs soa) e) fit

-- a record that doesn't end the transfer
pub fit_record : (asked : TransferRequest) (alone : Bool) (bs : List Block) (r : PlainRecord) → answer_end asked alone bs r ≡ None → Fit asked.wanted bs → Fit asked.wanted (with_record bs r)
fit_record asked alone bs r e fit =
    let fault : Option TransferFault = place_fault asked.origin (holds_soa r) r in
    fit_held asked.wanted alone bs (row_of r) (soa_held r) fault (no_more (is_some (transfer_of bs)) (Err TrailingRecord) (open_end asked.wanted alone bs (soa_held r) fault) e) fit

-- the first step is one from what we have
abbrev pub StepsFit : Wanted → List PlainStep → Type 0
StepsFit wanted [] = ⊥
StepsFit (wants.Whole have) (step ∷ steps) = ⊥
StepsFit (wants.Newer ours) (step ∷ steps) = step.old.serial ≡ ours

-- a whole transfer is newer than what we have, and steps begin at it
abbrev pub TransferFits : Wanted → Transfer → Type 0
TransferFits wanted (Whole soa rows) = GoesOn wanted soa.serial
TransferFits wanted (Steps steps) = StepsFit wanted steps

differ : (empty same : Bool) (fault : TransferFault) → (empty && not same) ≡ true → (if same then None else Some fault) ≡ None → ⊥
differ true true fault h e = cc
differ true false fault h e = cc
differ false same fault h e = cc

is_same : (same : Bool) (fault : TransferFault) → (if same then None else Some fault) ≡ None → same ≡ true
is_same true fault e = refl
is_same false fault e = cc

-- a step that begins at the second block, where that makes the transfer incremental
step_fits : (wanted : Wanted) (first second : Block) (step : PlainStep) (steps : List PlainStep) → step.old ≡ second.soa → is_incremental (first ∷ second ∷ []) ≡ true
    → BeginsSteps wanted first second → StepsFit wanted (step ∷ steps)
step_fits (wants.Whole have) first second step steps old is soa_block =
    differ (is_empty first.rows) (second.soa.serial == first.soa.serial) (SoaDiffers first.soa.serial second.soa.serial) is (soa_block is)
step_fits (wants.Newer ours) first second step steps old is soa_block =
    ap (λ (soa : Soa). soa.serial) old ∙ eqb-true second.soa.serial ours (is_same (second.soa.serial == ours) (Gap ours second.soa.serial) (soa_block is))

-- steps with this one as the first
first_fits : (wanted : Wanted) (reached : Bool) (step : PlainStep) (more : Option (List PlainStep)) (steps : List PlainStep) → ((rest : List PlainStep) → StepsFit wanted (step ∷ rest))
    → (if reached then Some (step ∷ []) else option_map (λ others. step ∷ others) more) ≡ Some steps → StepsFit wanted steps
first_fits wanted true step more steps fits e = let same : step ∷ [] ≡ steps = cc in subst (StepsFit wanted) same (fits [])
first_fits wanted false step None steps fits e = absurd cc
first_fits wanted false step (Some others) steps fits e = let same : step ∷ others ≡ steps = cc in subst (StepsFit wanted) same (fits others)

steps_fit : (wanted : Wanted) (newest : ℕ) (first second : Block) (others : List Block) (steps : List PlainStep) → is_incremental (first ∷ second ∷ []) ≡ true → BeginsSteps wanted first second
    → steps_to newest (second ∷ others) ≡ Some steps → StepsFit wanted steps
steps_fit wanted newest first second [] steps is soa_block e = absurd cc
steps_fit wanted newest first second (new ∷ []) steps is soa_block e = absurd cc
steps_fit wanted newest first second (new ∷ next ∷ others) steps is soa_block e =
    first_fits wanted (new.soa.serial == newest) (step_between second new) (steps_to newest (next ∷ others)) steps
    (λ rest. step_fits wanted first second (step_between second new) rest refl is soa_block) e

incremental_fits : (wanted : Wanted) (first second : Block) (others : List Block) (steps : Option (List PlainStep)) (transfer : Transfer) → is_incremental (first ∷ second ∷ []) ≡ true → BeginsSteps wanted first second
    → steps_to first.soa.serial (second ∷ others) ≡ steps → option_map Steps steps ≡ Some transfer → TransferFits wanted transfer
incremental_fits wanted first second others None transfer is soa_block steps e = absurd cc
incremental_fits wanted first second others (Some them) transfer is soa_block steps e =
    let same : Steps them ≡ transfer = cc in subst (TransferFits wanted) same (steps_fit wanted first.soa.serial first second others them is soa_block steps)

kind_fits : (wanted : Wanted) (b : Bool) (first second : Block) (others : List Block) (transfer : Transfer) → is_incremental (first ∷ second ∷ []) ≡ b → GoesOn wanted first.soa.serial → BeginsSteps wanted first second
    → (if b then incremental_transfer (first ∷ second ∷ others) else whole_transfer (first ∷ second ∷ others)) ≡ Some transfer → TransferFits wanted transfer
kind_fits wanted true first second others transfer is goes soa_block e = incremental_fits wanted first second others (steps_to first.soa.serial (second ∷ others)) transfer is soa_block refl e
kind_fits wanted false first second others transfer is goes soa_block e =
    let same : Whole first.soa first.rows ≡ transfer = cc in subst (TransferFits wanted) same goes

pub transfer_fits : (wanted : Wanted) (bs : List Block) (transfer : Transfer) → Fit wanted bs → transfer_of bs ≡ Some transfer → TransferFits wanted transfer
transfer_fits wanted [] transfer fit e = absurd cc
transfer_fits wanted (first ∷ []) transfer fit e = absurd cc
transfer_fits wanted (first ∷ second ∷ others) transfer fit e = kind_fits wanted (is_incremental (first ∷ second ∷ [])) first second others transfer refl fit.0 fit.1 e
