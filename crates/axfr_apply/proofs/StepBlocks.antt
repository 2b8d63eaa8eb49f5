-- The blocks of steps, and blocks behind them.
use Rattle.std.specs.Prelude.{◌≡◌, ℕ, List, [], ◌∷◌, ◌++◌, refl}
use Rattle.std.proofs.Common.{ap}
use Rattle.dns_record.specs.Row.{PlainRow}
use Rattle.zone_rows.specs.Steps.{PlainStep}
use Rattle.axfr_apply.specs.declared.transfer_request.Wanted.{Wanted}
use Rattle.axfr_apply.specs.Block.{Block}
use Rattle.axfr_apply.specs.Gathered.{steps_blocks, with_row}
use Rattle.axfr_apply.specs.Reading.{behind_step_fault, forward_fault, step_soa_fault}

-- the first block of a step, and the second
abbrev pub old_of : PlainStep → Block
old_of step = record { soa = step.old; rows = step.deleted }

abbrev pub new_of : PlainStep → Block
new_of step = record { soa = step.new; rows = step.added }

-- a SOA behind steps and one block is that of the version that the next step makes
pub fault_behind_one : (wanted : Wanted) (newest : ℕ) (steps : List PlainStep) (old : Block) (found : ℕ)
    → step_soa_fault wanted newest (steps_blocks steps ++ old ∷ []) found ≡ forward_fault old.soa.serial found
fault_behind_one wanted newest [] old found = refl
fault_behind_one wanted newest (step ∷ []) old found = refl
fault_behind_one wanted newest (step ∷ next ∷ steps) old found = fault_behind_one wanted newest (next ∷ steps) old found

-- a SOA behind steps and two blocks stands behind a step
pub fault_behind_two : (wanted : Wanted) (newest : ℕ) (steps : List PlainStep) (old new : Block) (found : ℕ)
    → step_soa_fault wanted newest (steps_blocks steps ++ old ∷ [] ++ new ∷ []) found ≡ behind_step_fault newest new.soa.serial found
fault_behind_two wanted newest [] old new found = refl
fault_behind_two wanted newest (step ∷ []) old new found = refl
fault_behind_two wanted newest (step ∷ next ∷ steps) old new found = fault_behind_two wanted newest (next ∷ steps) old new found

-- one step more is two blocks more
pub one_step_more : (steps : List PlainStep) (step : PlainStep)
    → steps_blocks (steps ++ step ∷ []) ≡ steps_blocks steps ++ old_of step ∷ [] ++ new_of step ∷ []
one_step_more [] step = refl
one_step_more (first ∷ steps) step = ap (λ bs. old_of first ∷ new_of first ∷ bs) (one_step_more steps step)

-- a row behind a first block, steps and one block, and behind two
pub row_behind_one : (first : Block) (steps : List PlainStep) (old : Block) (row : PlainRow)
    → with_row (first ∷ (steps_blocks steps ++ old ∷ [])) row ≡ first ∷ (steps_blocks steps ++ record { soa = old.soa; rows = old.rows ++ row ∷ [] } ∷ [])
row_behind_one first [] old row = refl
row_behind_one first (step ∷ steps) old row = ap (λ bs. first ∷ old_of step ∷ bs) (row_behind_one (new_of step) steps old row)

pub row_behind_two : (first : Block) (steps : List PlainStep) (old new : Block) (row : PlainRow)
    → with_row (first ∷ (steps_blocks steps ++ old ∷ [] ++ new ∷ [])) row
    ≡ first ∷ (steps_blocks steps ++ old ∷ [] ++ record { soa = new.soa; rows = new.rows ++ row ∷ [] } ∷ [])
row_behind_two first [] old new row = refl
row_behind_two first (step ∷ steps) old new row = ap (λ bs. first ∷ old_of step ∷ bs) (row_behind_two (new_of step) steps old new row)
