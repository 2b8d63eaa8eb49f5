-- How a SOA ends an incremental transfer, behind steps.
use Rattle.std.specs.Prelude.{◌≡◌, Bool, true, false, if◌then◌else◌, List, [], ◌∷◌, ◌++◌, Option, Some, None, option_map, Result, Ok, Err, refl}
use Rattle.std.proofs.Common.{ap, sym, ◌∙◌}
use Rattle.std.proofs.lemmas.Bool.{true≢false}
use Rattle.std.specs.Result.{is_ok}
use Rattle.dns_record.specs.declared.soa.Soa.{Soa}
use Rattle.axfr_apply.specs.declared.transfer_request.Wanted.{Wanted}
use Rattle.axfr_apply.specs.declared.fault.TransferFault.{TransferFault}
use Rattle.axfr_apply.specs.Block.{Block, is_incremental}
use Rattle.axfr_apply.specs.Checks.{fault_or}
use Rattle.axfr_apply.specs.Gathered.{AreOpenSteps, adding_blocks, deleting_blocks}
use Rattle.axfr_apply.specs.Reading.{End, soa_block, behind_step_fault, close_fault, forward_fault, soa_end, step_soa_fault}
use Rattle.axfr_apply.specs.Stepping.{PlainAdding, PlainDeleting}
use Rattle.axfr_apply.proofs.OpenSteps.{incremental_on}
use Rattle.axfr_apply.proofs.StepBlocks.{fault_behind_one, fault_behind_two}

fault_if : (b : Bool) (one other : Option TransferFault) → b ≡ true → (if b then one else other) ≡ one
fault_if true one other e = refl
fault_if false one other e = cc

behind_open : (wanted : Wanted) (alone : Bool) (soa : Soa) (bs : List Block) (next : Soa) → AreOpenSteps soa bs
    → soa_end wanted alone (soa_block soa ∷ bs) next ≡ option_map Err (step_soa_fault wanted soa.serial bs next.serial)
behind_open wanted alone soa bs next o =
    ap (option_map Err)
    (fault_if (is_incremental (soa_block soa ∷ (bs ++ soa_block next ∷ []))) (step_soa_fault wanted soa.serial bs next.serial)
    (close_fault soa.serial next.serial) (incremental_on soa bs (soa_block next ∷ []) o.incremental))

-- the SOA of a new version
pub end_by_version : (wanted : Wanted) (alone : Bool) (soa : Soa) (step : PlainDeleting) (next : Soa) → AreOpenSteps soa (deleting_blocks step)
    → soa_end wanted alone (soa_block soa ∷ deleting_blocks step) next ≡ option_map Err (forward_fault step.from.serial next.serial)
end_by_version wanted alone soa step next o =
    behind_open wanted alone soa (deleting_blocks step) next o
    ∙ ap (option_map Err) (fault_behind_one wanted soa.serial step.steps (record { soa = step.from; rows = step.deleted }) next.serial)

-- the SOA behind a step
pub end_behind_step : (wanted : Wanted) (alone : Bool) (soa : Soa) (step : PlainAdding) (next : Soa) → AreOpenSteps soa (adding_blocks step)
    → soa_end wanted alone (soa_block soa ∷ adding_blocks step) next ≡ option_map Err (behind_step_fault soa.serial step.to.serial next.serial)
end_behind_step wanted alone soa step next o =
    behind_open wanted alone soa (adding_blocks step) next o
    ∙ ap (option_map Err)
    (fault_behind_two wanted soa.serial step.before.steps (record { soa = step.before.from; rows = step.before.deleted })
    (record { soa = step.to; rows = step.added }) next.serial)

-- nothing is wrong where a check says so
pub no_fault : (fault : Option TransferFault) (e : Result (Unit {0}) TransferFault) → e ≡ fault_or fault (Ok tt) → is_ok e ≡ true → option_map {U = End} Err fault ≡ None
no_fault None r e ok = refl
no_fault (Some fault) r e ok = absurd (true≢false (sym ok ∙ ap is_ok e))
