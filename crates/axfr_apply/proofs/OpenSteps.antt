-- Steps of which none up to here reaches the newest version, and what comes behind them.
use Rattle.std.specs.Prelude.{◌≡◌, ◌≢◌, ℕ, ◌==◌, Bool, true, false, ◌||◌, if◌then◌else◌, List, [], ◌∷◌, ◌++◌, Option, Some, None, option_map, refl}
use Rattle.std.proofs.Common.{ap, ◌∙◌, sym, append_assoc}
use Rattle.std.proofs.lemmas.Bool.{eq-eqb, ne_eqb}
use Rattle.dns_record.specs.declared.soa.Soa.{Soa}
use Rattle.dns_record.specs.Row.{PlainRow}
use Rattle.zone_rows.specs.Steps.{PlainStep}
use Rattle.zone_rows.specs.declared.transfer.Transfer.{Transfer}
use Rattle.zone_rows.specs.declared.transfer.Transfer.TheVariants.{Steps}
use Rattle.axfr_apply.specs.Block.{Block, incremental_transfer, is_incremental, steps_to, transfer_of, whole_transfer}
use Rattle.axfr_apply.specs.Gathered.{AreOpenSteps, steps_blocks}
use Rattle.axfr_apply.specs.Reading.{soa_block}
use Rattle.axfr_apply.proofs.StepBlocks.{new_of, old_of, one_step_more}

-- some step reaches this serial
abbrev reaches : ℕ → List PlainStep → Bool
reaches newest [] = false
reaches newest (step ∷ steps) = (step.new.serial == newest) || reaches newest steps

-- what the blocks behind a step say with it, by whether it reaches the newest serial
abbrev one_more : Bool → PlainStep → Option (List PlainStep) → Option (List PlainStep)
one_more reached step steps = if reached then Some (step ∷ []) else option_map (λ others. step ∷ others) steps

-- a step that no SOA of the newest serial ends, and those behind it
goes_on : (b c : Bool) (step : PlainStep) (steps : Option (List PlainStep)) → (steps ≡ None → c ≡ false) → one_more b step steps ≡ None → (b || c) ≡ false
goes_on true c step steps h e = cc
goes_on false c step None h e = h refl
goes_on false c step (Some steps) h e = cc

not_reached : (newest : ℕ) (steps : List PlainStep) (b : Block) (bs : List Block) → steps_to newest (steps_blocks steps ++ b ∷ bs) ≡ None → reaches newest steps ≡ false
not_reached newest [] b bs e = refl
not_reached newest (step ∷ []) b bs e = goes_on (step.new.serial == newest) false step (steps_to newest (b ∷ bs)) (λ _. refl) e
not_reached newest (step ∷ next ∷ steps) b bs e =
    goes_on (step.new.serial == newest) (reaches newest (next ∷ steps)) step (steps_to newest (steps_blocks (next ∷ steps) ++ b ∷ bs))
    (not_reached newest (next ∷ steps) b bs) e

-- steps that don't reach the serial, before others
abbrev behind : List PlainStep → Option (List PlainStep) → Option (List PlainStep)
behind steps others = option_map (λ more. steps ++ more) others

behind_none : (others : Option (List PlainStep)) → others ≡ behind [] others
behind_none None = refl
behind_none (Some steps) = refl

behind_one : (b c : Bool) (step : PlainStep) (steps : List PlainStep) (those others : Option (List PlainStep)) → (b || c) ≡ false → (c ≡ false → those ≡ behind steps others)
    → one_more b step those ≡ behind (step ∷ steps) others
behind_one true c step steps those others e h = cc
behind_one false c step steps those None e h = ap (one_more false step) (h e)
behind_one false c step steps those (Some more) e h = ap (one_more false step) (h e)

reads_on : (newest : ℕ) (steps : List PlainStep) (b : Block) (bs : List Block) → reaches newest steps ≡ false
    → steps_to newest (steps_blocks steps ++ b ∷ bs) ≡ behind steps (steps_to newest (b ∷ bs))
reads_on newest [] b bs e = behind_none (steps_to newest (b ∷ bs))
reads_on newest (step ∷ []) b bs e =
    behind_one (step.new.serial == newest) false step [] (steps_to newest (b ∷ bs)) (steps_to newest (b ∷ bs)) e
    (λ _. behind_none (steps_to newest (b ∷ bs)))
reads_on newest (step ∷ next ∷ steps) b bs e =
    behind_one (step.new.serial == newest) (reaches newest (next ∷ steps)) step (next ∷ steps)
    (steps_to newest (steps_blocks (next ∷ steps) ++ b ∷ bs)) (steps_to newest (b ∷ bs)) e
    (reads_on newest (next ∷ steps) b bs)

-- the transfer stays incremental with blocks behind those that it has
pub incremental_on : (soa : Soa) (bs more : List Block) → is_incremental (soa_block soa ∷ bs) ≡ true → is_incremental (soa_block soa ∷ (bs ++ more)) ≡ true
incremental_on soa [] more e = cc
incremental_on soa (b ∷ bs) more e = e

-- whether the transfer is incremental doesn't hang on the rows of its blocks behind the first
same_start_one : (soa : Soa) (steps : List PlainStep) (from : Soa) (rows others : List PlainRow)
    → is_incremental (soa_block soa ∷ (steps_blocks steps ++ record { soa = from; rows = rows } ∷ [])) ≡ true
    → is_incremental (soa_block soa ∷ (steps_blocks steps ++ record { soa = from; rows = others } ∷ [])) ≡ true
same_start_one soa [] from rows others e = e
same_start_one soa (step ∷ steps) from rows others e = e

same_start_two : (soa : Soa) (steps : List PlainStep) (old new other : Block)
    → is_incremental (soa_block soa ∷ (steps_blocks steps ++ old ∷ [] ++ new ∷ [])) ≡ true
    → is_incremental (soa_block soa ∷ (steps_blocks steps ++ old ∷ [] ++ other ∷ [])) ≡ true
same_start_two soa [] old new other e = e
same_start_two soa (step ∷ steps) old new other e = e

-- none of the steps before two blocks reaches the newest version
not_reached_two : (newest : ℕ) (steps : List PlainStep) (old new : Block)
    → steps_to newest (steps_blocks steps ++ old ∷ [] ++ new ∷ []) ≡ None → reaches newest steps ≡ false
not_reached_two newest steps old new e =
    not_reached newest steps old (new ∷ []) (ap (steps_to newest) (sym (append_assoc (steps_blocks steps) (old ∷ []) (new ∷ []))) ∙ e)

reads_on_two : (newest : ℕ) (steps : List PlainStep) (old new : Block) → reaches newest steps ≡ false
    → steps_to newest (steps_blocks steps ++ old ∷ [] ++ new ∷ []) ≡ None
reads_on_two newest steps old new e =
    ap (steps_to newest) (append_assoc (steps_blocks steps) (old ∷ []) (new ∷ [])) ∙ reads_on newest steps old (new ∷ []) e

-- the SOA of a new version, behind the rows that are taken out
pub open_with_version : (soa : Soa) (steps : List PlainStep) (old new : Block)
    → AreOpenSteps soa (steps_blocks steps ++ old ∷ []) → AreOpenSteps soa (steps_blocks steps ++ old ∷ [] ++ new ∷ [])
open_with_version soa steps old new o = record {
  incremental = incremental_on soa (steps_blocks steps ++ old ∷ []) (new ∷ []) o.incremental;
  not_closed = reads_on_two soa.serial steps old new (not_reached soa.serial steps old [] o.not_closed);
}

-- other rows that are taken out
pub open_with_deleted : (soa : Soa) (steps : List PlainStep) (from : Soa) (rows others : List PlainRow)
    → AreOpenSteps soa (steps_blocks steps ++ record { soa = from; rows = rows } ∷ [])
    → AreOpenSteps soa (steps_blocks steps ++ record { soa = from; rows = others } ∷ [])
open_with_deleted soa steps from rows others o = record {
  incremental = same_start_one soa steps from rows others o.incremental;
  not_closed =
      let e : reaches soa.serial steps ≡ false = not_reached soa.serial steps (record { soa = from; rows = rows }) [] o.not_closed in
      reads_on soa.serial steps (record { soa = from; rows = others }) [] e;
}

-- other rows that are put in
pub open_with_added : (soa : Soa) (steps : List PlainStep) (old : Block) (to : Soa) (rows others : List PlainRow)
    → AreOpenSteps soa (steps_blocks steps ++ old ∷ [] ++ record { soa = to; rows = rows } ∷ [])
    → AreOpenSteps soa (steps_blocks steps ++ old ∷ [] ++ record { soa = to; rows = others } ∷ [])
open_with_added soa steps old to rows others o = record {
  incremental = same_start_two soa steps old (record { soa = to; rows = rows }) (record { soa = to; rows = others }) o.incremental;
  not_closed =
      let e : reaches soa.serial steps ≡ false = not_reached_two soa.serial steps old (record { soa = to; rows = rows }) o.not_closed in
      reads_on_two soa.serial steps old (record { soa = to; rows = others }) e;
}

-- the blocks of one step more, and a SOA behind them
pub step_and_soa : (steps : List PlainStep) (step : PlainStep) (last : Soa)
    → steps_blocks (steps ++ step ∷ []) ++ soa_block last ∷ [] ≡ steps_blocks steps ++ old_of step ∷ [] ++ new_of step ∷ [] ++ soa_block last ∷ []
step_and_soa steps step last = ap (λ bs. bs ++ soa_block last ∷ []) (one_step_more steps step)

incremental_behind : (soa : Soa) (steps : List PlainStep) (step : PlainStep) (last : Soa)
    → AreOpenSteps soa (steps_blocks steps ++ old_of step ∷ [] ++ new_of step ∷ [])
    → is_incremental (soa_block soa ∷ (steps_blocks (steps ++ step ∷ []) ++ soa_block last ∷ [])) ≡ true
incremental_behind soa steps step last o =
    ap (λ bs. is_incremental (soa_block soa ∷ bs)) (step_and_soa steps step last)
    ∙ incremental_on soa (steps_blocks steps ++ old_of step ∷ [] ++ new_of step ∷ []) (soa_block last ∷ []) o.incremental

regroup : (bs : List Block) (old new last : Block) → bs ++ old ∷ [] ++ new ∷ [] ++ last ∷ [] ≡ bs ++ old ∷ new ∷ last ∷ []
regroup bs old new last = append_assoc (bs ++ old ∷ []) (new ∷ []) (last ∷ []) ∙ append_assoc bs (old ∷ []) (new ∷ last ∷ [])

-- what is read of steps, one step more and a SOA
reads_behind : (newest : ℕ) (steps : List PlainStep) (step : PlainStep) (last : Soa)
    → steps_to newest (steps_blocks steps ++ old_of step ∷ [] ++ new_of step ∷ []) ≡ None
    → steps_to newest (steps_blocks (steps ++ step ∷ []) ++ soa_block last ∷ []) ≡ behind steps (one_more (step.new.serial == newest) step None)
reads_behind newest steps step last e =
    ap (steps_to newest) (step_and_soa steps step last ∙ regroup (steps_blocks steps) (old_of step) (new_of step) (soa_block last))
    ∙ reads_on newest steps (old_of step) (new_of step ∷ soa_block last ∷ []) (not_reached_two newest steps (old_of step) (new_of step) e)

-- the SOA behind a step to the newest version closes the transfer
pub closed_behind : (soa : Soa) (steps : List PlainStep) (step : PlainStep) (last : Soa)
    → AreOpenSteps soa (steps_blocks steps ++ old_of step ∷ [] ++ new_of step ∷ []) → step.new.serial ≡ soa.serial
    → (is_incremental (soa_block soa ∷ (steps_blocks (steps ++ step ∷ []) ++ soa_block last ∷ [])) ≡ true)
    × (steps_to soa.serial (steps_blocks (steps ++ step ∷ []) ++ soa_block last ∷ []) ≡ Some (steps ++ step ∷ []))
closed_behind soa steps step last o e = (
  incremental_behind soa steps step last o,
  reads_behind soa.serial steps step last o.not_closed ∙ ap (λ b. behind steps (one_more b step None)) (eq-eqb step.new.serial soa.serial e),
)

-- the SOA behind a step to another version begins the next step
pub open_behind : (soa : Soa) (steps : List PlainStep) (step : PlainStep) (last : Soa)
    → AreOpenSteps soa (steps_blocks steps ++ old_of step ∷ [] ++ new_of step ∷ []) → step.new.serial ≢ soa.serial
    → AreOpenSteps soa (steps_blocks (steps ++ step ∷ []) ++ soa_block last ∷ [])
open_behind soa steps step last o ne = record {
  incremental = incremental_behind soa steps step last o;
  not_closed =
      reads_behind soa.serial steps step last o.not_closed
      ∙ ap (λ b. behind steps (one_more b step None)) (ne_eqb step.new.serial soa.serial ne);
}

read_incremental : (b : Bool) (one other : Option Transfer) → b ≡ true → (if b then one else other) ≡ one
read_incremental true one other e = refl
read_incremental false one other e = cc

-- open steps are no transfer yet
pub open_is_none : (soa : Soa) (bs : List Block) → AreOpenSteps soa bs → transfer_of (soa_block soa ∷ bs) ≡ None
open_is_none soa bs o =
    read_incremental (is_incremental (soa_block soa ∷ bs)) (incremental_transfer (soa_block soa ∷ bs)) (whole_transfer (soa_block soa ∷ bs)) o.incremental
    ∙ ap (option_map Steps) o.not_closed
