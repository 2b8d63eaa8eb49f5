-- Steps with one more.
use Rattle.std.proofs.Common.{◌≡◌, true, List, [], ◌∷◌, ◌++◌, Option, Some, None, refl, sym}
use Rattle.std.proofs.lemmas.Bool.{eqb-true, eq-eqb}
use Rattle.dns_record.specs.declared.soa.Soa.{Soa}
use Rattle.dns_record.specs.Serial.{is_newer}
use Rattle.zone_rows.specs.declared.steps.Step.{Step}
use Rattle.zone_rows.specs.Steps.{AreSteps, AreStepsFrom, ends_at}

push_behind : (before : Option Soa) (first : Step) (rest : List Step) (step : Step) → AreStepsFrom before (first ∷ rest) → ends_at (first ∷ rest) step.old.serial ≡ true → is_newer step.old.serial step.new.serial ≡ true
    → AreStepsFrom before (first ∷ rest ++ step ∷ [])
push_behind before first [] step are ends newer = (are.0, are.1, (sym (eqb-true first.new.serial step.old.serial ends), newer, tt))
push_behind before first (next ∷ rest) step are ends newer = (are.0, are.1, push_behind (Some first.new) next rest step are.2 ends newer)

pub steps_push : (steps : List Step) (step : Step) → AreSteps steps → ends_at steps step.old.serial ≡ true → is_newer step.old.serial step.new.serial ≡ true → AreSteps (steps ++ step ∷ [])
steps_push [] step are ends newer = (tt, newer, tt)
steps_push (first ∷ rest) step are ends newer = push_behind None first rest step are ends newer

ends_behind : (first : Step) (rest : List Step) (step : Step) → ends_at (first ∷ rest ++ step ∷ []) step.new.serial ≡ true
ends_behind first [] step = eq-eqb step.new.serial step.new.serial refl
ends_behind first (next ∷ rest) step = ends_behind next rest step

pub ends_push : (steps : List Step) (step : Step) → ends_at (steps ++ step ∷ []) step.new.serial ≡ true
ends_push [] step = eq-eqb step.new.serial step.new.serial refl
ends_push (first ∷ rest) step = ends_behind first rest step
