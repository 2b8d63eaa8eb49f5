-- What the reports of workers add up to.
use Rattle.std.specs.Prelude.{◌≡◌, ◌+◌, ◌-◌, ◌^◌, ℕ, min, List, [], ◌∷◌, length, Option}
use Rattle.edge_io.specs.Told.{one_more}
use Rattle.rpz_workers.specs.declared.report.Report.{Report}
use Rattle.rpz_program.specs.declared.sums.Sums.{Sums}

abbrev pub no_sums : Sums
no_sums = record { replies = 0; silent = 0; memory = 0; failed = 0 }

-- a sum in 64 bits, which stands still at 2^64 - 1
abbrev pub saturated : ℕ → ℕ → ℕ
saturated a b = min (a + b) (2 ^ 64 - 1)

abbrev pub with_report : Sums → Report → Sums
with_report sums report = record {
  replies = saturated sums.replies report.replies;
  silent = saturated sums.silent report.silent;
  memory = saturated sums.memory report.memory;
  failed = saturated sums.failed report.failed;
}

-- the sums of reports, of which the last stands first
abbrev pub sums_of : List Report → Sums
sums_of [] = no_sums
sums_of (report ∷ reports) = with_report (sums_of reports) report

-- these were gathered behind those before, where they are known; the last stands first
abbrev pub gathered_with : Option (List Report) → List Report → Option (List Report)
gathered_with gathered [] = gathered
gathered_with gathered (report ∷ reports) = one_more (gathered_with gathered reports) report

-- All workers that were waited for were gathered, and these are the sums of their reports.
pub record GathersAll (waiting : ℕ) (before after : Option (List Report)) (sums : Sums) : Type
    0 where
  pub reports : List Report
  pub all : length reports ≡ waiting
  pub gathered : after ≡ gathered_with before reports
  pub sums_are : sums ≡ sums_of reports
