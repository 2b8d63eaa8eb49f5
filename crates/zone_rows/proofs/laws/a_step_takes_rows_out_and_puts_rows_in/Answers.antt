use Rattle.zone_rows.proofs.OneAfterAnother.{step_rows, step_deleted}
use Rattle.zone_rows.proofs.laws.a_step_takes_rows_out_and_puts_rows_in.Goals as goal

pub returns : goal.returns
returns c = record { rows = step_rows; deleted = step_deleted }
