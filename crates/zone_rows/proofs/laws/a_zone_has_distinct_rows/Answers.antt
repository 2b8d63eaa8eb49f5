use Rattle.zone_rows.proofs.StepRows.{applied_distinct}
use Rattle.zone_rows.proofs.laws.a_zone_has_distinct_rows.Goals as goal

pub returns : goal.returns
returns c = applied_distinct
