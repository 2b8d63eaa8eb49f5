use Rattle.zone_rows.proofs.StepRows.{outcome_distinct}
use Rattle.zone_rows.proofs.zone.PlainZone.apply.Goals as goal

pub returns-clause-distinct : goal.returns-clause-distinct
returns-clause-distinct c = outcome_distinct c.apply_within.result c.args.self.now c.args.transfer c.apply_within.ensures
