use Rattle.zone_rows.proofs.OneAfterAnother.{one_after_another}
use Rattle.zone_rows.proofs.laws.steps_are_taken_one_after_another.Goals as goal

pub returns : goal.returns
returns c = one_after_another
