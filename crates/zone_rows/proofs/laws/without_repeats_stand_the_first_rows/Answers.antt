use Rattle.zone_rows.proofs.Firsts.{kept_distinct, kept_firsts, kept_ordered}
use Rattle.zone_rows.proofs.laws.without_repeats_stand_the_first_rows.Goals as goal

pub returns-clause-distinct : goal.returns-clause-distinct
returns-clause-distinct c = kept_distinct

pub returns-clause-firsts : goal.returns-clause-firsts
returns-clause-firsts c = kept_firsts

pub returns-clause-ordered : goal.returns-clause-ordered
returns-clause-ordered c = kept_ordered
