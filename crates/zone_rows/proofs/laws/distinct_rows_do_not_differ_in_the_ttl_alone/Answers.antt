use Rattle.zone_rows.proofs.Firsts.{alike_are_same}
use Rattle.zone_rows.proofs.laws.distinct_rows_do_not_differ_in_the_ttl_alone.Goals as goal

pub returns : goal.returns
returns c = alike_are_same
