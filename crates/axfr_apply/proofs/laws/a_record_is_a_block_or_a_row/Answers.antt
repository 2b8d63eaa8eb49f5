use Rattle.axfr_apply.proofs.OneMore.{one_more_record}
use Rattle.axfr_apply.proofs.laws.a_record_is_a_block_or_a_row.Goals as goal

pub returns : goal.returns
returns c = one_more_record
