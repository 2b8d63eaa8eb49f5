use Rattle.std.proofs.Common.{ap}
use Rattle.zone_index.specs.Placed.{PlainIndexed}
use Rattle.zone_index.proofs.WholeRows.{rows_made, too_many}
use Rattle.zone_index.proofs.loaded.whole_distinct.Goals as goal

pub returns-in_ok-new : goal.returns-in_ok-new
returns-in_ok-new c = (
  rows_made c.args.soa c.args.rows.rows c.len.ensures.distinct c.len.result c.len.ensures.len c.if-len.true c.in_ok-new.field-0.soa c.in_ok-new.field-0.rows.rows
      c.in_ok-new.ensures.soa (ap (λ (i : PlainIndexed). i.rows) c.in_ok-new.ensures.rows),
  c.in_ok-new.ensures.loaded,
)

pub returns-else-len : goal.returns-else-len
returns-else-len c = too_many c.args.soa c.args.rows.rows c.len.ensures.distinct c.len.result c.len.ensures.len c.if-len.false
