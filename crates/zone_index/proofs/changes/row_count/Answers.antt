use Rattle.zone_index.proofs.Changed.{stored_rows}
use Rattle.zone_index.proofs.changes.row_count.Goals as goal

pub returns-clause-rows : goal.returns-clause-rows
returns-clause-rows c = stored_rows c.list-list.result.now.rows c.args.rows.now c.list-list.ensures.rows c.list-list.ensures.are_stored
