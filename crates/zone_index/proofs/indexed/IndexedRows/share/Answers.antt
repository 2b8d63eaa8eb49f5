use Rattle.zone_index.proofs.Copied.{copied_indexed, copied_seen}
use Rattle.zone_index.proofs.indexed.IndexedRows.share.Goals as goal

pub invariant_of-result : goal.invariant_of-result
invariant_of-result c = copied_indexed c.self.inside.origin c.in_ok-origin.origin c.self.inside.rows c.in_ok-rows.rows c.self.inside.index c.in_ok-index.index c.in_ok-origin.ensures c.in_ok-rows.ensures c.in_ok-index.ensures c.self.invariant

pub returns : goal.returns
returns c = copied_seen c.self.inside.origin c.in_ok-origin.origin c.self.inside.rows c.in_ok-rows.rows c.args.self.now c.in_ok-origin.ensures c.in_ok-rows.ensures c.self.view_is
