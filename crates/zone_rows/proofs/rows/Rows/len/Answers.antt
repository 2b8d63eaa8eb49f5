use Rattle.std.proofs.Common.{◌<◌, ◌^◌, List, length, subst}
use Rattle.dns_record.specs.Row.{PlainRow}
use Rattle.zone_rows.proofs.StoredRows.{few_rows}
use Rattle.zone_rows.proofs.rows.Rows.len.Goals as goal

pub returns-clause-fits : goal.returns-clause-fits
returns-clause-fits c = subst (λ (rows : List PlainRow). length rows < 2 ^ 32) c.self.view_is (few_rows c.self.inside.list c.len.ensures.rising c.len.ensures.fits)
