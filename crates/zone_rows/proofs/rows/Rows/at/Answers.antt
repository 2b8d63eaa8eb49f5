use Rattle.std.proofs.Common.{List, subst}
use Rattle.std.specs.Prelude.{All}
use Rattle.dns_record.specs.Row.{PlainRow, IsRow}
use Rattle.zone_rows.proofs.StoredRows.{are_rows}
use Rattle.zone_rows.proofs.rows.Rows.at.Goals as goal

pub returns-clause-are_rows : goal.returns-clause-are_rows
returns-clause-are_rows c = subst (λ (rows : List PlainRow). All IsRow rows) c.self.view_is (are_rows c.self.inside.list.rows c.self.invariant)
