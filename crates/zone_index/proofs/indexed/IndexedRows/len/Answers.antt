use Rattle.std.proofs.Common.{subst}
use Rattle.std.specs.Prelude.{All}
use Rattle.std.proofs.lemmas.List.Elements.{All-map}
use Rattle.dns_record.specs.Row.{IsRow}
use Rattle.zone_index.specs.Placed.{PlainIndexed}
use Rattle.zone_rows.specs.Stored.{plain_row}
use Rattle.zone_index.proofs.indexed.IndexedRows.len.Goals as goal

pub returns-clause-are_rows : goal.returns-clause-are_rows
returns-clause-are_rows c =
    subst (λ (v : PlainIndexed). All IsRow v.rows) c.self.view_is (All-map IsRow plain_row c.self.inside.rows.rows (λ k d h. (c.self.invariant.stored k d h).is_row))
