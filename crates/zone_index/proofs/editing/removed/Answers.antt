use Rattle.std.proofs.Common.{sym, subst}
use Rattle.std.specs.Prelude.{All, not}
use Rattle.std.proofs.lemmas.List.Elements.{All-filter}
use Rattle.packed_lists.specs.Blocks.{PlainRowList}
use Rattle.packed_lists.specs.Stored.{has_number}
use Rattle.zone_rows.specs.Stored.{IsStored}
use Rattle.zone_index.proofs.editing.removed.Goals as goal

pub settle-requires-clause-stored : goal.settle-requires-clause-stored
settle-requires-clause-stored c =
    subst (λ (l : PlainRowList). All IsStored l.rows) (sym c.in_ok-remove.ensures.ok) (All-filter (λ row. not (has_number c.args.number row)) IsStored c.args.parts.rows.rows c.requires.stored)
