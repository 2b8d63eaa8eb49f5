use Rattle.std.proofs.Common.{sym, subst}
use Rattle.zone_index.specs.Placed.{IsIndexOf}
use Rattle.zone_index.proofs.gathering.index_by.Goals as goal

pub returns : goal.returns
returns c = subst (IsIndexOf c.args.origin.now c.args.rows.now.rows) (sym c.in_ok-index.ensures) c.in_ok-entries.ensures
